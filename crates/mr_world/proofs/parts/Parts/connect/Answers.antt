use Rattle.std.proofs.Common.{rules, ◌≡◌, ◌<◌, ◌++◌, ◌∷◌, [], ◌∙◌, true, false, Err, List, length, refl, sym, ap, subst}
use Rattle.std.specs.Prelude.{None, slice_set}
use Rattle.mr_follower.specs.Handshake.{ping_line}
use Rattle.law_refinement.specs.Way.{no_way, sent_on}
use Rattle.law_refinement.specs.State.{Link, Slot, WorldState}
use Rattle.mr_world_parts.specs.AtNode.{DialsBy}
use Rattle.mr_world.specs.Calls.{Runs}
use Rattle.mr_world.specs.Accepting.{CanConnect, Connected}
use Rattle.mr_world.proofs.Joins.{read_twice, runs_here, same_slots}
use Rattle.mr_world.proofs.Opening.{can_connect, down_here, ends_here, opens_here}
use Rattle.mr_world.proofs.parts.Parts.connect.Goals as goal

pub returns-then-not-is_up : goal.returns-then-not-is_up
returns-then-not-is_up c =
    let w : WorldState = record { slots = c.self.inside.slots.items; links = c.self.inside.links.items; book = c.self.inside.book.items } in
    let within : c.args.n < length c.self.inside.slots.items = search rules in
    let waits = c.waits.ensures.0 c.if-not-waits.false in
    let down : c.index-2.result.now.node.core.up ≡ false = sym c.is_up.ensures ∙ c.if-not-is_up.true in
    subst (λ (z : WorldState). CanConnect z c.args.n × Connected z c.args.n z) c.self.view_is
    (can_connect w c.args.n c.index.result.now within c.index.ensures waits.0 waits.1, Connected.rests (down_here w c.args.n c.index-2.result.now within c.index-2.ensures down) refl)

pub returns-in_default : goal.returns-in_default
returns-in_default c =
    let w : WorldState = record { slots = c.self.inside.slots.items; links = c.self.inside.links.items; book = c.self.inside.book.items } in
    let within : c.args.n < length c.self.inside.slots.items = search rules in
    let waits = c.waits.ensures.0 c.if-not-waits.false in
    let up : c.index-2.result.now.node.core.up ≡ true = sym c.is_up.ensures ∙ c.if-not-is_up.false in (
      subst (λ (z : WorldState). CanConnect z c.args.n) c.self.view_is (can_connect w c.args.n c.index.result.now within c.index.ensures waits.0 waits.1),
      subst (λ (z : WorldState). Runs z c.args.n) c.self.view_is (runs_here w c.args.n c.index-2.result.now within c.index-2.ensures up),
      refl,
    )

pub returns-then-is_err : goal.returns-then-is_err
returns-then-is_err c =
    let w : WorldState = record { slots = c.self.inside.slots.items; links = c.self.inside.links.items; book = c.self.inside.book.items } in
    let within : c.args.n < length c.self.inside.slots.items = search rules in
    let waits = c.waits.ensures.0 c.if-not-waits.false in
    let up : c.index-2.result.now.node.core.up ≡ true = sym c.is_up.ensures ∙ c.if-not-is_up.false in (
      subst (λ (z : WorldState). CanConnect z c.args.n) c.self.view_is (can_connect w c.args.n c.index.result.now within c.index.ensures waits.0 waits.1),
      subst (λ (z : WorldState). Runs z c.args.n) c.self.view_is (runs_here w c.args.n c.index-2.result.now within c.index-2.ensures up),
      ap (λ (z : List Link). record w { links = z }) c.reserve.ensures.items ∙ c.self.view_is,
    )

pub dial-requires-clause-replica : goal.dial-requires-clause-replica
dial-requires-clause-replica c =
    let within : c.args.n < length c.self.inside.slots.items = search rules in
    let node : c.index.result.now ≡ c.index_mut.result.now = read_twice c.self.inside.slots.items c.args.n c.index.result.now c.index_mut.result.now within c.index.ensures c.index_mut.ensures.value in
    subst (λ (z : Slot). z.node.core.master ≡ false) node (c.waits.ensures.0 c.if-not-waits.false).0

pub dial-requires-clause-alone : goal.dial-requires-clause-alone
dial-requires-clause-alone c =
    let within : c.args.n < length c.self.inside.slots.items = search rules in
    let node : c.index.result.now ≡ c.index_mut.result.now = read_twice c.self.inside.slots.items c.args.n c.index.result.now c.index_mut.result.now within c.index.ensures c.index_mut.ensures.value in
    subst (λ (z : Slot). z.node.follow ≡ None) node (c.waits.ensures.0 c.if-not-waits.false).1

pub returns-in-Ok-dial : goal.returns-in-Ok-dial
returns-in-Ok-dial c =
    let w : WorldState = record { slots = c.self.inside.slots.items; links = c.self.inside.links.items; book = c.self.inside.book.items } in
    let within : c.args.n < length c.self.inside.slots.items = search rules in
    let waits = c.waits.ensures.0 c.if-not-waits.false in
    let row = c.in-Ok-dial.ensures.row in
    let ask : c.in-Ok.ask ≡ sent_on ping_line no_way = search rules in
    let links : c.push.new.self.items ≡ c.self.inside.links.items ++ c.waiting.result ∷ [] = c.in-Ok-push.ensures.items ∙ ap (λ (z : List Link). z ++ c.waiting.result ∷ []) c.reserve.ensures.items in
    let place : c.len-l.result ≡ length c.self.inside.links.items = search rules in
    subst (λ (z : WorldState). CanConnect z c.args.n × Connected z c.args.n (record w { slots = slice_set w.slots c.args.n c.dial.new.self; links = c.push.new.self.items })) c.self.view_is (
      can_connect w c.args.n c.index.result.now within c.index.ensures waits.0 waits.1,
      opens_here w c.args.n c.index_mut.result.now within c.index_mut.ensures.value c.dial.new.self c.in-Ok-dial.name row.0 c.waiting.result c.push.new.self.items c.len-l.result c.in-Ok.ask
          row.1 place row.2 c.dial.ensures.sound c.in-Ok-dial.ensures.ok ask c.waiting.ensures links,
    )

pub returns-in-Err-Memory : goal.returns-in-Err-Memory
returns-in-Err-Memory c =
    let w : WorldState = record { slots = c.self.inside.slots.items; links = c.self.inside.links.items; book = c.self.inside.book.items } in
    let within : c.args.n < length c.self.inside.slots.items = search rules in
    let waits = c.waits.ensures.0 c.if-not-waits.false in
    let row = subst (λ r. DialsBy c.index_mut.result.now.node c.dial.new.self.node r) (c.in-Err-Memory.is ∙ ap Err c.in-Err-Memory.field-0-is) c.dial.ensures.row in
    let rest : c.dial.new.self ≡ record c.index_mut.result.now { node = c.dial.new.self.node } = search rules in (
      subst (λ (z : WorldState). CanConnect z c.args.n) c.self.view_is (can_connect w c.args.n c.index.result.now within c.index.ensures waits.0 waits.1),
      subst (λ (z : WorldState). Runs z c.args.n) c.self.view_is (runs_here w c.args.n c.index_mut.result.now within c.index_mut.ensures.value row.0),
      same_slots w c.args.n c.index_mut.result.now within c.index_mut.ensures.value c.dial.new.self c.reserve.new.self.items row.1 rest c.reserve.ensures.items ∙ c.self.view_is,
    )

pub returns-in-Err-Stopped : goal.returns-in-Err-Stopped
returns-in-Err-Stopped c =
    let w : WorldState = record { slots = c.self.inside.slots.items; links = c.self.inside.links.items; book = c.self.inside.book.items } in
    let within : c.args.n < length c.self.inside.slots.items = search rules in
    let waits = c.waits.ensures.0 c.if-not-waits.false in
    let row = subst (λ r. DialsBy c.index_mut.result.now.node c.dial.new.self.node r) (c.in-Err-Stopped.is ∙ ap Err c.in-Err-Stopped.field-0-is) c.dial.ensures.row in
    let rest : c.dial.new.self ≡ record c.index_mut.result.now { node = c.dial.new.self.node } = search rules in
    subst (λ (z : WorldState). CanConnect z c.args.n × Connected z c.args.n (record w { slots = slice_set w.slots c.args.n c.dial.new.self; links = c.reserve.new.self.items })) c.self.view_is (
      can_connect w c.args.n c.index.result.now within c.index.ensures waits.0 waits.1,
      ends_here w c.args.n c.index_mut.result.now within c.index_mut.ensures.value c.dial.new.self c.reserve.new.self.items row rest c.reserve.ensures.items,
    )
