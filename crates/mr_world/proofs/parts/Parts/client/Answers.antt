use Rattle.std.proofs.Common.{rules, ◌<◌, ◌++◌, ◌∷◌, [], ◌∙◌, List, length, sym, ap, subst, Err}
use Rattle.mr_node.specs.Calls.{OpenRow}
use Rattle.law_refinement.specs.State.{WorldState, Link}
use Rattle.std.specs.Prelude.{slice_set}
use Rattle.mr_world.specs.Calls.{Clients, Runs}
use Rattle.mr_world.proofs.Joins.{came, rests_here, runs_here, same_slots, stops_here}
use Rattle.mr_world.proofs.parts.Parts.client.Goals as goal

pub returns-then-not-is_up : goal.returns-then-not-is_up
returns-then-not-is_up c =
    let w : WorldState = record { slots = c.self.inside.slots.items; links = c.self.inside.links.items; book = c.self.inside.book.items } in
    let within : c.args.n < length c.self.inside.slots.items = search rules in
    subst (λ (z : WorldState). Clients z c.args.n z) c.self.view_is (rests_here w c.args.n c.index.result.now within c.index.ensures (sym c.is_up.ensures ∙ c.if-not-is_up.true))

pub returns-then-is_err : goal.returns-then-is_err
returns-then-is_err c =
    let w : WorldState = record { slots = c.self.inside.slots.items; links = c.self.inside.links.items; book = c.self.inside.book.items } in
    let within : c.args.n < length c.self.inside.slots.items = search rules in (
      subst (λ (z : WorldState). Runs z c.args.n) c.self.view_is (runs_here w c.args.n c.index.result.now within c.index.ensures (sym c.is_up.ensures ∙ c.if-not-is_up.false)),
      ap (λ (z : List Link). record w { links = z }) c.reserve.ensures.items ∙ c.self.view_is,
    )

pub returns-in-Ok-push : goal.returns-in-Ok-push
returns-in-Ok-push c =
    let w : WorldState = record { slots = c.self.inside.slots.items; links = c.self.inside.links.items; book = c.self.inside.book.items } in
    let within : c.args.n < length c.self.inside.slots.items = search rules in
    subst (λ (z : WorldState). Clients z c.args.n (record w { slots = slice_set w.slots c.args.n c.open.new.self; links = c.push.new.self.items })) c.self.view_is
    (came w c.args.n c.index_mut.result.now within c.index_mut.ensures.value c.open.new.self c.in-Ok.name c.client.result c.push.new.self.items c.in-Ok.ensures.row.0 c.in-Ok.ensures.row.1 c.open.ensures.rest c.client.ensures
    (c.in-Ok-push.ensures.items ∙ ap (λ (z : List Link). z ++ c.client.result ∷ []) c.reserve.ensures.items))

pub returns-in-Err-Memory : goal.returns-in-Err-Memory
returns-in-Err-Memory c =
    let w : WorldState = record { slots = c.self.inside.slots.items; links = c.self.inside.links.items; book = c.self.inside.book.items } in
    let within : c.args.n < length c.self.inside.slots.items = search rules in
    let row = subst (λ r. OpenRow c.index_mut.result.now.node c.open.new.self.node r) (c.in-Err-Memory.is ∙ ap Err c.in-Err-Memory.field-0-is) c.open.ensures.row in (
      subst (λ (z : WorldState). Runs z c.args.n) c.self.view_is (runs_here w c.args.n c.index_mut.result.now within c.index_mut.ensures.value row.0),
      same_slots w c.args.n c.index_mut.result.now within c.index_mut.ensures.value c.open.new.self c.reserve.new.self.items row.1 c.open.ensures.rest c.reserve.ensures.items ∙ c.self.view_is,
    )

pub returns-in-Err-Stopped : goal.returns-in-Err-Stopped
returns-in-Err-Stopped c =
    let w : WorldState = record { slots = c.self.inside.slots.items; links = c.self.inside.links.items; book = c.self.inside.book.items } in
    let within : c.args.n < length c.self.inside.slots.items = search rules in
    let row = subst (λ r. OpenRow c.index_mut.result.now.node c.open.new.self.node r) (c.in-Err-Stopped.is ∙ ap Err c.in-Err-Stopped.field-0-is) c.open.ensures.row in
    subst (λ (z : WorldState). Clients z c.args.n (record w { slots = slice_set w.slots c.args.n c.open.new.self; links = c.reserve.new.self.items })) c.self.view_is
    (stops_here w c.args.n c.index_mut.result.now within c.index_mut.ensures.value c.open.new.self c.reserve.new.self.items row c.open.ensures.rest c.reserve.ensures.items)
