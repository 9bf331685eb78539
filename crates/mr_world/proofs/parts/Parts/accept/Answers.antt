use Rattle.std.proofs.Common.{rules, ◌≡◌, ◌<◌, ◌∙◌, true, false, Err, length, refl, sym, ap, subst}
use Rattle.std.specs.Prelude.{slice_set}
use Rattle.mr_node.specs.Calls.{OpenRow}
use Rattle.law_refinement.specs.Carrying.{accepted_by}
use Rattle.law_refinement.specs.State.{Link, Slot, WorldState}
use Rattle.mr_world.specs.Calls.{Runs}
use Rattle.mr_world.specs.Accepting.{Accepted, CanAccept}
use Rattle.mr_world.proofs.Joins.{read_twice, runs_here, same_slots}
use Rattle.mr_world.proofs.Opening.{accepts_here, can_accept, down_here, stays_here}
use Rattle.mr_world.proofs.parts.Parts.accept.Goals as goal

pub returns-then-not-is_up : goal.returns-then-not-is_up
returns-then-not-is_up c =
    let w : WorldState = record { slots = c.self.inside.slots.items; links = c.self.inside.links.items; book = c.self.inside.book.items } in
    let l_in : c.args.l < length c.self.inside.links.items = search rules in
    let m_in : c.args.m < length c.self.inside.slots.items = search rules in
    let waits : c.index.result.now.waits ≡ true = sym c.waits.ensures ∙ c.if-not-waits.false in
    let down : c.index-2.result.now.node.core.up ≡ false = sym c.is_up.ensures ∙ c.if-not-is_up.true in
    subst (λ (z : WorldState). CanAccept z c.args.l c.args.m × Accepted z c.args.l c.args.m z) c.self.view_is (
      can_accept w c.args.l c.index.result.now l_in c.index.ensures waits c.args.m c.index-2.result.now m_in c.index-2.ensures,
      Accepted.rests (down_here w c.args.m c.index-2.result.now m_in c.index-2.ensures down) refl,
    )

pub returns-in-Ok : goal.returns-in-Ok
returns-in-Ok c =
    let w : WorldState = record { slots = c.self.inside.slots.items; links = c.self.inside.links.items; book = c.self.inside.book.items } in
    let l_in : c.args.l < length c.self.inside.links.items = search rules in
    let m_in : c.args.m < length c.self.inside.slots.items = search rules in
    let waits : c.index.result.now.waits ≡ true = sym c.waits.ensures ∙ c.if-not-waits.false in
    let same : c.index_mut-in-Ok.result.now ≡ c.index.result.now = read_twice c.self.inside.links.items c.args.l c.index_mut-in-Ok.result.now c.index.result.now l_in c.index_mut-in-Ok.ensures.value c.index.ensures in
    let link = c.accept.ensures ∙ ap (λ (z : Link). accepted_by c.args.m c.in-Ok.name z) same in
    subst (λ (z : WorldState). CanAccept z c.args.l c.args.m × Accepted z c.args.l c.args.m (record w { slots = slice_set w.slots c.args.m c.open.new.self; links = slice_set w.links c.args.l c.accept.new.self })) c.self.view_is (
      can_accept w c.args.l c.index.result.now l_in c.index.ensures waits c.args.m c.index-2.result.now m_in c.index-2.ensures,
      accepts_here w c.args.l c.index.result.now l_in c.index.ensures waits c.args.m c.index_mut.result.now m_in c.index_mut.ensures.value c.open.new.self c.in-Ok.name c.accept.new.self
          c.in-Ok.ensures.row.0 c.in-Ok.ensures.row.1 c.open.ensures.rest link,
    )

pub returns-in-Err-Memory : goal.returns-in-Err-Memory
returns-in-Err-Memory c =
    let w : WorldState = record { slots = c.self.inside.slots.items; links = c.self.inside.links.items; book = c.self.inside.book.items } in
    let l_in : c.args.l < length c.self.inside.links.items = search rules in
    let m_in : c.args.m < length c.self.inside.slots.items = search rules in
    let waits : c.index.result.now.waits ≡ true = sym c.waits.ensures ∙ c.if-not-waits.false in
    let row = subst (λ r. OpenRow c.index_mut.result.now.node c.open.new.self.node r) (c.in-Err-Memory.is ∙ ap Err c.in-Err-Memory.field-0-is) c.open.ensures.row in (
      subst (λ (z : WorldState). CanAccept z c.args.l c.args.m) c.self.view_is (can_accept w c.args.l c.index.result.now l_in c.index.ensures waits c.args.m c.index-2.result.now m_in c.index-2.ensures),
      subst (λ (z : WorldState). Runs z c.args.m) c.self.view_is (runs_here w c.args.m c.index_mut.result.now m_in c.index_mut.ensures.value row.0),
      same_slots w c.args.m c.index_mut.result.now m_in c.index_mut.ensures.value c.open.new.self w.links row.1 c.open.ensures.rest refl ∙ c.self.view_is,
    )

pub returns-in-Err-Stopped : goal.returns-in-Err-Stopped
returns-in-Err-Stopped c =
    let w : WorldState = record { slots = c.self.inside.slots.items; links = c.self.inside.links.items; book = c.self.inside.book.items } in
    let l_in : c.args.l < length c.self.inside.links.items = search rules in
    let m_in : c.args.m < length c.self.inside.slots.items = search rules in
    let waits : c.index.result.now.waits ≡ true = sym c.waits.ensures ∙ c.if-not-waits.false in
    let row = subst (λ r. OpenRow c.index_mut.result.now.node c.open.new.self.node r) (c.in-Err-Stopped.is ∙ ap Err c.in-Err-Stopped.field-0-is) c.open.ensures.row in
    subst (λ (z : WorldState). CanAccept z c.args.l c.args.m × Accepted z c.args.l c.args.m (record w { slots = slice_set w.slots c.args.m c.open.new.self })) c.self.view_is (
      can_accept w c.args.l c.index.result.now l_in c.index.ensures waits c.args.m c.index-2.result.now m_in c.index-2.ensures,
      stays_here w c.args.l c.index.result.now l_in c.index.ensures waits c.args.m c.index_mut.result.now m_in c.index_mut.ensures.value c.open.new.self w.links row c.open.ensures.rest refl,
    )
