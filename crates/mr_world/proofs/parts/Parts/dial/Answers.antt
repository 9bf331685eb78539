use Rattle.std.proofs.Common.{rules, ◌≡◌, ◌<◌, ◌∙◌, true, false, length, sym, subst}
use Rattle.law_refinement.specs.State.{Slot, WorldState}
use Rattle.mr_world.specs.Connecting.{BothRun, CanDial, Dialled}
use Rattle.mr_world.proofs.Joins.{read_twice}
use Rattle.mr_world.proofs.Meeting.{both, can, dialler_rests_here, server_rests_here}
use Rattle.mr_world.proofs.parts.Parts.dial.Goals as goal

pub returns-then-not-is_up : goal.returns-then-not-is_up
returns-then-not-is_up c =
    let w : WorldState = record { slots = c.self.inside.slots.items; links = c.self.inside.links.items; book = c.self.inside.book.items } in
    let n_in : c.args.n < length c.self.inside.slots.items = search rules in
    let m_in : c.args.m < length c.self.inside.slots.items = search rules in
    let waits = c.waits.ensures.0 c.if-not-waits.false in
    let node : c.index-2.result.now ≡ c.index.result.now = read_twice c.self.inside.slots.items c.args.n c.index-2.result.now c.index.result.now n_in c.index-2.ensures c.index.ensures in
    let up : c.index.result.now.node.core.up ≡ false = subst (λ (z : Slot). z.node.core.up ≡ false) node (sym c.is_up.ensures ∙ c.if-not-is_up.true) in
    subst (λ (z : WorldState). CanDial z c.args.n c.args.m × Dialled z c.args.n c.args.m z) c.self.view_is
    (dialler_rests_here w c.args.n c.args.m c.index.result.now n_in c.index.ensures m_in waits.0 waits.1 up)

pub returns-then-not-is_up-2 : goal.returns-then-not-is_up-2
returns-then-not-is_up-2 c =
    let w : WorldState = record { slots = c.self.inside.slots.items; links = c.self.inside.links.items; book = c.self.inside.book.items } in
    let n_in : c.args.n < length c.self.inside.slots.items = search rules in
    let m_in : c.args.m < length c.self.inside.slots.items = search rules in
    let waits = c.waits.ensures.0 c.if-not-waits.false in
    subst (λ (z : WorldState). CanDial z c.args.n c.args.m × Dialled z c.args.n c.args.m z) c.self.view_is
    (can w c.args.n c.args.m c.index.result.now c.index-3.result.now n_in c.index.ensures m_in c.index-3.ensures waits.0 waits.1, server_rests_here w c.args.n c.args.m c.index.result.now c.index-3.result.now n_in c.index.ensures m_in c.index-3.ensures waits.0 waits.1 (sym c.is_up-2.ensures ∙ c.if-not-is_up-2.true))

pub open_both-requires-clause-both : goal.open_both-requires-clause-both
open_both-requires-clause-both c =
    let w : WorldState = record { slots = c.self.inside.slots.items; links = c.self.inside.links.items; book = c.self.inside.book.items } in
    let n_in : c.args.n < length c.self.inside.slots.items = search rules in
    let m_in : c.args.m < length c.self.inside.slots.items = search rules in
    let waits = c.waits.ensures.0 c.if-not-waits.false in
    let node : c.index-2.result.now ≡ c.index.result.now = read_twice c.self.inside.slots.items c.args.n c.index-2.result.now c.index.result.now n_in c.index-2.ensures c.index.ensures in
    let up : c.index.result.now.node.core.up ≡ true = subst (λ (z : Slot). z.node.core.up ≡ true) node (sym c.is_up.ensures ∙ c.if-not-is_up.false) in
    let serving : c.index-3.result.now.node.core.up ≡ true = sym c.is_up-2.ensures ∙ c.if-not-is_up-2.false in
    subst (λ (z : WorldState). BothRun z c.args.n c.args.m) c.self.view_is (both w c.args.n c.args.m c.index.result.now c.index-3.result.now n_in c.index.ensures m_in c.index-3.ensures waits.0 waits.1 up serving)
