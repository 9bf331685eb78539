use Rattle.std.proofs.Common.{◌+◌, length, set, ap, ◌∙◌, arith}
use Rattle.mr_packed.specs.Packing.{spelled_all, strings_of}
use Rattle.mr_packed.proofs.Packing.{count_bound, packing, strings_are, put_over, start_bound, start_order, walked}
use Rattle.mr_packed.proofs.packed.Packed.replace.Goals as goal

pub replace-requires-clause-ordered : goal.replace-requires-clause-ordered
replace-requires-clause-ordered c =
    start_order c.args.self.now c.args.at (c.args.at + 1) _ _ (omega arith) c.start-start.ensures (walked _ _ c.args.self.now (c.args.at + 1) _ c.deref.ensures.value c.self.view_is c.walk-end.ensures)

pub replace-requires-clause-within : goal.replace-requires-clause-within
replace-requires-clause-within c =
    start_bound _ c.args.self.now (c.args.at + 1) _ (c.self.invariant ∙ ap spelled_all c.self.view_is) (walked _ _ c.args.self.now (c.args.at + 1) _ c.deref.ensures.value c.self.view_is c.walk-end.ensures)

pub invariant_of-self-2 : goal.invariant_of-self-2
invariant_of-self-2 c =
    let end_is = walked _ _ c.args.self.now (c.args.at + 1) _ c.deref.ensures.value c.self.view_is c.walk-end.ensures in
    packing _ (set c.args.self.now c.args.at c.args.string.now)
    (c.in_ok-replace.ensures.ok ∙ put_over _ c.args.self.now c.args.at _ _ _ (c.self.invariant ∙ ap spelled_all c.self.view_is) c.requires.within c.start-start.ensures end_is)

pub returns-clause-ok : goal.returns-clause-ok
returns-clause-ok c =
    let end_is = walked _ _ c.args.self.now (c.args.at + 1) _ c.deref.ensures.value c.self.view_is c.walk-end.ensures in
    strings_are _ (set c.args.self.now c.args.at c.args.string.now)
    (c.in_ok-replace.ensures.ok ∙ put_over _ c.args.self.now c.args.at _ _ _ (c.self.invariant ∙ ap spelled_all c.self.view_is) c.requires.within c.start-start.ensures end_is)

pub prove-unreachable-requires : goal.prove-unreachable-requires
prove-unreachable-requires c =
    omega (arith, c.if-prove.true, c.len.ensures, c.requires.within, ap length c.self.view_is, count_bound _ (strings_of c.self.inside.bytes.items) c.self.invariant, c.self.inside.bytes.ok)
