use Rattle.std.proofs.Common.{slice_range, ◌++◌, ap, ◌∙◌}
use Rattle.mr_packed.specs.Packing.{spelled_all}
use Rattle.mr_packed.proofs.Packing.{packing, strings_are, joined, between, start_bound, start_order, walked}
use Rattle.mr_packed.proofs.packed.Packed.append_range.Goals as goal

pub between-part-requires-clause-ordered : goal.between-part-requires-clause-ordered
between-part-requires-clause-ordered c = start_order c.args.other.now c.args.from c.args.to _ _ c.requires.ordered c.start-start.ensures (walked _ _ c.args.other.now c.args.to _ c.deref.ensures.value c.other.view_is c.walk-end.ensures)

pub between-part-requires-clause-within : goal.between-part-requires-clause-within
between-part-requires-clause-within c =
    start_bound _ c.args.other.now c.args.to _ (c.deref-2.ensures.value ∙ c.other.invariant ∙ ap spelled_all c.other.view_is) (walked _ _ c.args.other.now c.args.to _ c.deref.ensures.value c.other.view_is c.walk-end.ensures)

pub invariant_of-self-2 : goal.invariant_of-self-2
invariant_of-self-2 c =
    let old = c.args.self.now in
    let more = slice_range c.args.other.now c.args.from c.args.to in
    packing _ (old ++ more)
    (c.in_ok-extend.ensures.ok ∙ joined _ _ old more (c.self.invariant ∙ ap spelled_all c.self.view_is)
    (c.between-part.ensures ∙ between _ c.args.other.now c.args.from c.args.to _ _ (c.deref-2.ensures.value ∙ c.other.invariant ∙ ap spelled_all c.other.view_is) c.requires.ordered c.start-start.ensures (walked _ _ c.args.other.now c.args.to _ c.deref.ensures.value c.other.view_is c.walk-end.ensures)))

pub returns-clause-ok : goal.returns-clause-ok
returns-clause-ok c =
    let old = c.args.self.now in
    let more = slice_range c.args.other.now c.args.from c.args.to in
    strings_are _ (old ++ more)
    (c.in_ok-extend.ensures.ok ∙ joined _ _ old more (c.self.invariant ∙ ap spelled_all c.self.view_is)
    (c.between-part.ensures ∙ between _ c.args.other.now c.args.from c.args.to _ _ (c.deref-2.ensures.value ∙ c.other.invariant ∙ ap spelled_all c.other.view_is) c.requires.ordered c.start-start.ensures (walked _ _ c.args.other.now c.args.to _ c.deref.ensures.value c.other.view_is c.walk-end.ensures)))
