use Rattle.std.proofs.Common.{ap, ◌∙◌, arith}
use Rattle.std.specs.List.{remove_range}
use Rattle.mr_packed.specs.Packing.{spelled_all}
use Rattle.mr_packed.proofs.Packing.{packing, strings_are, taken_out, start_bound, start_order, walked}
use Rattle.mr_packed.proofs.packed.Packed.remove_range.Goals as goal

pub drain-requires-clause-start_le_end : goal.drain-requires-clause-start_le_end
drain-requires-clause-start_le_end c = start_order c.args.self.now c.args.from c.args.to _ _ c.requires.ordered c.start-start.ensures (walked _ _ c.args.self.now c.args.to _ c.deref.ensures.value c.self.view_is c.walk-end.ensures)

pub drain-requires-clause-in_bounds : goal.drain-requires-clause-in_bounds
drain-requires-clause-in_bounds c =
    omega (arith, c.self.inside.bytes.ok, start_bound _ c.args.self.now c.args.to _ (c.self.invariant ∙ ap spelled_all c.self.view_is) (walked _ _ c.args.self.now c.args.to _ c.deref.ensures.value c.self.view_is c.walk-end.ensures))

pub invariant_of-self : goal.invariant_of-self
invariant_of-self c =
    let old = c.args.self.now in
    packing _ (remove_range old c.args.from c.args.to)
    (c.give_room_back.ensures ∙ c.drop-drain.ensures.items ∙ c.drain.ensures.kept ∙ taken_out _ old c.args.from c.args.to _ _ (c.self.invariant ∙ ap spelled_all c.self.view_is) c.start-start.ensures (walked _ _ c.args.self.now c.args.to _ c.deref.ensures.value c.self.view_is c.walk-end.ensures))

pub returns : goal.returns
returns c =
    let old = c.args.self.now in
    strings_are _ (remove_range old c.args.from c.args.to)
    (c.give_room_back.ensures ∙ c.drop-drain.ensures.items ∙ c.drain.ensures.kept ∙ taken_out _ old c.args.from c.args.to _ _ (c.self.invariant ∙ ap spelled_all c.self.view_is) c.start-start.ensures (walked _ _ c.args.self.now c.args.to _ c.deref.ensures.value c.self.view_is c.walk-end.ensures))
