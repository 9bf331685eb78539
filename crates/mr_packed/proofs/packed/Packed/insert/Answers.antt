use Rattle.std.proofs.Common.{ap, ◌∙◌}
use Rattle.std.specs.List.{insert}
use Rattle.mr_packed.specs.Packing.{spelled_all}
use Rattle.mr_packed.proofs.Packing.{packing, strings_are, put_in, start_bound}
use Rattle.mr_packed.proofs.packed.Packed.insert.Goals as goal

pub insert-requires-clause-within : goal.insert-requires-clause-within
insert-requires-clause-within c = start_bound _ c.args.self.now c.args.at _ (c.self.invariant ∙ ap spelled_all c.self.view_is) c.start-start.ensures

pub invariant_of-self-2 : goal.invariant_of-self-2
invariant_of-self-2 c =
    let old = c.args.self.now in
    packing _ (insert old c.args.at c.args.string.now)
    (c.in_ok-insert.ensures.ok ∙ put_in _ old c.args.at _ _ (c.self.invariant ∙ ap spelled_all c.self.view_is) c.start-start.ensures)

pub returns-clause-ok : goal.returns-clause-ok
returns-clause-ok c =
    let old = c.args.self.now in
    strings_are _ (insert old c.args.at c.args.string.now)
    (c.in_ok-insert.ensures.ok ∙ put_in _ old c.args.at _ _ (c.self.invariant ∙ ap spelled_all c.self.view_is) c.start-start.ensures)
