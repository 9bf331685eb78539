use Rattle.std.proofs.Common.{ap, ◌∙◌}
use Rattle.std.specs.List.{insert}
use Rattle.mr_packed.specs.Packing.{spelled_all}
use Rattle.mr_packed.proofs.Packing.{packing, strings_are, put_two, start_bound}
use Rattle.mr_packed.proofs.packed.Packed.insert_two.Goals as goal

pub insert_two-requires-clause-within : goal.insert_two-requires-clause-within
insert_two-requires-clause-within c = start_bound _ c.args.self.now c.args.at _ (c.self.invariant ∙ ap spelled_all c.self.view_is) c.start-start.ensures

pub invariant_of-self-2 : goal.invariant_of-self-2
invariant_of-self-2 c =
    let old = c.args.self.now in
    packing _ (insert (insert old c.args.at c.args.second.now) c.args.at c.args.first.now)
    (c.in_ok-insert_two.ensures.ok ∙ put_two _ old c.args.at _ _ _ (c.self.invariant ∙ ap spelled_all c.self.view_is) c.start-start.ensures c.requires.within)

pub returns-clause-ok : goal.returns-clause-ok
returns-clause-ok c =
    let old = c.args.self.now in
    strings_are _ (insert (insert old c.args.at c.args.second.now) c.args.at c.args.first.now)
    (c.in_ok-insert_two.ensures.ok ∙ put_two _ old c.args.at _ _ _ (c.self.invariant ∙ ap spelled_all c.self.view_is) c.start-start.ensures c.requires.within)
