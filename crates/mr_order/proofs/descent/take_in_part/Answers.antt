use Rattle.std.specs.List.{flat_map}
use Rattle.mr_order.proofs.Changing.{taken_in}
use Rattle.mr_order.proofs.Locating.{in_named}
use Rattle.mr_order.proofs.Narrow.{divided_in}
use Rattle.mr_order.proofs.descent.take_in_part.Goals as goal

pub take-requires-clause-divided : goal.take-requires-clause-divided
take-requires-clause-divided g c =
    let f = g.P.Part.items in
    let xs = c.args.parts.now.items in
    let d = c.index_mut.result.now in
    divided_in (g.Q.Query.compare c.args.query) (flat_map f xs) (f d) _ (in_named f xs c.args.part d c.requires.part c.index_mut.ensures.value) c.requires.divided

pub returns-clause-taken : goal.returns-clause-taken
returns-clause-taken g c =
    taken_in (g.Q.Query.compare c.args.query) g.P.Part.items c.args.parts.now.items c.args.part c.index_mut.result.now c.take.new.self c.requires.part c.index_mut.ensures.value c.requires.between c.take.result c.take.ensures.taken
