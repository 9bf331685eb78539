use Rattle.std.proofs.Common.{◌∙◌, arith}
use Rattle.std.specs.List.{insert}
use Rattle.mr_packed.proofs.Pairing.{spread_is, length-strings, pairs_are, paired, pair_in}
use Rattle.mr_packed.proofs.pairs.PackedPairs.insert.Goals as goal

pub insert_two-requires-clause-within : goal.insert_two-requires-clause-within
insert_two-requires-clause-within c = omega (arith, c.requires.within, c.place-place.ensures.place, length-strings c.self.inside.strings c.args.self.now c.self.invariant c.self.view_is)

pub invariant_of-self-2 : goal.invariant_of-self-2
invariant_of-self-2 c =
    let spread = spread_is _ _ c.self.invariant c.self.view_is in
    paired _ (insert c.args.self.now c.args.at (c.args.first.now, c.args.second.now))
    (c.in_ok-insert_two.ensures.ok ∙ pair_in c.self.inside.strings c.args.self.now c.args.at _ c.args.first.now c.args.second.now spread c.place-place.ensures.place c.requires.within)

pub returns-clause-ok : goal.returns-clause-ok
returns-clause-ok c =
    let spread = spread_is _ _ c.self.invariant c.self.view_is in
    pairs_are _ (insert c.args.self.now c.args.at (c.args.first.now, c.args.second.now))
    (c.in_ok-insert_two.ensures.ok ∙ pair_in c.self.inside.strings c.args.self.now c.args.at _ c.args.first.now c.args.second.now spread c.place-place.ensures.place c.requires.within)
