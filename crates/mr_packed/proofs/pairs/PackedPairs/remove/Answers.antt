use Rattle.std.proofs.Common.{◌∙◌, arith}
use Rattle.std.specs.List.{remove}
use Rattle.mr_packed.proofs.Pairing.{spread_is, length-strings, pairs_are, paired, pair_out}
use Rattle.mr_packed.proofs.pairs.PackedPairs.remove.Goals as goal

pub remove_range-requires-clause-within : goal.remove_range-requires-clause-within
remove_range-requires-clause-within c = omega (arith, c.requires.within, c.place-place.ensures.place, length-strings c.self.inside.strings c.args.self.now c.self.invariant c.self.view_is)

pub invariant_of-self : goal.invariant_of-self
invariant_of-self c =
    paired _ (remove c.args.self.now c.args.at) (c.remove_range.ensures ∙ pair_out c.self.inside.strings c.args.self.now c.args.at _ (spread_is _ _ c.self.invariant c.self.view_is) c.place-place.ensures.place)

pub returns : goal.returns
returns c =
    pairs_are _ (remove c.args.self.now c.args.at) (c.remove_range.ensures ∙ pair_out c.self.inside.strings c.args.self.now c.args.at _ (spread_is _ _ c.self.invariant c.self.view_is) c.place-place.ensures.place)
