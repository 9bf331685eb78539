use Rattle.std.proofs.Common.{◌∙◌, arith}
use Rattle.mr_packed.proofs.Pairing.{spread_is, length-strings, first_at}
use Rattle.mr_packed.proofs.pairs.PackedPairs.first_at.Goals as goal

pub at-requires : goal.at-requires
at-requires c = record { within = omega (arith, c.requires.within, c.place.ensures.place, length-strings c.self.inside.strings c.args.self.now c.self.invariant c.self.view_is) }

pub returns-clause-string : goal.returns-clause-string
returns-clause-string c = c.at.ensures.string ∙ first_at c.self.inside.strings c.args.self.now c.args.at _ (spread_is _ _ c.self.invariant c.self.view_is) (c.place.ensures.place)
