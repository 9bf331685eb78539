use Rattle.std.proofs.Common.{length, arith}
use Rattle.mr_packed.proofs.Pairing.{spread_is, length-strings, found_at, none_of}
use Rattle.mr_packed.proofs.pairs.PackedPairs.find.Goals as goal

pub returns-in-Some-clause-found : goal.returns-in-Some-clause-found
returns-in-Some-clause-found c = found_at c.self.inside.strings c.args.self.now c.args.first.now c.in-Some.at (spread_is _ _ c.self.invariant c.self.view_is) c.in-Some.ensures.found

pub returns-in-None-clause-none : goal.returns-in-None-clause-none
returns-in-None-clause-none c =
    none_of c.self.inside.strings c.args.self.now c.args.first.now (length c.self.inside.strings) (length c.args.self.now) (spread_is _ _ c.self.invariant c.self.view_is)
    (omega (arith, length-strings c.self.inside.strings c.args.self.now c.self.invariant c.self.view_is)) c.in-None.ensures.none
