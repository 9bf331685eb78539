use Rattle.std.proofs.Common.{arith}
use Rattle.mr_packed.proofs.Pairing.{length-strings}
use Rattle.mr_packed.proofs.pairs.PackedPairs.len.Goals as goal

pub returns-clause-len : goal.returns-clause-len
returns-clause-len c = omega (arith, c.len.ensures.len, length-strings c.self.inside.strings c.args.self.now c.self.invariant c.self.view_is)
