use Rattle.std.proofs.Common.{arith, w64, ap}
use Rattle.std.specs.Prelude.{◌==◌}
use Rattle.std.proofs.lemmas.Nat.Bits.{bit_at-trailing_zeros}
use Rattle.mr_glob.proofs.pattern.mask.lowest.Goals as goal

pub returns-clause-below : goal.returns-clause-below
returns-clause-below c k less = ap (λ n. n == 1) ((bit_at-trailing_zeros w64 c.args.mask (omega (arith, c.requires)) c.ranges.mask.fits).2 k less)
