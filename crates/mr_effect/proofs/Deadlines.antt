-- Deadlines are numbers of 64 bits.
use Rattle.std.proofs.Common.{ℤ, pos, negsuc, IsTrue, arith}
use Rattle.std.proofs.lemmas.Bool.Decides.{nat_tests}
use Rattle.mr_bytes.specs.Number.{is_i64}
use Rattle.mr_effect.specs.Effects.{is_deadline}

pub deadline_fits : (d : ℤ) → IsTrue (is_deadline d) → IsTrue (is_i64 d)
deadline_fits (pos n) h = grind (arith, nat_tests, h)
deadline_fits (negsuc n) h = cc
