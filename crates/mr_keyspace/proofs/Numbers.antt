-- Numbers of 64 bits, as calls are given them.
use Rattle.std.proofs.Common.{◌≡◌, ℤ, sym, subst, to_z, of_z, w64}
use Rattle.std.specs.Prelude.{IsTrue, T}
use Rattle.std.proofs.Math.Facts.{sfits_lit}
use Rattle.std.proofs.lemmas.Int.{to_z-of_z}
use Rattle.mr_bytes.specs.Number.{is_i64}

pub same_number : (z : ℤ) → IsTrue (is_i64 z) → to_z w64 (of_z w64 z) ≡ z
same_number z h = to_z-of_z w64 z (sfits_lit {w = w64} {z = z} (subst T (sym h) tt))
