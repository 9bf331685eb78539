-- The one spelling of a port.
use Rattle.std.proofs.Common.{◌≡◌, ◌≢◌, ◌∙◌, ◌^◌, ℕ, ℤ, pos, Some, true, sym, ap, subst, decimal, arith, FitsSigned, w64, to_z, of_z}
use Rattle.std.specs.Prelude.{IsTrue, int_lt}
use Rattle.std.specs.Fmt.{signed_decimal}
use Rattle.std.proofs.lemmas.Bool.{lt-ltb}
use Rattle.std.proofs.lemmas.Int.{ints, to_z-of_z}
use Rattle.clap.specs.Words.{Text}
use Rattle.mr_bytes.specs.Number.{is_i64, number_of}
use Rattle.mr_bytes.proofs.Numbers.{number_of-signed_decimal}
use Rattle.mr_options.specs.Values.{IsPort}
use Rattle.mr_options.proofs.Rows.{some_of}

fits : (port : ℕ) → IsPort port → IsTrue (is_i64 (pos port))
fits port is = let most = is.1 in lt-ltb port (2 ^ 63) (omega (arith, most))

-- what spells no number, spells no port
pub none_spelled : (text bytes : Text) → bytes ≡ text → ((n : ℤ) → IsTrue (is_i64 n) → bytes ≢ signed_decimal n) → (port : ℕ) → IsPort port → decimal port ≢ text
none_spelled text bytes same none port is e = none (pos port) (fits port is) (same ∙ sym e)

-- the number as the code compares it, where it is that of a port
same : (n : ℤ) (port : ℕ) → IsPort port → n ≡ pos port → to_z w64 (of_z w64 n) ≡ pos port
same n port is e =
    let most = is.1 in
    let small : FitsSigned w64 (pos port) = record { sfits = omega (arith, most) } in
    ap (λ (m : ℤ). to_z w64 (of_z w64 m)) e ∙ to_z-of_z w64 (pos port) small

module _ (text bytes : Text) (n : ℤ) (read : Some n ≡ number_of bytes) (spelled : bytes ≡ text) (port : ℕ) (is : IsPort port) (e : decimal port ≡ text) where
  its_number : to_z w64 (of_z w64 n) ≡ pos port
  its_number = same n port is (some_of n (pos port) (read ∙ (ap number_of (spelled ∙ sym e) ∙ number_of-signed_decimal (pos port) (fits port is))))

  -- it is not below 1
  pub not_below : int_lt (to_z w64 (of_z w64 n)) (pos 1) ≡ true → ⊥
  not_below h =
      let P : ℤ → Type 0 = λ m. int_lt m (pos 1) ≡ true in
      let below : int_lt (pos port) (pos 1) ≡ true = subst P its_number h in
      let least = is.0 in omega (arith, ints, below, least)

  -- nor above 65535
  pub not_above : int_lt (pos 65535) (to_z w64 (of_z w64 n)) ≡ true → ⊥
  not_above h =
      let P : ℤ → Type 0 = λ m. int_lt (pos 65535) m ≡ true in
      let above : int_lt (pos 65535) (pos port) ≡ true = subst P its_number h in
      let most = is.1 in omega (arith, ints, above, most)
