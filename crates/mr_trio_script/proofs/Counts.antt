-- Numbers as texts.
use Rattle.std.proofs.Common.{◌≡◌, ◌≢◌, ◌∙◌, ℕ, ℤ, pos, negsuc, ◌<◌, ◌^◌, suc, List, [], ◌∷◌, Option, None, Some, Result, Ok, Err, decimal, sym, refl, subst, arith, w64, FitsSigned}
use Rattle.std.specs.Prelude.{IfNone, IsTrue, nat_abs}
use Rattle.std.specs.Fmt.{signed_decimal}
use Rattle.std.specs.Char.{digit_value}
use Rattle.std.specs.Str.Parse.{AllDigits}
use Rattle.std.proofs.lemmas.Fmt.{decimal_is_IsNumeral}
use Rattle.std.specs.Int.{FitsUnsignedBits}
use Rattle.std.specs.Result.{OkIff, result_ok}
use Rattle.std.proofs.lemmas.Bool.{lt-ltb}
use Rattle.mr_bytes.specs.Number.{is_i64}
use Rattle.mr_trio_script.specs.ReplyLines.{HasNoFeed}

of_digits : (ds : List ℕ) → AllDigits 10 ds → HasNoFeed ds
of_digits [] h = tt
of_digits (c ∷ cs) h =
    let P : ℕ → Type 0 = λ d. digit_value d < 10 in
    (λ is. absurd (let far : 36 < 10 = subst P is h.0 in omega (arith, far)), of_digits cs h.1)

pub no_feed_in : (n : ℕ) → n < 2 ^ 64 → HasNoFeed (decimal n)
no_feed_in n small = of_digits (decimal n) (decimal_is_IsNumeral n small).0.1

no_minus : (ds : List ℕ) (c : ℕ) → AllDigits 10 (c ∷ ds) → c ≢ 45
no_minus ds c h is =
    let P : ℕ → Type 0 = λ d. digit_value d < 10 in
    absurd (let far : 36 < 10 = subst P is h.0 in omega (arith, far))

minus_is_none : (ds : List ℕ) → AllDigits 10 ds → (more : List ℕ) → ds ≡ 45 ∷ more → ⊥
minus_is_none ds h more e = no_minus more 45 (subst (AllDigits 10) e h) refl

pub minus_is_no_digit : (n : ℕ) → n < 2 ^ 64 → (more : List ℕ) → decimal n ≡ 45 ∷ more → ⊥
minus_is_no_digit n small more e = minus_is_none (decimal n) (decimal_is_IsNumeral n small).0.1 more e

-- a text that is no number is no count
pub none_counted : (text : List ℕ) → ((n : ℤ) → IsTrue (is_i64 n) → text ≢ signed_decimal n) → (n : ℕ) → n < 2 ^ 63 → text ≢ decimal n
none_counted text none n small is = none (pos n) (lt-ltb _ _ small) is

-- .. and neither is a number below zero
pub counted : {E : Type 0} (text : List ℕ) (z y : ℤ) (r : Result ℕ E) (o : Option ℕ) → text ≡ signed_decimal z → FitsSigned w64 z → y ≡ z → OkIff r (FitsUnsignedBits 64 y) (nat_abs y) → o ≡ result_ok r → IfNone o ((n : ℕ) → n < 2 ^ 63 → text ≢ decimal n)
counted text z y (Ok x) (Some k) e fits is h same = tt
counted text z y (Ok x) None e fits is h same = cc
counted text z y (Err x) (Some k) e fits is h same = tt
counted text (pos m) y (Err x) None e fits is h same =
    let P : ℤ → Type 0 = FitsUnsignedBits 64 in
    absurd (h (subst P (sym is) (let small : m < 2 ^ 64 = omega (arith, fits.sfits) in small)))
counted text (negsuc m) y (Err x) None e fits is h same = λ n small other. minus_is_no_digit n (omega (arith, small)) (decimal (suc m)) (sym other ∙ e)
