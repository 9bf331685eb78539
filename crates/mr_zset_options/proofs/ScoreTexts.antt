-- A score's text is no option word.
use Rattle.std.proofs.Common.{ℕ, ℤ, pos, negsuc, ◌+◌, ◌<◌, ◌≤◌, ◌^◌, ◌≡◌, List, [], ◌∷◌, ◌++◌, length, get_or, decimal, Bool, false, Some, None, inl, inr, refl, sym, ap, subst, arith}
use Rattle.std.specs.Prelude.{if◌then◌else◌, IsTrue, nat_lt}
use Rattle.std.specs.Fmt.{signed_decimal}
use Rattle.std.specs.Option.{is_some}
use Rattle.std.proofs.lemmas.Bool.{lt-ltb, ltb-true}
use Rattle.std.proofs.lemmas.Fmt.{decimal_is_IsNumeral}
use Rattle.std.proofs.lemmas.Str.Parse.{digit_at}
use Rattle.mr_bytes.specs.Number.{is_i64}
use Rattle.mr_bytes.proofs.Numbers.{same_bytes}
use Rattle.mr_arguments.specs.Names.{lowered, lowered_byte}
use Rattle.mr_arguments.proofs.PartLemmas.{found_passes}
use Rattle.mr_score.specs.Texts.{IsScoreText}
use Rattle.mr_score.proofs.TextLemmas.{score_fits}
use Rattle.mr_zset_options.specs.AddOptions.{add_option, add_text, all_add_options, is_add_option}
use Rattle.mr_zset_options.specs.declared.add_options.AddOption.{AddOption}
use Rattle.mr_zset_options.specs.declared.add_options.AddOption.TheVariants as add
use Rattle.mr_zset_options.specs.declared.choices.ScoreCondition.TheVariants.{Absent, Present}
use Rattle.mr_zset_options.specs.declared.choices.Comparison.TheVariants.{Greater, Less}

-- a text that begins with a digit or a minus
abbrev BeginsLow : List ℕ → Type 0
BeginsLow [] = ⊥
BeginsLow (c ∷ cs) = c < 65

begins_low : (cs : List ℕ) → 0 < length cs → get_or cs 0 0 < 65 → BeginsLow cs
begins_low [] h low = let no : ⊥ = omega arith in absurd no
begins_low (c ∷ cs) h low = low

joined_low : (cs ds : List ℕ) → BeginsLow cs → BeginsLow (cs ++ ds)
joined_low [] ds h = absurd h
joined_low (c ∷ cs) ds h = h

number_low : (n : ℤ) → IsTrue (is_i64 n) → BeginsLow (signed_decimal n)
number_low (pos n) fits =
    let small : n < 2 ^ 63 = ltb-true _ _ fits in
    let numeral = decimal_is_IsNumeral n (omega arith) in
    begins_low (decimal n) numeral.0.0 (omega (arith, digit_at (decimal n) 0 numeral.0.1 numeral.0.0))
number_low (negsuc n) fits = omega arith

score_low : (w : List ℕ) (n : ℤ) → IsScoreText w n → BeginsLow w
score_low w n h = elim h.1 [
  | inl same ↦ subst BeginsLow (sym same) (number_low n (score_fits n h.0))
  | inr more ↦ subst BeginsLow (sym more.2) (joined_low (signed_decimal n) _ (number_low n (score_fits n h.0)))
]

no_letter : (c b : ℕ) → c < 65 → lowered_byte c ≡ b → 65 ≤ b → ⊥
no_letter c b low e high =
    let same : lowered_byte c ≡ c = ap (λ (t : Bool). if t then c else (if nat_lt c 91 then c + 32 else c)) (lt-ltb c 65 low) in
    omega (arith, same, e)

-- an option word begins with a letter
letter : (o : AddOption) (cs : List ℕ) → BeginsLow cs → lowered cs ≡ add_text o → ⊥
letter o [] h e = absurd h
letter (add.Condition Absent) (c ∷ cs) h e = no_letter c 110 h (ap (λ xs. get_or xs 0 0) e) (omega arith)
letter (add.Condition Present) (c ∷ cs) h e = no_letter c 120 h (ap (λ xs. get_or xs 0 0) e) (omega arith)
letter (add.Comparison Greater) (c ∷ cs) h e = no_letter c 103 h (ap (λ xs. get_or xs 0 0) e) (omega arith)
letter (add.Comparison Less) (c ∷ cs) h e = no_letter c 108 h (ap (λ xs. get_or xs 0 0) e) (omega arith)
letter add.Changed (c ∷ cs) h e = no_letter c 99 h (ap (λ xs. get_or xs 0 0) e) (omega arith)

pub no_option : (w : List ℕ) (n : ℤ) → IsScoreText w n → is_some (add_option w) ≡ false
no_option w n h = elim (add_option w) as (λ o. add_option w ≡ o → is_some o ≡ false) [
  | None ↦ λ s. refl
  | Some o ↦ λ s. let no : ⊥ = letter o w (score_low w n h) (same_bytes _ _ (found_passes (is_add_option (lowered w)) all_add_options o s)) in absurd no
] refl
