-- Numbers from 0 on, and the words that spell them.
use Rattle.std.proofs.Common.{◌≡◌, ℕ, ◌<◌, ◌^◌, List, decimal, true, false, ◌&&◌, cond, Some, None, refl, sym, ap, ◌∙◌, subst}
use Rattle.std.specs.Prelude.{nat_lt}
use Rattle.std.specs.Str.{bytes_eq}
use Rattle.std.specs.Str.Parse.{digits_value}
use Rattle.std.proofs.lemmas.Bool.{ltb-true, lt-ltb}
use Rattle.std.proofs.lemmas.Fmt.{decimal_is_IsNumeral}
use Rattle.mr_bytes.proofs.Numbers.{same_bytes, equal_bytes}
use Rattle.mr_bytes.proofs.Both.{first, second}
use Rattle.mr_world_script.specs.Words.{count_of}

-- A number's own text reads as that number.
pub count_of-decimal : (n : ℕ) → n < 2 ^ 64 → count_of (decimal n) ≡ Some n
unfolding count_of
count_of-decimal n small =
    let value : digits_value 10 (decimal n) ≡ n = (decimal_is_IsNumeral n small).1 in
    let fits : nat_lt n (2 ^ 64) ≡ true = lt-ltb n (2 ^ 64) small in
    rw (value, fits, equal_bytes (decimal n)) refl

pub count_is : (word : List ℕ) (n : ℕ) → n < 2 ^ 64 → word ≡ decimal n → count_of word ≡ Some n
count_is word n small e = ap count_of e ∙ count_of-decimal n small

-- Only the text of a number reads as one.
pub count_text : (word : List ℕ) (n : ℕ) → count_of word ≡ Some n → (word ≡ decimal n) × (n < 2 ^ 64)
unfolding count_of
count_text word n h =
    let v = digits_value 10 word in
    elim (nat_lt v (2 ^ 64) && bytes_eq (decimal v) word) as (λ b. nat_lt v (2 ^ 64) && bytes_eq (decimal v) word ≡ b → cond b (Some v) None ≡ Some n → (word ≡ decimal n) × (n < 2 ^ 64)) [
      | true ↦ λ t e. let same : v ≡ n = cc in (sym (same_bytes _ _ (second _ _ t)) ∙ ap decimal same, subst (λ (x : ℕ). x < 2 ^ 64) same (ltb-true _ _ (first _ _ t)))
      | false ↦ λ t e. cc
    ] refl h

-- A word that is the text of no number reads as none.
pub no_count : (word : List ℕ) → ((n : ℕ) → n < 2 ^ 64 → word ≡ decimal n → ⊥) → count_of word ≡ None
unfolding count_of
no_count word none =
    let v = digits_value 10 word in
    elim (nat_lt v (2 ^ 64) && bytes_eq (decimal v) word) as (λ b. nat_lt v (2 ^ 64) && bytes_eq (decimal v) word ≡ b → cond b (Some v) None ≡ None) [
      | true ↦ λ t. absurd (none v (ltb-true _ _ (first _ _ t)) (sym (same_bytes _ _ (second _ _ t))))
      | false ↦ λ t. refl
    ] refl
