-- A text that is written over.
use Rattle.std.proofs.Common.{◌≡◌, ◌+◌, ◌-◌, ◌≤◌, ℕ, zero, suc, List, [], ◌∷◌, ◌++◌, length, take, drop, replicate, IsTrue, refl, ◌∙◌, ap, arith, append_assoc, length-append, length-take, length-drop, rules}
use Rattle.std.proofs.lemmas.Bool.{leb-true}
use Rattle.std.proofs.lemmas.List.{take-replicate, drop-replicate, length-replicate}
use Rattle.mr_bytes.specs.Texts.{overwritten}
use Rattle.mr_inline.specs.Limits.{word_limit}
use Rattle.mr_bytes.specs.Words.{fits}

none_less : (n : ℕ) → 0 ≡ 0 - n
none_less n = omega arith

less_none : (n : ℕ) → n ≡ n - 0
less_none n = omega arith

less_each : (n k : ℕ) → n - k ≡ suc n - suc k
less_each n k = omega arith

take_append : (n : ℕ) (xs ys : List ℕ) → take n (xs ++ ys) ≡ take n xs ++ take (n - length xs) ys
take_append zero [] ys = refl
take_append (suc n) [] ys = ap (λ (k : ℕ). take k ys) (less_none (suc n))
take_append zero (x ∷ xs) ys = ap (λ (k : ℕ). take k ys) (none_less (length (x ∷ xs)))
take_append (suc n) (x ∷ xs) ys = ap (λ (zs : List ℕ). x ∷ zs) (take_append n xs ys ∙ ap (λ (k : ℕ). take n xs ++ take k ys) (less_each n (length xs)))

drop_append : (n : ℕ) (xs ys : List ℕ) → drop n (xs ++ ys) ≡ drop n xs ++ drop (n - length xs) ys
drop_append zero [] ys = refl
drop_append (suc n) [] ys = ap (λ (k : ℕ). drop k ys) (less_none (suc n))
drop_append zero (x ∷ xs) ys = ap (λ (k : ℕ). (x ∷ xs) ++ drop k ys) (none_less (length (x ∷ xs)))
drop_append (suc n) (x ∷ xs) ys = drop_append n xs ys ∙ ap (λ (k : ℕ). drop n xs ++ drop k ys) (less_each n (length xs))

no_zeros_left : (n : ℕ) (z : ℕ) → drop n (replicate n z) ≡ []
no_zeros_left n z = let none : n - n ≡ 0 = omega arith in drop-replicate n n z ∙ ap (λ (k : ℕ). replicate k z) none

-- zero bytes are put behind it first, up to where the other text ends
pub overwritten_is : (t v : List ℕ) (offset : ℕ) (z : List ℕ) → z ≡ t ++ replicate (offset + length v - length t) 0 → take offset z ++ (v ++ drop (offset + length v) z) ≡ overwritten offset v t
unfolding overwritten
overwritten_is t v offset z is =
    let zeros : List ℕ = replicate (offset + length v - length t) 0 in
    let front : take offset z ≡ take offset t ++ replicate (offset - length t) 0 =
    ap (take offset) is ∙ take_append offset t zeros ∙ ap (λ (r : List ℕ). take offset t ++ r) (take-replicate (offset - length t) (offset + length v - length t) 0 (omega arith)) in
    let back : drop (offset + length v) z ≡ drop (offset + length v) t =
    ap (drop (offset + length v)) is ∙ drop_append (offset + length v) t zeros ∙ ap (λ (r : List ℕ). drop (offset + length v) t ++ r) (no_zeros_left (offset + length v - length t) 0) ∙ search rules in
    rw (front, back) (append_assoc (take offset t) (replicate (offset - length t) 0) (v ++ drop (offset + length v) t))

pub ends_within : (t v : List ℕ) (offset : ℕ) → IsTrue (fits (overwritten offset v t)) → offset + length v ≤ word_limit
unfolding overwritten
ends_within t v offset h =
    let all : length (take offset t ++ (replicate (offset - length t) 0 ++ (v ++ drop (offset + length v) t))) ≤ word_limit = leb-true _ _ h in
    omega (arith, simp (length-append, length-take, length-replicate, length-drop) at all)
