-- Texts of scores: where the point stands, and what is read.
use Rattle.std.proofs.Common.{◌≡◌, ℕ, zero, suc, ℤ, pos, negsuc, ◌+◌, ◌-◌, ◌<◌, ◌^◌, List, [], ◌∷◌, ◌++◌, length, get_or, take, drop, decimal, Bool, true, false, ◌&&◌, not, cond, Option, Some, None, IsTrue, ◌⊎◌, inl, inr, refl, sym, ap, subst, ◌∙◌, arith}
use Rattle.std.specs.Prelude.{◌==◌, ◌↔◌, nat_lt, position, replicate, option_and_then}
use Rattle.std.specs.Fmt.{signed_decimal}
use Rattle.std.specs.List.{list_all, position_or_len, prefix_len}
use Rattle.std.proofs.lemmas.Bool.{eqb-true, ltb-true, lt-ltb, ne_eqb}
use Rattle.std.proofs.lemmas.Bool.Decides.{nat_tests}
use Rattle.std.proofs.lemmas.List.{take-append-drop, take_all, length-append, length-drop, length-replicate}
use Rattle.std.proofs.lemmas.List.Folds.{prefix_len-append}
use Rattle.std.proofs.lemmas.List.Quantifiers.{position-Some}
use Rattle.std.proofs.lemmas.List.Sums.{position_or_len_is}
use Rattle.std.proofs.Math.Seq.{drop-cons, drop-append-add, take-append_seam}
use Rattle.mr_bytes.proofs.Numbers.{digit, each_is_digit, number_of-signed_decimal, number_text}
use Rattle.mr_bytes.specs.Number.{is_i64, number_of}
use Rattle.mr_bytes.proofs.Both.{first, second}
use Rattle.mr_score.specs.Score.{is_score}
use Rattle.mr_score.specs.Texts.{IsScoreText, are_zeros, score_of, whole_before, whole_part, within_limit}

abbrev is_point : ℕ → Bool
is_point b = b == 46

pub score_fits : (n : ℤ) → IsTrue (is_score n) → IsTrue (is_i64 n)
score_fits (pos k) h = grind (arith, nat_tests, h)
score_fits (negsuc k) h = grind (arith, nat_tests, h)

no_point_in_digits : (n k : ℕ) → n < 10 ^ 19 → k < length (decimal n) → is_point (get_or (decimal n) k 0) ≡ false
no_point_in_digits n k small here = ne_eqb (get_or (decimal n) k 0) 46 (let d = digit (get_or (decimal n) k 0) (each_is_digit n k small here) in omega (arith, d))

no_point : (n : ℤ) → IsTrue (is_i64 n) → (k : ℕ) → k < length (signed_decimal n) → is_point (get_or (signed_decimal n) k 0) ≡ false
no_point (pos n) fits k here = let small : n < 2 ^ 63 = ltb-true _ _ fits in no_point_in_digits n k (omega arith) here
no_point (negsuc n) fits zero here = refl
no_point (negsuc n) fits (suc k) here = let small : n < 2 ^ 63 = ltb-true _ _ fits in no_point_in_digits (suc n) k (omega arith) (omega arith)

pointless : (n : ℤ) → IsTrue (is_i64 n) → position_or_len is_point (signed_decimal n) ≡ length (signed_decimal n)
pointless n fits = position_or_len_is is_point (signed_decimal n) (length (signed_decimal n)) 0 (omega arith) (no_point n fits) (λ h. absurd (omega arith))

position_none : (p : ℕ → Bool) (xs : List ℕ) → position_or_len p xs ≡ length xs → position p xs ≡ None
position_none p xs e = let past : nat_lt (position_or_len p xs) (length xs) ≡ false = grind (arith, nat_tests) in ap (λ b. cond b (Some (position_or_len p xs)) None) past

position_some : (p : ℕ → Bool) (xs : List ℕ) (i : ℕ) → position_or_len p xs ≡ i → i < length xs → position p xs ≡ Some i
position_some p xs i e here =
    let within : nat_lt (position_or_len p xs) (length xs) ≡ true = grind (arith, nat_tests) in
    ap (λ b. cond b (Some (position_or_len p xs)) None) within ∙ ap (λ k. Some k) e

-- the first point stands behind a number
point_behind : (n : ℤ) (rest : List ℕ) → IsTrue (is_i64 n) → position_or_len is_point (signed_decimal n ++ 46 ∷ rest) ≡ length (signed_decimal n)
point_behind n rest fits =
    let front : prefix_len (λ x. not (is_point x)) (signed_decimal n) ≡ length (signed_decimal n) = pointless n fits in
    prefix_len-append (λ x. not (is_point x)) (signed_decimal n) (46 ∷ rest) ∙ (rw front (grind (arith, nat_tests)))

zeros-replicate : (k : ℕ) → list_all (λ d. d == 48) (replicate k 48) ≡ true
zeros-replicate zero = refl
zeros-replicate (suc k) = zeros-replicate k

are_zeros-replicate : (k : ℕ) → 0 < k → are_zeros (replicate k 48) ≡ true
are_zeros-replicate k some =
    let zeros : List ℕ = replicate k 48 in
    let one : nat_lt 0 (length zeros) ≡ true = lt-ltb _ _ (omega (arith, length-replicate {A = ℕ} k 48)) in
    ap (λ b. b && list_all (λ d. d == 48) zeros) one ∙ zeros-replicate k

replicate-zeros : (ds : List ℕ) → list_all (λ d. d == 48) ds ≡ true → ds ≡ replicate (length ds) 48
replicate-zeros [] h = refl
replicate-zeros (d ∷ ds) h = elim (d == 48) as (λ b. (d == 48) ≡ b → (b && list_all (λ x. x == 48) ds) ≡ true → d ∷ ds ≡ 48 ∷ replicate (length ds) 48) [
  | true ↦ λ e all. (let same : d ≡ 48 = eqb-true d 48 e in let rest = replicate-zeros ds all in cc)
  | false ↦ λ e all. cc
] refl h

whole_alone : (n : ℤ) → IsTrue (is_i64 n) → whole_part (signed_decimal n) ≡ Some (signed_decimal n)
unfolding whole_part
whole_alone n fits = ap (λ o. whole_before o (signed_decimal n)) (position_none is_point (signed_decimal n) (pointless n fits))

whole_with_zeros : (n : ℤ) (k : ℕ) → IsTrue (is_i64 n) → 0 < k → whole_part (signed_decimal n ++ 46 ∷ replicate k 48) ≡ Some (signed_decimal n)
unfolding whole_part
whole_with_zeros n k fits some =
    let number = signed_decimal n in
    let zeros : List ℕ = replicate k 48 in
    let text = number ++ 46 ∷ zeros in
    let here : length number < length text = omega (arith, length-append number (46 ∷ zeros)) in
    let at = position_some is_point text (length number) (point_behind n zeros fits) here in
    let behind : drop (length number + 1) text ≡ zeros = drop-append-add number (46 ∷ zeros) 1 in
    let test : are_zeros (drop (length number + 1) text) ≡ true = ap are_zeros behind ∙ are_zeros-replicate k some in
    ap (λ o. whole_before o text) at ∙ ap (λ b. cond b (Some (take (length number) text)) None) test ∙ ap (λ x. Some x) (take-append_seam number (46 ∷ zeros))

-- where a point stands with zeros behind it
with_zeros : (text w : List ℕ) (i : ℕ) → i < length text → is_point (get_or text i 0) ≡ true → are_zeros (drop (i + 1) text) ≡ true → take i text ≡ w → (k : ℕ) × (0 < k) × (text ≡ w ++ 46 ∷ replicate k 48)
with_zeros text w i here point zeros front =
    let ds : List ℕ = drop (i + 1) text in
    let some : 0 < length ds = ltb-true _ _ (first (nat_lt 0 (length ds)) (list_all (λ d. d == 48) ds) zeros) in
    let only : ds ≡ replicate (length ds) 48 = replicate-zeros ds (second (nat_lt 0 (length ds)) (list_all (λ d. d == 48) ds) zeros) in
    let dot : get_or text i 0 ≡ 46 = eqb-true _ _ point in
    let next : drop (suc i) text ≡ ds = ap (λ j. drop j text) (let e : suc i ≡ i + 1 = omega arith in e) in
    let tail : drop i text ≡ 46 ∷ replicate (length ds) 48 = drop-cons text i 0 here ∙ ap (λ d. d ∷ drop (suc i) text) dot ∙ ap (λ xs. 46 ∷ xs) (next ∙ only) in
    let whole : text ≡ take i text ++ drop i text = sym (take-append-drop i text) in
    (length ds, some, whole ∙ ap (λ xs. xs ++ drop i text) front ∙ ap (λ xs. w ++ xs) tail)

-- what the whole part of a text says of the text
whole_text : (text w : List ℕ) → whole_part text ≡ Some w → (text ≡ w) ⊎ ((k : ℕ) × (0 < k) × (text ≡ w ++ 46 ∷ replicate k 48))
unfolding whole_part
whole_text text w h = elim (position is_point text) as (λ o. position is_point text ≡ o → whole_before o text ≡ Some w → (text ≡ w) ⊎ ((k : ℕ) × (0 < k) × (text ≡ w ++ 46 ∷ replicate k 48))) [
  | None ↦ λ at e. inl cc
  | Some i ↦ λ at e. (let found = position-Some is_point text i 0 at in
      elim (are_zeros (drop (i + 1) text)) as (λ b. are_zeros (drop (i + 1) text) ≡ b → cond b (Some (take i text)) None ≡ Some w → (text ≡ w) ⊎ ((k : ℕ) × (0 < k) × (text ≡ w ++ 46 ∷ replicate k 48))) [
        | true ↦ λ zeros same. inr (with_zeros text w i found.0 found.1 zeros cc)
        | false ↦ λ zeros same. cc
      ] refl e)
] refl h

-- A score's text reads as that score.
text_read : (text w : List ℕ) (n : ℤ) → IsTrue (is_score n) → whole_part text ≡ Some w → w ≡ signed_decimal n → score_of text ≡ Some n
unfolding score_of
text_read text w n fits whole same =
    let number : number_of w ≡ Some n = ap number_of same ∙ number_of-signed_decimal n (score_fits n fits) in
    ap (λ o. option_and_then (λ x. option_and_then within_limit (number_of x)) o) whole ∙ ap (option_and_then within_limit) number ∙ ap (λ b. cond b (Some n) None) fits

pub spelled_read : (text : List ℕ) (n : ℤ) → IsScoreText text n → score_of text ≡ Some n
spelled_read text n h = elim h.1 [
  | inl e ↦ text_read text (signed_decimal n) n h.0 (ap whole_part e ∙ whole_alone n (score_fits n h.0)) refl
  | inr e ↦ text_read text (signed_decimal n) n h.0 (ap whole_part e.2 ∙ whole_with_zeros n e.0 (score_fits n h.0) e.1) refl
]

within : (m n : ℤ) → within_limit m ≡ Some n → (m ≡ n) × IsTrue (is_score n)
within m n h = elim (is_score m) as (λ b. is_score m ≡ b → cond b (Some m) None ≡ Some n → (m ≡ n) × IsTrue (is_score n)) [
  | true ↦ λ t e. (let same : m ≡ n = cc in (same, subst (λ x. is_score x ≡ true) same t))
  | false ↦ λ t e. cc
] refl h

number_read : (w : List ℕ) (n : ℤ) → option_and_then within_limit (number_of w) ≡ Some n → (w ≡ signed_decimal n) × IsTrue (is_score n)
number_read w n h = elim (number_of w) as (λ o. number_of w ≡ o → option_and_then within_limit o ≡ Some n → (w ≡ signed_decimal n) × IsTrue (is_score n)) [
  | None ↦ λ t e. cc
  | Some m ↦ λ t e. (let limit = within m n e in ((number_text w m t).0 ∙ ap signed_decimal limit.0, limit.1))
] refl h

spelling : (text w : List ℕ) (n : ℤ) → (text ≡ w) ⊎ ((k : ℕ) × (0 < k) × (text ≡ w ++ 46 ∷ replicate k 48)) → w ≡ signed_decimal n → (text ≡ signed_decimal n) ⊎ ((k : ℕ) × (0 < k) × (text ≡ signed_decimal n ++ 46 ∷ replicate k 48))
spelling text w n (inl e) same = inl (e ∙ same)
spelling text w n (inr e) same = inr (e.0, e.1, e.2 ∙ ap (λ xs. xs ++ 46 ∷ replicate e.0 48) same)

-- What is read as a score is that score's text.
pub read_spelled : (text : List ℕ) (n : ℤ) → score_of text ≡ Some n → IsScoreText text n
unfolding score_of
read_spelled text n h = elim (whole_part text) as (λ o. whole_part text ≡ o → option_and_then (λ x. option_and_then within_limit (number_of x)) o ≡ Some n → IsScoreText text n) [
  | None ↦ λ t e. cc
  | Some w ↦ λ t e. (let number = number_read w n e in (number.1, spelling text w n (whole_text text w t) number.0))
] refl h

pub score_texts : (text : List ℕ) (n : ℤ) → (score_of text ≡ Some n) ↔ IsScoreText text n
score_texts text n = (read_spelled text n, spelled_read text n)

-- The calls' results, as the definitions have them.

pub tail_is : (text : List ℕ) (k : ℕ) → take (length text - k) (drop k text) ≡ drop k text
tail_is text k = take_all (length text - k) (drop k text) (omega (arith, length-drop k text))

pub whole_found : (text : List ℕ) (o : Option ℕ) → o ≡ position is_point text → whole_before o text ≡ whole_part text
unfolding whole_part
whole_found text o e = ap (λ p. whole_before p text) e

pub score_found : (text : List ℕ) (o : Option (List ℕ)) → o ≡ whole_part text → option_and_then (λ whole. option_and_then within_limit (number_of whole)) o ≡ score_of text
unfolding score_of
score_found text o e = ap (option_and_then (λ whole. option_and_then within_limit (number_of whole))) e
