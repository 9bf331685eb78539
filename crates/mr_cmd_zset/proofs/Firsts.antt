-- The first pairs in an order.
use Rattle.std.proofs.Common.{ℕ, zero, suc, ℤ, ◌≡◌, ◌+◌, ◌-◌, min, List, [], ◌∷◌, ◌++◌, map, length, take, drop, reverse, refl, sym, ◌∙◌, ap, arith}
use Rattle.std.specs.Prelude.{slice_range, true, false, if◌then◌else◌}
use Rattle.std.proofs.lemmas.List.{take_all, length-drop, length-reverse, take-append-drop, reverse-append, map-append}
use Rattle.std.proofs.lemmas.Grind.{reverse_onto}
use Rattle.std.proofs.Math.Seq.{take-append_seam}
use Rattle.std.specs.Ordering.{is_lt}
use Rattle.std.specs.FinMap.{len, entries, len-entries}
use Rattle.std.proofs.Math.Nat.{suc-min-suc}
use Rattle.mr_map.specs.Bytes.{Bytes}
use Rattle.mr_zset.specs.Order.{placed, in_order}
use Rattle.mr_zset.specs.Pairs.{pair_cmp, pairs_of}
use Rattle.mr_zset_options.specs.declared.choices.Order.{Order}
use Rattle.mr_zset_options.specs.declared.choices.Order.TheVariants as order
use Rattle.mr_cmd_zset.specs.Scores.{Scores, pairs_in}

zero_min : (n : ℕ) → min 0 n ≡ 0
zero_min n = omega arith

min_zero : (n : ℕ) → min n 0 ≡ 0
min_zero n = omega arith

module _ {A : Type 0} where
  take_none : (n : ℕ) → take {A = A} n [] ≡ []
  take_none zero = refl
  take_none (suc n) = refl

  take_within : (n : ℕ) (xs : List A) → take (min n (length xs)) xs ≡ take n xs
  take_within n [] = take_none (min n 0) ∙ sym (take_none n)
  take_within zero (x ∷ xs) = ap (λ k. take k (x ∷ xs)) (zero_min (length (x ∷ xs)))
  take_within (suc n) (x ∷ xs) = ap (λ k. take k (x ∷ xs)) (suc-min-suc n (length xs)) ∙ ap (λ zs. x ∷ zs) (take_within n xs)

  pub none_first : (xs : List A) (n c l : ℕ) → l ≡ length xs → c ≡ min n l → c ≡ 0 → [] ≡ take n xs
  none_first xs n c l len few none =
      let zero_is : 0 ≡ min n (length xs) = omega (arith, few, len, none) in
      ap (λ k. take k xs) zero_is ∙ take_within n xs

  pub first_ones : (xs : List A) (n c l : ℕ) → l ≡ length xs → c ≡ min n l → (c ≡ 0 → ⊥) → slice_range xs 0 ((c - 1) + 1) ≡ take n xs
  first_ones xs n c l len few some =
      let count : ((c - 1) + 1) - 0 ≡ min n (length xs) = omega (arith, few, len, some) in
      ap (λ k. take k xs) count ∙ take_within n xs

  pub last_ones : (xs : List A) (n c l : ℕ) → l ≡ length xs → c ≡ min n l → (c ≡ 0 → ⊥) → reverse (slice_range xs (l - c) ((l - 1) + 1)) ≡ take n (reverse xs)
  last_ones xs n c l len few some =
      let ends = drop (l - c) xs in
      let rest : length ends ≡ l - (l - c) = length-drop (l - c) xs ∙ ap (λ k. k - (l - c)) (sym len) in
      let whole : slice_range xs (l - c) ((l - 1) + 1) ≡ ends = take_all _ ends (omega (arith, rest, some, few)) in
      let left : l - (l - c) ≡ c = omega (arith, few) in
      let count : length (reverse ends) ≡ c = length-reverse ends ∙ rest ∙ left in
      let parts : reverse xs ≡ reverse ends ++ reverse (take (l - c) xs) = ap reverse (sym (take-append-drop (l - c) xs)) ∙ reverse-append (take (l - c) xs) ends in
      ap reverse whole
      ∙ sym (take-append_seam (reverse ends) (reverse (take (l - c) xs)))
      ∙ ap (λ k. take k (reverse ends ++ reverse (take (l - c) xs))) (count ∙ few ∙ ap (min n) (len ∙ sym (length-reverse xs)))
      ∙ ap (take (min n (length (reverse xs)))) (sym parts)
      ∙ take_within n (reverse xs)

pub map_reverse : {A B : Type 0} (f : A → B) (xs : List A) → map f (reverse xs) ≡ reverse (map f xs)
map_reverse f [] = refl
map_reverse f (x ∷ xs) =
    ap (map f) (reverse_onto xs x []) ∙ map-append f (reverse xs) (x ∷ [])
    ∙ ap (λ ys. ys ++ f x ∷ []) (map_reverse f xs) ∙ sym (reverse_onto (map f xs) (f x) [])

-- ---- all pairs
length_placed : (p : Bytes × ℤ) (ps : List (Bytes × ℤ)) → length (placed pair_cmp p ps) ≡ suc (length ps)
length_placed p [] = refl
length_placed p (q ∷ qs) = elim (is_lt (pair_cmp q p)) as (λ b. length (if b then q ∷ placed pair_cmp p qs else p ∷ q ∷ qs) ≡ suc (suc (length qs))) [
  | true ↦ ap suc (length_placed p qs)
  | false ↦ refl
]

length_ordered : (ps : List (Bytes × ℤ)) → length (in_order pair_cmp ps) ≡ length ps
length_ordered [] = refl
length_ordered (p ∷ ps) = length_placed p (in_order pair_cmp ps) ∙ ap suc (length_ordered ps)

pub len_pairs : (s : Scores) → len s ≡ length (pairs_of s)
len_pairs s = len-entries s ∙ sym (length_ordered (entries s))

pub len_pairs_in : (o : Order) (s : Scores) → len s ≡ length (pairs_in o s)
len_pairs_in order.Ascending s = len_pairs s
len_pairs_in order.Descending s = len_pairs s ∙ sym (length-reverse (pairs_of s))
