-- What keeps a list in strict order, and what an insert at an item's place is.
use Rattle.std.proofs.Common.{◌≡◌, ℕ, zero, suc, ◌+◌, ◌-◌, ◌<◌, ◌≤◌, List, [], ◌∷◌, length, get_or, set, true, false, refl, sym, ap, ap₂, ◌∙◌, inl, inr, arith}
use Rattle.std.specs.Prelude.{IsTrue}
use Rattle.std.specs.declared.cmp.Ordering.{Ordering}
use Rattle.std.specs.declared.cmp.Ordering.TheVariants.{Less, Equal, Greater}
use Rattle.std.specs.Ordering.{ordering_reverse, is_le, is_ge}
use Rattle.std.specs.Cmp.{IsTotalOrder}
use Rattle.std.specs.List.{AllWithin, insert, remove}
use Rattle.std.specs.List.Sorted.{IsStrictlySortedBy}
use Rattle.std.specs.BTreeSet.{insert_key}
use Rattle.std.proofs.lemmas.Bool.{cases_order}
use Rattle.std.proofs.lemmas.List.{get_or-set_other, get_or-set_same, length-set}
use Rattle.std.proofs.lemmas.List.Edits.{length-insert, length-remove, get_or-insert_below, get_or-insert_at, get_or-insert_above, get_or-remove_below, get_or-remove_above}
use Rattle.std.proofs.lemmas.Map.Keys.{Less-from_sorted, sorted_from_all_adjacent}
use Rattle.mr_order.specs.Standing.{IsDivided, StandsAt, StandsBefore}

-- what a query isn't at most equal to it is greater than
greater : (o p : Ordering) → (IsTrue (is_le o) → p ≡ Less) → IsTrue (is_ge p) → o ≡ Greater
greater Less p below ge = let e : true ≡ false = sym ge ∙ ap is_ge (below refl) in cc
greater Equal p below ge = let e : true ≡ false = sym ge ∙ ap is_ge (below refl) in cc
greater Greater p below ge = refl

-- a query that is less than each item above one that it isn't greater than divides a list in strict order
pub divided : {K : Type 0} (R : K → K → Ordering) (compare : K → Ordering) (xs : List K) → ((x y : K) → IsTrue (is_le (compare x)) → R x y ≡ Less → compare y ≡ Less) → IsStrictlySortedBy R xs → IsDivided compare xs
divided R compare xs below sorted = record {
  front = λ i j d lt within ge. greater _ _ (λ le. below _ _ le (Less-from_sorted R xs i j d sorted lt within)) ge;
  back = λ i j d lt within le. below _ _ le (Less-from_sorted R xs i j d sorted lt within);
}

module _ {K : Type 0} (R : K → K → Ordering) (x : K) where
  absent : (xs : List K) (p : ℕ) → p ≤ length xs → AllWithin (λ y. R x y ≡ Greater) xs 0 p → AllWithin (λ y. R x y ≡ Less) xs p (length xs) → insert_key R xs x ≡ insert xs p x
  absent [] zero within front back = refl
  absent [] (suc p) within front back = absurd (omega arith)
  absent (y ∷ ys) zero within front back = rw (back zero y (omega arith) (omega arith)) refl
  absent (y ∷ ys) (suc p) within front back =
      rw (front zero y (omega arith) (omega arith)) (ap (λ l. y ∷ l) (absent ys p (omega arith) (λ k d lo lt. front (suc k) d (omega arith) (omega arith)) (λ k d lo lt. back (suc k) d (omega arith) (omega arith))))

  present : (xs : List K) (p : ℕ) → p < length xs → AllWithin (λ y. R x y ≡ Greater) xs 0 p → ((d : K) → R x (get_or xs p d) ≡ Equal) → insert_key R xs x ≡ xs
  present [] p within front at = absurd (omega arith)
  present (y ∷ ys) zero within front at = rw (at y) refl
  present (y ∷ ys) (suc p) within front at =
      rw (front zero y (omega arith) (omega arith)) (ap (λ l. y ∷ l) (present ys p (omega arith) (λ k d lo lt. front (suc k) d (omega arith) (omega arith)) at))

  -- an item that stands nowhere is put where it would stand
  pub insert_absent : (xs : List K) (p : ℕ) → StandsBefore (R x) xs p → insert_key R xs x ≡ insert xs p x
  insert_absent xs p stands = absent xs p stands.within stands.front stands.back

  -- one to which an item is equal isn't put in
  pub insert_present : (xs : List K) (p : ℕ) → StandsAt (R x) xs p → insert_key R xs x ≡ xs
  insert_present xs p stands = present xs p stands.within stands.front stands.here

module _ {K : Type 0} (R : K → K → Ordering) (total : IsTotalOrder R) where
  pub sorted_insert : (x : K) (xs : List K) (p : ℕ) → IsStrictlySortedBy R xs → StandsBefore (R x) xs p → IsStrictlySortedBy R (insert xs p x)
  sorted_insert x xs p sorted stands =
      let within = stands.within in
      let long = length-insert xs p x within in
      sorted_from_all_adjacent total (insert xs p x) x (λ k lt. elim (cases_order (k + 1) p) [
        | inl same ↦ ap₂ R (get_or-insert_below xs p x x k (omega arith) within) (ap (λ n. get_or (insert xs p x) n x) same ∙ get_or-insert_at xs p x x within) ∙ total.antisymm _ _ ∙ ap ordering_reverse (stands.front k x (omega arith) (omega arith))
        | inr (inl less) ↦ ap₂ R (get_or-insert_below xs p x x k (omega arith) within) (get_or-insert_below xs p x x (k + 1) less within) ∙ Less-from_sorted R xs k (k + 1) x sorted (omega arith) (omega arith)
        | inr (inr more) ↦ elim (cases_order k p) [
          | inl same ↦ ap₂ R (ap (λ n. get_or (insert xs p x) n x) same ∙ get_or-insert_at xs p x x within) (get_or-insert_above xs p x x k (omega arith) within) ∙ stands.back k x (omega arith) (omega arith)
          | inr (inl less) ↦ absurd (omega arith)
          | inr (inr above) ↦ (
              let j : ℕ = k - 1 in
              let e : k ≡ j + 1 = omega arith in
              ap₂ R (ap (λ n. get_or (insert xs p x) n x) e ∙ get_or-insert_above xs p x x j (omega arith) within) (get_or-insert_above xs p x x k (omega arith) within) ∙ Less-from_sorted R xs j k x sorted (omega arith) (omega arith))
        ]
      ])

  pub sorted_remove : (x : K) (xs : List K) (i : ℕ) → IsStrictlySortedBy R xs → i < length xs → IsStrictlySortedBy R (remove xs i)
  sorted_remove x xs i sorted within =
      let long = length-remove xs i within in
      sorted_from_all_adjacent total (remove xs i) x (λ k lt. elim (cases_order (k + 1) i) [
        | inl same ↦ ap₂ R (get_or-remove_below xs i x k (omega arith) within) (get_or-remove_above xs i x (k + 1) (omega arith) within) ∙ Less-from_sorted R xs k (k + 1 + 1) x sorted (omega arith) (omega arith)
        | inr (inl less) ↦ ap₂ R (get_or-remove_below xs i x k (omega arith) within) (get_or-remove_below xs i x (k + 1) less within) ∙ Less-from_sorted R xs k (k + 1) x sorted (omega arith) (omega arith)
        | inr (inr more) ↦ ap₂ R (get_or-remove_above xs i x k (omega arith) within) (get_or-remove_above xs i x (k + 1) (omega arith) within) ∙ Less-from_sorted R xs (k + 1) (k + 1 + 1) x sorted (omega arith) (omega arith)
      ])

  -- an item in the place of an equal one
  pub sorted_set : (x : K) (xs : List K) (i : ℕ) → IsStrictlySortedBy R xs → i < length xs → R x (get_or xs i x) ≡ Equal → IsStrictlySortedBy R (set xs i x)
  sorted_set x xs i sorted within tied =
      let long = length-set xs i x in
      let alike : (y : K) → R x y ≡ R (get_or xs i x) y = λ y. total.congr x (get_or xs i x) y tied in
      sorted_from_all_adjacent total (set xs i x) x (λ k lt. elim (cases_order (k + 1) i) [
        | inl same ↦ ap₂ R (get_or-set_other xs i k x x (λ e. absurd (omega (arith, e)))) (ap (λ n. get_or (set xs i x) n x) same ∙ get_or-set_same xs i x x within)
            ∙ total.antisymm _ _ ∙ ap ordering_reverse (alike (get_or xs k x)) ∙ sym (total.antisymm _ _) ∙ Less-from_sorted R xs k i x sorted (omega arith) within
        | inr (inl less) ↦ ap₂ R (get_or-set_other xs i k x x (λ e. absurd (omega (arith, e)))) (get_or-set_other xs i (k + 1) x x (λ e. absurd (omega (arith, e)))) ∙ Less-from_sorted R xs k (k + 1) x sorted (omega arith) (omega arith)
        | inr (inr more) ↦ elim (cases_order k i) [
          | inl same ↦ ap₂ R (ap (λ n. get_or (set xs i x) n x) same ∙ get_or-set_same xs i x x within) (get_or-set_other xs i (k + 1) x x (λ e. absurd (omega (arith, e))))
              ∙ alike (get_or xs (k + 1) x) ∙ Less-from_sorted R xs i (k + 1) x sorted (omega arith) (omega arith)
          | inr (inl less) ↦ absurd (omega arith)
          | inr (inr above) ↦ ap₂ R (get_or-set_other xs i k x x (λ e. absurd (omega (arith, e)))) (get_or-set_other xs i (k + 1) x x (λ e. absurd (omega (arith, e)))) ∙ Less-from_sorted R xs k (k + 1) x sorted (omega arith) (omega arith)
        ]
      ])

pub sorted_none : {K : Type 0} (R : K → K → Ordering) → IsStrictlySortedBy R []
unfolding IsStrictlySortedBy
sorted_none R = tt
