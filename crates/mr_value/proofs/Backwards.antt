-- What a look at the items of a list one by one tells, from the front of the list or of the list turned round.
use Rattle.std.proofs.Common.{◌≡◌, ℕ, suc, reverse, ◌+◌, ◌-◌, ◌<◌, ◌≤◌, min, List, [], length, take, drop, get_or, true, false, cond, Some, None, sym, ap, ◌∙◌, below_more, arith}
use Rattle.std.specs.List.{position_or_len}
use Rattle.std.specs.Str.{bytes_eq}
use Rattle.std.proofs.lemmas.Bool.{lt-ltb, le-ltb}
use Rattle.std.proofs.lemmas.List.{length-take-le, get_or-take, get_or-reverse, get_or_default, length-reverse}
use Rattle.std.proofs.lemmas.List.Sums.{position_or_len_is}
use Rattle.std.proofs.Math.Seq.{drop-cons}
use Rattle.std.proofs.Math.ListN.{drop_of_length-le}
use Rattle.mr_value.specs.Lists.{first_place, count_of}
use Rattle.mr_value.proofs.Removals.{count_of-cons, count_of-reverse}

-- an item is that of the list turned round, so many from its front
pub item_behind : (items : List (List ℕ)) (len k : ℕ) (x : List ℕ) → len ≡ length items → k < len → x ≡ get_or items (len - 1 - k) x → x ≡ get_or (reverse items) k []
item_behind items len k x len_is below is =
    is ∙ ap (λ n. get_or items (n - 1 - k) x) len_is ∙ get_or_default items (length items - 1 - k) x [] (omega arith) ∙ sym (get_or-reverse items k [] (omega arith))

-- none of the first so many equals w
abbrev pub NoneBefore : List ℕ → List (List ℕ) → ℕ → Type 0
NoneBefore w xs i = (k : ℕ) → k < i → bytes_eq (get_or xs k []) w ≡ false

pub none_more : (w : List ℕ) (xs : List (List ℕ)) (i : ℕ) → NoneBefore w xs i → bytes_eq (get_or xs i []) w ≡ false → NoneBefore w xs (i + 1)
none_more w xs i before here = below_more (λ k. bytes_eq (get_or xs k []) w ≡ false) i before here

module _ (w : List ℕ) (xs : List (List ℕ)) (len i : ℕ) (fits : len ≤ length xs) where
  place_is : i ≤ len → NoneBefore w xs i → (i < len → bytes_eq (get_or xs i []) w ≡ true) → position_or_len (λ x. bytes_eq x w) (take len xs) ≡ i
  place_is within before here =
      let size = length-take-le len xs fits in
      position_or_len_is (λ x. bytes_eq x w) (take len xs) i [] (omega arith)
      (λ k below. ap (λ x. bytes_eq x w) (get_or-take len xs k [] (omega arith)) ∙ before k below)
      (λ inside. ap (λ x. bytes_eq x w) (get_or-take len xs i [] (omega arith)) ∙ here (omega arith))

  pub found_at : i < len → NoneBefore w xs i → bytes_eq (get_or xs i []) w ≡ true → Some i ≡ first_place w (take len xs)
  unfolding first_place
  found_at within before here =
      let size = length-take-le len xs fits in
      let place = place_is (omega arith) before (λ _. here) in
      sym (ap (λ b. cond b (Some (position_or_len (λ x. bytes_eq x w) (take len xs))) None) (lt-ltb _ _ (omega arith)) ∙ ap Some place)

  pub found_nowhere : len ≤ i → i ≤ len → NoneBefore w xs i → None ≡ first_place w (take len xs)
  unfolding first_place
  found_nowhere past within before =
      let size = length-take-le len xs fits in
      let place = place_is within before (λ h. absurd (omega arith)) in
      sym (ap (λ b. cond b (Some (position_or_len (λ x. bytes_eq x w) (take len xs))) None) (le-ltb _ _ (omega arith)))

-- Of a list turned round, so many were looked at, and so many of those equal w.
pub record Counts (items : List (List ℕ)) (w : List ℕ) (most seen counted : ℕ) : Type 0 where
  pub few : counted ≤ most
  pub sum : counted + min (most - counted) (count_of w (drop seen (reverse items))) ≡ min most (count_of w items)

pub counts_start : (items : List (List ℕ)) (w : List ℕ) (most : ℕ) → Counts items w most 0 0
counts_start items w most = record { few = omega arith; sum = omega (arith, count_of-reverse w items) }

module _ (items : List (List ℕ)) (w : List ℕ) (most seen counted : ℕ) (h : Counts items w most seen counted) where
  pub counts_full : counted ≡ most → counted ≡ min most (count_of w items)
  counts_full full = omega (arith, h.sum)

  pub counts_all : length items ≤ seen → counted ≡ min most (count_of w items)
  counts_all all =
      let none : count_of w (drop seen (reverse items)) ≡ 0 = ap (count_of w) (drop_of_length-le (reverse items) {i = seen} (omega (arith, length-reverse items))) in
      omega (arith, h.sum, none)

  module _ (here : seen < length items) (total : ℕ) where
    one_more : count_of w (drop seen (reverse items)) ≡ cond (bytes_eq (get_or (reverse items) seen []) w) 1 0 + count_of w (drop (seen + 1) (reverse items))
    one_more =
        let next : suc seen ≡ seen + 1 = omega arith in
        ap (count_of w) (drop-cons (reverse items) seen [] (omega (arith, length-reverse items)))
        ∙ count_of-cons w (get_or (reverse items) seen []) (drop (suc seen) (reverse items))
        ∙ ap (λ k. cond (bytes_eq (get_or (reverse items) seen []) w) 1 0 + count_of w (drop k (reverse items))) next

    pub counts_same : counted < most → bytes_eq (get_or (reverse items) seen []) w ≡ true → total ≡ counted + 1 → Counts items w most (seen + 1) total
    counts_same below same is =
        let one = one_more ∙ ap (λ b. cond b 1 0 + count_of w (drop (seen + 1) (reverse items))) same in
        record { few = omega arith; sum = omega (arith, h.sum, one) }

    pub counts_other : bytes_eq (get_or (reverse items) seen []) w ≡ false → total ≡ counted → Counts items w most (seen + 1) total
    counts_other other is =
        let none = one_more ∙ ap (λ b. cond b 1 0 + count_of w (drop (seen + 1) (reverse items))) other in
        record { few = omega (arith, h.few); sum = omega (arith, h.sum, none) }
