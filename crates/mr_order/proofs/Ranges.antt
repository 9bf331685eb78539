-- Items that stand next to each other, taken from a list, and from a list in parts.
use Rattle.std.proofs.Common.{◌≡◌, ℕ, zero, suc, ◌+◌, ◌-◌, ◌<◌, ◌≤◌, List, [], ◌∷◌, ◌++◌, length, get_or, set, take, drop, refl, sym, subst, ap, ap₂, ◌∙◌, inl, inr, arith, append_assoc, length-append}
use Rattle.std.specs.declared.cmp.Ordering.{Ordering}
use Rattle.std.specs.Cmp.{IsTotalOrder}
use Rattle.std.specs.List.{All, flat_map, remove, remove_range}
use Rattle.std.specs.List.Sorted.{IsStrictlySortedBy}
use Rattle.std.proofs.lemmas.Bool.{cases_order}
use Rattle.std.proofs.lemmas.List.{drop_at, drop-drop, drop-append-le, get_or-append_right, get_or-drop, get_or-take, get_or_append_left, length-drop, length-take-le, take-append-drop, take-append-le}
use Rattle.std.proofs.lemmas.Map.Keys.{Less-from_sorted, sorted_from_all_adjacent}
use Rattle.mr_order.specs.Parts.{AreCounted, IsSound}
use Rattle.mr_order.proofs.Flat.{flat_at, flat_set, flat_without, none_of}
use Rattle.mr_order.proofs.Kept.{sorted_none}

module _ {A : Type 0} where
  take_behind : (front ys : List A) (a n : ℕ) → length front + a ≡ n → take n (front ++ ys) ≡ front ++ take a ys
  take_behind [] ys a n e = let same : n ≡ a = omega arith in ap (λ k. take k ys) same
  take_behind (x ∷ xs) ys a zero e = absurd (omega arith)
  take_behind (x ∷ xs) ys a (suc n) e = ap (λ l. x ∷ l) (take_behind xs ys a n (omega arith))

  drop_behind : (front ys : List A) (a n : ℕ) → length front + a ≡ n → drop n (front ++ ys) ≡ drop a ys
  drop_behind [] ys a n e = let same : n ≡ a = omega arith in ap (λ k. drop k ys) same
  drop_behind (x ∷ xs) ys a zero e = absurd (omega arith)
  drop_behind (x ∷ xs) ys a (suc n) e = drop_behind xs ys a n (omega arith)

  -- a range of the second of two lists, and of the first
  range_behind : (front ys : List A) (a b i j : ℕ) → length front + a ≡ i → length front + b ≡ j → remove_range (front ++ ys) i j ≡ front ++ remove_range ys a b
  range_behind front ys a b i j e f = ap₂ (λ s t. s ++ t) (take_behind front ys a i e) (drop_behind front ys b j f) ∙ append_assoc front (take a ys) (drop b ys)

  range_front : (part back : List A) (a b : ℕ) → a ≤ b → b ≤ length part → remove_range (part ++ back) a b ≡ remove_range part a b ++ back
  range_front part back a b ordered inside =
      ap₂ (λ s t. s ++ t) (take-append-le a part back (omega arith)) (drop-append-le b part back inside) ∙ sym (append_assoc (take a part) (drop b part) back)

  range_none : (xs : List A) (a b : ℕ) → b ≡ a → remove_range xs a b ≡ xs
  range_none xs a b e = ap (λ n. take a xs ++ drop n xs) e ∙ take-append-drop a xs

  -- a further range behind the first one
  range_twice : (xs : List A) (a b n i k : ℕ) → a ≤ length xs → a + n ≡ i → b + n ≡ k → remove_range (remove_range xs a b) a i ≡ remove_range xs a k
  range_twice xs a b n i k within e f =
      let long = length-take-le a xs within in
      range_behind (take a xs) (drop b xs) 0 n a i (omega arith) (omega arith) ∙ ap (λ l. take a xs ++ l) (drop-drop n b xs ∙ ap (λ m. drop m xs) f)

  pub length-range : (xs : List A) (a b : ℕ) → a ≤ b → b ≤ length xs → length (remove_range xs a b) + b ≡ length xs + a
  length-range xs a b ordered within =
      let front = length-take-le a xs (omega arith) in
      let back = length-drop b xs in
      let both = length-append (take a xs) (drop b xs) in
      omega arith

module _ {X A : Type 0} (f : X → List A) where
  -- some items of the part c taken
  pub flat_range : (xs : List X) (c a b i j : ℕ) (v d : X) → c < length xs → length (flat_map f (take c xs)) + a ≡ i → length (flat_map f (take c xs)) + b ≡ j → a ≤ b → b ≤ length (f (get_or xs c d)) → f v ≡ remove_range (f (get_or xs c d)) a b
      → flat_map f (set xs c v) ≡ remove_range (flat_map f xs) i j
  flat_range xs c a b i j v d within first past ordered inside is =
      let front = flat_map f (take c xs) in
      let back = flat_map f (drop (suc c) xs) in
      let part = f (get_or xs c d) in
      flat_set f xs c v within ∙ ap (λ l. front ++ (l ++ back)) is ∙ ap (λ l. front ++ l) (sym (range_front part back a b ordered inside))
      ∙ sym (range_behind front (part ++ back) a b i j first past) ∙ ap (λ l. remove_range l i j) (sym (flat_at f xs c d within))

  -- the part c taken whole
  pub flat_whole : (xs : List X) (c i j : ℕ) (d : X) → c < length xs → length (flat_map f (take c xs)) ≡ i → i + length (f (get_or xs c d)) ≡ j → flat_map f (remove xs c) ≡ remove_range (flat_map f xs) i j
  flat_whole xs c i j d within first past =
      let front = flat_map f (take c xs) in
      let back = flat_map f (drop (suc c) xs) in
      let part = f (get_or xs c d) in
      flat_without f xs c within ∙ ap (λ l. front ++ l) (sym (drop_at part back (length part) refl))
      ∙ sym (range_behind front (part ++ back) 0 (length part) i j (omega arith) (omega arith)) ∙ ap (λ l. remove_range l i j) (sym (flat_at f xs c d within))

module _ {P A : Type 0} (items : P → List A) (is_kept : P → Type 0) where
  -- parts of which a range is taken from its front on: what is left of it ends at a place
  pub record IsCutTo (olds news : List P) (from to end : ℕ) : Type 0 where
    pub sound : All (IsSound items is_kept) news
    pub left : flat_map items news ≡ remove_range (flat_map items olds) from (from + (to - end))
    pub ordered : from ≤ end
    pub below : end ≤ to
    pub few : length news ≤ length olds

  pub cut_none : (olds : List P) (from to : ℕ) → All (IsSound items is_kept) olds → from ≤ to → IsCutTo olds olds from to to
  cut_none olds from to sound ordered = record {
    sound = sound;
    left = sym (range_none (flat_map items olds) from (from + (to - to)) (omega arith));
    ordered = ordered;
    below = omega arith;
    few = omega arith;
  }

  module _ (olds news : List P) (from to end : ℕ) (within : to ≤ length (flat_map items olds)) (c : IsCutTo olds news from to end) where
    pub cut_within : end ≤ length (flat_map items news)
    cut_within =
        let ordered = c.ordered in
        let below = c.below in
        let long = length-range (flat_map items olds) from (from + (to - end)) (omega arith) (omega arith) in
        omega (arith, ap length c.left)

    pub cut_more : (others : List P) (n : ℕ) → All (IsSound items is_kept) others → flat_map items others ≡ remove_range (flat_map items news) from (from + n) → from + n ≤ end → length others ≤ length news → IsCutTo olds others from to (end - n)
    cut_more others n sound is inside few =
        let below = c.below in
        let fewer = c.few in
        record {
          sound = sound;
          left = is ∙ ap (λ l. remove_range l from (from + n)) c.left
              ∙ range_twice (flat_map items olds) from (from + (to - end)) n (from + n) (from + (to - (end - n))) (omega arith) refl (omega arith);
          ordered = omega arith;
          below = omega arith;
          few = omega arith;
        }

    pub cut_all : end ≤ from → flat_map items news ≡ remove_range (flat_map items olds) from to
    cut_all none =
        let ordered = c.ordered in
        let below = c.below in
        let same : from + (to - end) ≡ to = omega arith in
        c.left ∙ ap (λ n. remove_range (flat_map items olds) from n) same

  pub counted_range : (parts news : List P) (len a b : ℕ) → AreCounted items is_kept parts len → All (IsSound items is_kept) news → flat_map items news ≡ remove_range (flat_map items parts) a b → a ≤ b → b ≤ length (flat_map items parts) → AreCounted items is_kept news (len - (b - a))
  counted_range parts news len a b c sound is ordered within = record {
    sound = sound;
    counted = (let was = c.counted in let long = length-range (flat_map items parts) a b ordered within in let e = ap length is in omega arith);
    small = let s = c.small in omega arith;
  }

module _ {K : Type 0} (R : K → K → Ordering) (total : IsTotalOrder R) where
  range_below : (xs : List K) (a b k : ℕ) (d : K) → k < a → a ≤ length xs → get_or (remove_range xs a b) k d ≡ get_or xs k d
  range_below xs a b k d lt within =
      let long = length-take-le a xs within in
      get_or_append_left (take a xs) (drop b xs) d k (omega arith) ∙ get_or-take a xs k d lt

  range_above : (xs : List K) (a b k j : ℕ) (d : K) → a ≤ k → a ≤ length xs → b + (k - a) ≡ j → get_or (remove_range xs a b) k d ≡ get_or xs j d
  range_above xs a b k j d le within e =
      get_or-append_right (take a xs) (drop b xs) a k d (length-take-le a xs within) le ∙ get_or-drop b xs (k - a) d ∙ ap (λ n. get_or xs n d) e

  sorted_some : (x : K) (xs : List K) (a b : ℕ) → IsStrictlySortedBy R xs → a ≤ b → b ≤ length xs → IsStrictlySortedBy R (remove_range xs a b)
  sorted_some x xs a b sorted ordered within =
      let long = length-range xs a b ordered within in
      sorted_from_all_adjacent total (remove_range xs a b) x (λ k lt. elim (cases_order (k + 1) a) [
        | inl same ↦ ap₂ R (range_below xs a b k x (omega arith) (omega arith)) (range_above xs a b (k + 1) b x (omega arith) (omega arith) (omega arith)) ∙ Less-from_sorted R xs k b x sorted (omega arith) (omega arith)
        | inr (inl less) ↦ ap₂ R (range_below xs a b k x (omega arith) (omega arith)) (range_below xs a b (k + 1) x less (omega arith)) ∙ Less-from_sorted R xs k (k + 1) x sorted (omega arith) (omega arith)
        | inr (inr more) ↦ ap₂ R (range_above xs a b k (b + (k - a)) x (omega arith) (omega arith) refl) (range_above xs a b (k + 1) (b + (k + 1 - a)) x (omega arith) (omega arith) refl)
            ∙ Less-from_sorted R xs (b + (k - a)) (b + (k + 1 - a)) x sorted (omega arith) (omega arith)
      ])

  -- a list in strict order stays so
  pub sorted_range : (xs : List K) (a b : ℕ) → IsStrictlySortedBy R xs → a ≤ b → b ≤ length xs → IsStrictlySortedBy R (remove_range xs a b)
  sorted_range [] a b sorted ordered within =
      let long = length-range {A = K} [] a b ordered within in
      subst (IsStrictlySortedBy R) (sym (none_of (remove_range [] a b) (omega arith))) (sorted_none R)
  sorted_range (x ∷ xs) a b sorted ordered within = sorted_some x (x ∷ xs) a b sorted ordered within
