-- The removal of items that equal one: what is passed goes to the other end, up to the next that goes.
use Rattle.std.proofs.Common.{◌≡◌, ℕ, reverse, ◌+◌, ◌-◌, ◌<◌, ◌≤◌, min, List, [], ◌∷◌, ◌++◌, length, take, drop, Bool, true, false, cond, Some, None, refl, sym, ap, subst, ◌∙◌, append_assoc, arith, inl, inr}
use Rattle.std.specs.List.{position_or_len}
use Rattle.std.specs.Str.{bytes_eq}
use Rattle.std.proofs.lemmas.Bool.{cases_lt, lt-ltb, le-ltb}
use Rattle.std.proofs.lemmas.List.{append-nil, length-append, take-append-drop, length-reverse, length-drop, reverse-append, reverse-reverse}
use Rattle.std.proofs.lemmas.List.Sums.{sum_by-append}
use Rattle.std.proofs.Math.Seq.{drop-append_seam, take-append_seam}
use Rattle.mr_value.specs.Lists.{first_place, count_of, without_first, without_last}
use Rattle.mr_value.proofs.Removals.{count_of-cons, first_goes, first_stays, turned}

-- where an item stands first
abbrev place_or_len : List ℕ → List (List ℕ) → ℕ
place_or_len w xs = position_or_len (λ x. bytes_eq x w) xs

-- the items in front of the first that equals w, and those behind it
record Split (w : List ℕ) (xs : List (List ℕ)) (place : ℕ) : Type 0 where
  front : List (List ℕ)
  item : List ℕ
  back : List (List ℕ)
  whole : xs ≡ front ++ item ∷ back
  place_is : length front ≡ place
  others : count_of w front ≡ 0
  same : bytes_eq item w ≡ true

here_first : (w x : List ℕ) (xs : List (List ℕ)) → bytes_eq x w ≡ true → place_or_len w (x ∷ xs) ≡ 0
here_first w x xs same = rw same refl

later_first : (w x : List ℕ) (xs : List (List ℕ)) → bytes_eq x w ≡ false → place_or_len w (x ∷ xs) ≡ 1 + place_or_len w xs
later_first w x xs other = rw other refl

stays_counted : (w x : List ℕ) (xs : List (List ℕ)) → bytes_eq x w ≡ false → count_of w (x ∷ xs) ≡ count_of w xs
stays_counted w x xs other = count_of-cons w x xs ∙ ap (λ b. cond b 1 0 + count_of w xs) other ∙ omega arith

goes_counted : (w x : List ℕ) (xs : List (List ℕ)) → bytes_eq x w ≡ true → count_of w (x ∷ xs) ≡ 1 + count_of w xs
goes_counted w x xs same = count_of-cons w x xs ∙ ap (λ b. cond b 1 0 + count_of w xs) same

split_first : (w : List ℕ) (xs : List (List ℕ)) → place_or_len w xs < length xs → Split w xs (place_or_len w xs)
split_first w [] here = absurd (omega arith)
split_first w (x ∷ xs) here = go (λ h. split_first w xs h) (bytes_eq x w) refl
  where
    go : (place_or_len w xs < length xs → Split w xs (place_or_len w xs)) → (b : Bool) → bytes_eq x w ≡ b → Split w (x ∷ xs) (place_or_len w (x ∷ xs))
    go rest true same = record { front = []; item = x; back = xs; whole = refl; place_is = sym (here_first w x xs same); others = refl; same = same }
    go rest false other =
        let later = later_first w x xs other in
        let r : Split w xs (place_or_len w xs) = rest (omega arith) in
        record {
          front = x ∷ r.front;
          item = r.item;
          back = r.back;
          whole = ap (λ zs. x ∷ zs) r.whole;
          place_is = omega (arith, later, r.place_is);
          others = omega (arith, stays_counted w x r.front other, r.others);
          same = r.same;
        }

none_first : (w : List ℕ) (xs : List (List ℕ)) → length xs ≤ place_or_len w xs → count_of w xs ≡ 0
none_first w [] past = refl
none_first w (x ∷ xs) past = go (λ h. none_first w xs h) (bytes_eq x w) refl
  where
    go : (length xs ≤ place_or_len w xs → count_of w xs ≡ 0) → (b : Bool) → bytes_eq x w ≡ b → count_of w (x ∷ xs) ≡ 0
    go rest true same = let here = here_first w x xs same in absurd (omega arith)
    go rest false other = let later = later_first w x xs other in omega (arith, stays_counted w x xs other, rest (omega arith))

found : (w : List ℕ) (xs : List (List ℕ)) (place : ℕ) → first_place w xs ≡ Some place → Split w xs place
unfolding first_place
found w xs place h =
    elim (cases_lt (place_or_len w xs) (length xs)) [
      | inl here ↦ (let e : Some (place_or_len w xs) ≡ Some place = sym (ap (λ b. cond b (Some (place_or_len w xs)) None) (lt-ltb _ _ here)) ∙ h in let p : place_or_len w xs ≡ place = cc in subst (Split w xs) p (split_first w xs here))
      | inr past ↦ (let e : None ≡ Some place = sym (ap (λ b. cond b (Some (place_or_len w xs)) None) (le-ltb _ _ past)) ∙ h in absurd cc)
    ]

absent : (w : List ℕ) (xs : List (List ℕ)) → first_place w xs ≡ None → count_of w xs ≡ 0
unfolding first_place
absent w xs h =
    elim (cases_lt (place_or_len w xs) (length xs)) [
      | inl here ↦ (let e : Some (place_or_len w xs) ≡ None = sym (ap (λ b. cond b (Some (place_or_len w xs)) None) (lt-ltb _ _ here)) ∙ h in absurd cc)
      | inr past ↦ none_first w xs past
    ]

-- what others in front do to what goes
skip : (n : ℕ) (w : List ℕ) (front rest : List (List ℕ)) → count_of w front ≡ 0 → without_first n w (front ++ rest) ≡ front ++ without_first n w rest
skip n w [] rest none = refl
skip n w (x ∷ front) rest none = go (λ h. skip n w front rest h) (bytes_eq x w) refl
  where
    go : (count_of w front ≡ 0 → without_first n w (front ++ rest) ≡ front ++ without_first n w rest) → (b : Bool) → bytes_eq x w ≡ b → without_first n w (x ∷ (front ++ rest)) ≡ x ∷ (front ++ without_first n w rest)
    go less true same = let one = goes_counted w x front same in absurd (omega arith)
    go less false other = let none_more = stays_counted w x front other in first_stays n w x (front ++ rest) (λ _. other) ∙ ap (λ zs. x ∷ zs) (less (omega arith))

none_goes : (n : ℕ) (w : List ℕ) (xs : List (List ℕ)) → count_of w xs ≡ 0 → without_first n w xs ≡ xs
none_goes n w xs none = ap (without_first n w) (sym (append-nil xs)) ∙ skip n w xs [] none ∙ append-nil xs

nothing_goes : (w : List ℕ) (xs : List (List ℕ)) → without_first 0 w xs ≡ xs
nothing_goes w [] = refl
nothing_goes w (x ∷ xs) = first_stays 0 w x xs (λ h. absurd (omega arith)) ∙ ap (λ zs. x ∷ zs) (nothing_goes w xs)

count_of-append : (w : List ℕ) (xs ys : List (List ℕ)) → count_of w (xs ++ ys) ≡ count_of w xs + count_of w ys
count_of-append w xs ys = sum_by-append (λ y. cond (bytes_eq y w) 1 0) xs ys

-- two lists, one behind the other
seam_drop : (a b xs : List (List ℕ)) (k : ℕ) → xs ≡ a ++ b → length a ≡ k → drop k xs ≡ b
seam_drop a b xs k whole size = ap (λ n. drop n xs) (sym size) ∙ ap (drop (length a)) whole ∙ drop-append_seam a b

seam_take : (a b xs : List (List ℕ)) (k : ℕ) → xs ≡ a ++ b → length a ≡ k → take k xs ≡ a
seam_take a b xs k whole size = ap (λ n. take n xs) (sym size) ∙ ap (take (length a)) whole ∙ take-append_seam a b

-- Of the old items the rest is still to be seen, and what stays of the others lies behind it.
pub record Passes (old items : List (List ℕ)) (w : List ℕ) (most removed passed : ℕ) : Type 0 where
  rest : List (List ℕ)
  kept : List (List ℕ)
  split : items ≡ rest ++ kept
  kept_is : length kept ≡ passed
  few : removed ≤ most
  answer : kept ++ without_first (most - removed) w rest ≡ without_first most w old
  counted : removed + min (most - removed) (count_of w rest) ≡ min most (count_of w old)

pub passes_start : (old : List (List ℕ)) (w : List ℕ) (most : ℕ) → Passes old old w most 0 0
passes_start old w most = record {
  rest = old;
  kept = [];
  split = sym (append-nil old);
  kept_is = refl;
  few = omega arith;
  answer = ap (λ n. without_first n w old) (omega arith);
  counted = omega arith;
}

module _ {old items : List (List ℕ)} {w : List ℕ} {most removed passed : ℕ} (len : ℕ) (h : Passes old items w most removed passed) (len_is : len ≡ length items) where
  lengths : len ≡ length h.rest + passed
  lengths = omega (arith, ap length h.split, length-append h.rest h.kept, h.kept_is)

  pub passes_fit : passed ≤ len
  passes_fit = omega (arith, lengths)

  the_rest : take (len - passed) items ≡ h.rest
  the_rest = seam_take h.rest h.kept items (len - passed) h.split (omega (arith, lengths))

  the_kept : drop (len - passed) items ≡ h.kept
  the_kept = seam_drop h.rest h.kept items (len - passed) h.split (omega (arith, lengths))

  -- the next goes
  next_goes : (place : ℕ) → removed < most → Split w h.rest place → Passes old (drop 1 (drop place items ++ take place items)) w most (removed + 1) (passed + place)
  next_goes place below r =
      let shown : items ≡ r.front ++ (r.item ∷ (r.back ++ h.kept)) = h.split ∙ ap (λ zs. zs ++ h.kept) r.whole ∙ append_assoc r.front (r.item ∷ r.back) h.kept in
      let behind = seam_drop r.front (r.item ∷ (r.back ++ h.kept)) items place shown r.place_is in
      let before = seam_take r.front (r.item ∷ (r.back ++ h.kept)) items place shown r.place_is in
      let counts : count_of w h.rest ≡ 1 + count_of w r.back = omega (arith, ap (count_of w) r.whole, count_of-append w r.front (r.item ∷ r.back), r.others, goes_counted w r.item r.back r.same) in
      record {
        rest = r.back;
        kept = h.kept ++ r.front;
        split = ap (drop 1) (ap (λ zs. zs ++ take place items) behind ∙ ap (λ zs. (r.item ∷ (r.back ++ h.kept)) ++ zs) before) ∙ append_assoc r.back h.kept r.front;
        kept_is = omega (arith, length-append h.kept r.front, h.kept_is, r.place_is);
        few = omega arith;
        answer = append_assoc h.kept r.front (without_first (most - (removed + 1)) w r.back)
            ∙ ap (λ n. h.kept ++ (r.front ++ without_first n w r.back)) (omega arith)
            ∙ ap (λ zs. h.kept ++ (r.front ++ zs)) (sym (first_goes (most - removed) w r.item r.back (omega arith) r.same))
            ∙ ap (λ zs. h.kept ++ zs) (sym (skip (most - removed) w r.front (r.item ∷ r.back) r.others))
            ∙ ap (λ zs. h.kept ++ without_first (most - removed) w zs) (sym r.whole)
            ∙ h.answer;
        counted = omega (arith, counts, h.counted);
      }

  pub passes_next : (place : ℕ) (new : List (List ℕ)) → removed < most → first_place w (take (len - passed) items) ≡ Some place → new ≡ drop 1 (drop place items ++ take place items) → Passes old new w most (removed + 1) (passed + place)
  passes_next place new below is new_is =
      subst (λ zs. Passes old zs w most (removed + 1) (passed + place)) (sym new_is)
      (next_goes place below (found w h.rest place (ap (first_place w) (sym the_rest) ∙ is)))

  -- none goes any more
  whole_of : without_first (most - removed) w h.rest ≡ h.rest → drop (len - passed) items ++ take (len - passed) items ≡ without_first most w old
  whole_of stays = ap (λ zs. zs ++ take (len - passed) items) the_kept ∙ ap (λ zs. h.kept ++ zs) (the_rest ∙ sym stays) ∙ h.answer

  none_left : first_place w (take (len - passed) items) ≡ None → count_of w h.rest ≡ 0
  none_left is = absent w h.rest (ap (first_place w) (sym the_rest) ∙ is)

  pub none_stays : first_place w (take (len - passed) items) ≡ None → drop (len - passed) items ++ take (len - passed) items ≡ without_first most w old
  none_stays is = whole_of (none_goes (most - removed) w h.rest (none_left is))

  pub none_counted : first_place w (take (len - passed) items) ≡ None → removed ≡ min most (count_of w old)
  none_counted is = let none = none_left is in omega (arith, none, h.counted)

  pub all_stay : most ≤ removed → drop (len - passed) items ++ take (len - passed) items ≡ without_first most w old
  all_stay full = whole_of (ap (λ n. without_first n w h.rest) (omega arith) ∙ nothing_goes w h.rest)

  pub all_counted : most ≤ removed → most ≡ min most (count_of w old)
  all_counted full = omega (arith, h.few, h.counted)

-- ---- from the back: the same of the list turned round
module _ (k : ℕ) (xs : List (List ℕ)) (fits : k ≤ length xs) where
  parts : reverse xs ≡ reverse (drop (length xs - k) xs) ++ reverse (take (length xs - k) xs)
  parts = ap reverse (sym (take-append-drop (length xs - k) xs)) ∙ reverse-append (take (length xs - k) xs) (drop (length xs - k) xs)

  size : length (reverse (drop (length xs - k) xs)) ≡ k
  size = omega (arith, length-reverse (drop (length xs - k) xs), length-drop (length xs - k) xs)

  reverse-take : reverse (take (length xs - k) xs) ≡ drop k (reverse xs)
  reverse-take = sym (seam_drop (reverse (drop (length xs - k) xs)) (reverse (take (length xs - k) xs)) (reverse xs) k parts size)

  reverse-drop : reverse (drop (length xs - k) xs) ≡ take k (reverse xs)
  reverse-drop = sym (seam_take (reverse (drop (length xs - k) xs)) (reverse (take (length xs - k) xs)) (reverse xs) k parts size)

  reverse-turned : reverse (drop (length xs - k) xs ++ take (length xs - k) xs) ≡ drop k (reverse xs) ++ take k (reverse xs)
  reverse-turned = reverse-append (drop (length xs - k) xs) (take (length xs - k) xs) ∙ ap (λ zs. zs ++ reverse (drop (length xs - k) xs)) reverse-take ∙ ap (λ zs. drop k (reverse xs) ++ zs) reverse-drop

-- a turn by so many places, and then the last goes
pub back_goes : (items between new : List (List ℕ)) (len behind left : ℕ) → len ≡ length items → behind < len → between ≡ drop (len - behind) items ++ take (len - behind) items → left ≡ length between → new ≡ take (left - 1) between → reverse new ≡ drop 1 (drop behind (reverse items) ++ take behind (reverse items))
back_goes items between new len behind left len_is here turn left_is is =
    let same : length between ≡ length items = ap length turn ∙ ap (λ n. length (drop (n - behind) items ++ take (n - behind) items)) len_is ∙ omega (arith, length-append (drop (length items - behind) items) (take (length items - behind) items), ap length (take-append-drop (length items - behind) items), length-append (take (length items - behind) items) (drop (length items - behind) items)) in
    ap reverse is ∙ ap (λ n. reverse (take (n - 1) between)) left_is ∙ reverse-take 1 between (omega arith)
    ∙ ap (drop 1) (ap reverse turn ∙ ap (λ n. reverse (drop (n - behind) items ++ take (n - behind) items)) len_is ∙ reverse-turned behind items (omega arith))

pub from_back : (items old : List (List ℕ)) (w : List ℕ) (len passed most : ℕ) → len ≡ length items → passed ≤ len → drop (len - passed) (reverse items) ++ take (len - passed) (reverse items) ≡ without_first most w (reverse old) → drop passed items ++ take passed items ≡ without_last most w old
from_back items old w len passed most len_is fits h =
    let size : len ≡ length (reverse items) = len_is ∙ sym (length-reverse items) in
    let turn : reverse (drop (len - passed) (reverse items) ++ take (len - passed) (reverse items)) ≡ drop passed (reverse (reverse items)) ++ take passed (reverse (reverse items)) = ap (λ n. reverse (drop (n - passed) (reverse items) ++ take (n - passed) (reverse items))) size ∙ reverse-turned passed (reverse items) (omega arith) in
    ap (λ zs. drop passed zs ++ take passed zs) (sym (reverse-reverse items)) ∙ sym turn ∙ ap reverse (h ∙ sym (turned most w old)) ∙ reverse-reverse (without_last most w old)
