-- Commands that replace, insert and remove items have faithful effects.
use Rattle.std.proofs.Common.{ℕ, zero, suc, ◌+◌, ◌-◌, ◌<◌, ◌≤◌, ◌^◌, ◌≡◌, ℤ, pos, negsuc, List, [], ◌∷◌, length, take, drop, min, Bool, true, false, cond, ◌&&◌, Option, Some, None, refl, sym, ◌∙◌, ap, arith, eqb-true}
use Rattle.std.specs.Prelude.{◌≢◌, ◌==◌, IsTrue, not, nat_lt, slice_get, slice_set, slice_range, insert, if◌then◌else◌}
use Rattle.std.specs.Option.{option_map}
use Rattle.std.specs.Str.{bytes_eq}
use Rattle.std.proofs.lemmas.Bool.{lt-ltb, le-leb, eq-eqb}
use Rattle.std.proofs.lemmas.List.{length-append, length-take, length-drop, take_all, set-get_or, get_or-set_same, length-set}
use Rattle.std.proofs.lemmas.List.Sums.{sum_by-cons}
use Rattle.std.proofs.lemmas.Option.{slice_get-get_or, get_or_from_slice_get}
use Rattle.mr_map.specs.Bytes.{Bytes}
use Rattle.mr_bytes.specs.Words.{fits}
use Rattle.mr_bytes.specs.Number.{is_i64}
use Rattle.mr_value.specs.Lists.{count_of, without, without_first, without_last, without_all, removed_count}
use Rattle.mr_bytes.specs.Window.{named_place, window_of}
use Rattle.mr_bytes.specs.declared.ends.Side.{Side}
use Rattle.mr_bytes.proofs.Numbers.{same_bytes, equal_bytes, is_i64-pos}
use Rattle.mr_value.proofs.Removals.{length-without}
use Rattle.mr_keyspace.specs.Collections.{is_place_of, is_part_of, place_beside}
use Rattle.mr_keyspace.specs.Steps.{lists, held, set_item_step, insert_item_step, remove_items_step, trim_step, del_step}
use Rattle.mr_keyspace.specs.Changes.{change}
use Rattle.mr_keyspace.specs.declared.value.Entry.{Entry}
use Rattle.mr_effect.specs.declared.effect.Effect.TheVariants as effect
use Rattle.mr_data.proofs.Running.{IsStep}
use Rattle.mr_cmd_shared.proofs.Changing.{IsFaithfulChange}
use Rattle.mr_cmd_list.specs.Edits.{is_item, with_item, with_inserted, without_equal, is_whole, trimmed}
use Rattle.mr_cmd_list.proofs.Sizes.{not_both, both, three, positive, none_of, place_within, window_within}
use Rattle.mr_cmd_list.proofs.OneEffect.{no_effect, by_step, one_effect, unless_same}
use Rattle.mr_effect.proofs.Texts.{short_effect}

-- ---- an item in another's place
there_already : (item : Bytes) (xs : List Bytes) (place : ℕ) (g : Option Bytes) → slice_get xs place ≡ g → is_item item g ≡ true → slice_set xs place item ≡ xs
there_already item xs place None is h = cc
there_already item xs place (Some x) is h = ap (slice_set xs place) (sym (same_bytes x item h) ∙ sym (get_or_from_slice_get xs place x x is)) ∙ set-get_or xs place x

got_back : (item : Bytes) (xs : List Bytes) (place : ℕ) → place < length xs → slice_get (slice_set xs place item) place ≡ Some item
got_back item xs place below = slice_get-get_or (slice_set xs place item) place item (omega (arith, length-set xs place item)) ∙ ap Some (get_or-set_same xs place item item below)

another_item : (item : Bytes) (xs : List Bytes) (place : ℕ) → place < length xs → is_item item (slice_get xs place) ≡ false → slice_set xs place item ≢ xs
another_item item xs place below other h =
    not_both (ap (λ (ys : List Bytes). is_item item (slice_get ys place)) (sym h) ∙ ap (is_item item) (got_back item xs place below) ∙ equal_bytes item) other

set_is_step : (k : Bytes) (place : ℕ) (item : Bytes) → IsTrue (fits k) → IsTrue (fits item) → place < 2 ^ 63 → IsStep k (effect.SetItem k (pos place) item) (set_item_step (pos place) item)
unfolding change
set_is_step k place item named fit short = record { possible = both _ _ (both _ _ (is_i64-pos place short) (le-leb 0 place (omega arith))) (both (fits k) (fits item) named fit); short = short_effect (effect.SetItem k (pos place) item) (omega arith); is = λ m. refl }

is_place : (place len : ℕ) → place < len → is_place_of (pos place) len ≡ true
is_place place len h = both _ _ (le-leb 0 place (omega arith)) (lt-ltb place len h)

module _ (k : Bytes) (x : List Bytes) (o : Option Entry) (named : IsTrue (fits k)) (there : held lists o ≡ Some x) where
  pub set_faithful : (index : ℤ) (item : Bytes) → IsTrue (fits item) → length x < 2 ^ 63 → IsFaithfulChange lists (with_item k item (named_place index (length x)) x) x k o
  set_faithful index item fit short = elim (named_place index (length x)) as (λ p. named_place index (length x) ≡ p → IsFaithfulChange lists (with_item k item p x) x k o) [
    | None ↦ λ is. no_effect _ x k o refl refl
    | Some place ↦ λ is.
        let below = place_within index (length x) place is in
        unless_same _ x k o (λ xs. if is_place_of (pos place) (length xs) then Some (slice_set xs place item) else None) there (effect.SetItem k (pos place) item) (is_item item (slice_get x place)) refl
        (set_is_step k place item named fit (omega arith))
        (λ h. there_already item x place (slice_get x place) refl h)
        (λ h. ap (λ b. if b then Some (slice_set x place item) else None) (is_place place (length x) below))
        (λ h. another_item item x place below h)
  ] refl

-- ---- an item beside a pivot
insert_is_step : (k : Bytes) (side : Side) (pivot item : Bytes) → IsTrue (fits k) → IsTrue (fits pivot) → IsTrue (fits item) → IsStep k (effect.InsertItem k side pivot item) (insert_item_step side pivot item)
unfolding change
insert_is_step k side pivot item named first second = record { possible = three (fits k) (fits pivot) (fits item) named first second; short = short_effect (effect.InsertItem k side pivot item) (omega arith); is = λ m. refl }

longer : (xs : List Bytes) (place : ℕ) (item : Bytes) → insert xs place item ≢ xs
longer xs place item h = omega (arith, ap length h, length-append (take place xs) (item ∷ drop place xs), length-take place xs, length-drop place xs)

module _ (k : Bytes) (x : List Bytes) (o : Option Entry) (named : IsTrue (fits k)) (there : held lists o ≡ Some x) where
  pub insert_faithful : (side : Side) (pivot item : Bytes) → IsTrue (fits pivot) → IsTrue (fits item) → IsFaithfulChange lists (with_inserted k side pivot item (place_beside side pivot x) x) x k o
  insert_faithful side pivot item first second = elim (place_beside side pivot x) as (λ p. place_beside side pivot x ≡ p → IsFaithfulChange lists (with_inserted k side pivot item p x) x k o) [
    | None ↦ λ is. no_effect _ x k o refl refl
    | Some place ↦ λ is.
        one_effect _ x k o (λ xs. option_map (λ p. insert xs p item) (place_beside side pivot xs)) there (effect.InsertItem k side pivot item) (insert_is_step k side pivot item named first second) refl
        (ap (option_map (λ p. insert x p item)) is) (longer x place item)
  ] refl

-- ---- equal items
count_of-cons : (w x : Bytes) (xs : List Bytes) → count_of w (x ∷ xs) ≡ cond (bytes_eq x w) 1 0 + count_of w xs
count_of-cons w x xs = sum_by-cons (λ y. cond (bytes_eq y w) 1 0) x xs

first_other : (w x : Bytes) (xs : List Bytes) → count_of w (x ∷ xs) ≡ 0 → (b : Bool) → bytes_eq x w ≡ b → (b ≡ false) × (count_of w xs ≡ 0)
first_other w x xs none true e = absurd (omega (arith, none, count_of-cons w x xs, ap {B = ℕ} (λ b. cond b 1 0) e))
first_other w x xs none false e = (refl, omega (arith, none, count_of-cons w x xs))

module _ (w : Bytes) where
  all_stay : (xs : List Bytes) → count_of w xs ≡ 0 → without_all w xs ≡ xs
  all_stay [] h = refl
  all_stay (x ∷ xs) h =
      let other = first_other w x xs h (bytes_eq x w) refl in
      ap (λ b. cond (not b) (x ∷ without_all w xs) (without_all w xs)) other.0 ∙ ap (λ (ys : List Bytes). x ∷ ys) (all_stay xs other.1)

  first_stay : (n : ℕ) (xs : List Bytes) → count_of w xs ≡ 0 → without_first n w xs ≡ xs
  first_stay n [] h = refl
  first_stay n (x ∷ xs) h =
      let other = first_other w x xs h (bytes_eq x w) refl in
      stays (nat_lt 0 n) other.0 ∙ ap (λ (ys : List Bytes). x ∷ ys) (first_stay n xs other.1)
    where
      stays : (a : Bool) → bytes_eq x w ≡ false → (if a && bytes_eq x w then without_first (n - 1) w xs else x ∷ without_first n w xs) ≡ x ∷ without_first n w xs
      stays true e = ap (λ b. if b then without_first (n - 1) w xs else x ∷ without_first n w xs) e
      stays false e = refl

  last_stay : (n : ℕ) (xs : List Bytes) → count_of w xs ≡ 0 → without_last n w xs ≡ xs
  last_stay n [] h = refl
  last_stay n (x ∷ xs) h =
      let other = first_other w x xs h (bytes_eq x w) refl in
      stays (nat_lt (count_of w xs) n) other.0 ∙ ap (λ (ys : List Bytes). x ∷ ys) (last_stay n xs other.1)
    where
      stays : (a : Bool) → bytes_eq x w ≡ false → (if a && bytes_eq x w then without_last n w xs else x ∷ without_last n w xs) ≡ x ∷ without_last n w xs
      stays true e = ap (λ b. if b then without_last n w xs else x ∷ without_last n w xs) e
      stays false e = refl

none_counted : (n m : ℕ) → min (suc n) m ≡ 0 → m ≡ 0
none_counted n m h = omega (arith, h)

none_removed : (count : ℤ) (w : Bytes) (xs : List Bytes) → removed_count count (count_of w xs) ≡ 0 → without count w xs ≡ xs
none_removed (pos zero) w xs h = all_stay w xs h
none_removed (pos (suc n)) w xs h = first_stay w (suc n) xs (none_counted n (count_of w xs) h)
none_removed (negsuc n) w xs h = last_stay w (suc n) xs (none_counted n (count_of w xs) h)

remove_is_step : (k : Bytes) (count : ℤ) (item : Bytes) → IsTrue (fits k) → IsTrue (fits item) → IsTrue (is_i64 count) → IsStep k (effect.RemoveItems k count item) (remove_items_step count item)
unfolding change
remove_is_step k count item named fit number = record { possible = both (is_i64 count) (fits k && fits item) number (both (fits k) (fits item) named fit); short = short_effect (effect.RemoveItems k count item) (omega arith); is = λ m. refl }

module _ (k : Bytes) (x : List Bytes) (o : Option Entry) (named : IsTrue (fits k)) (there : held lists o ≡ Some x) where
  pub remove_faithful : (count : ℤ) (item : Bytes) → IsTrue (fits item) → IsTrue (is_i64 count) → IsFaithfulChange lists (without_equal k count item (removed_count count (count_of item x)) x) x k o
  remove_faithful count item fit number =
      unless_same _ x k o (λ xs. Some (without count item xs)) there (effect.RemoveItems k count item) (removed_count count (count_of item x) == 0) refl (remove_is_step k count item named fit number)
      (λ h. none_removed count item x (none_of (removed_count count (count_of item x)) h))
      (λ h. refl)
      (λ h same. let some = positive (removed_count count (count_of item x)) h in omega (arith, length-without count item x, ap length same, some))

-- ---- a part
trim_is_step : (k : Bytes) (first last : ℕ) → IsTrue (fits k) → first < 2 ^ 63 → last < 2 ^ 63 → IsStep k (effect.Trim k (pos first) (pos last)) (trim_step (pos first) (pos last))
unfolding change
trim_is_step k first last named low high = record { possible = both _ _ (both (is_i64 (pos first)) (is_i64 (pos last)) (is_i64-pos first low) (is_i64-pos last high)) named; short = short_effect (effect.Trim k (pos first) (pos last)) (omega arith); is = λ m. refl }

del_is_step : (k : Bytes) → IsTrue (fits k) → IsStep k (effect.Del k) del_step
unfolding change
del_is_step k named = record { possible = named; short = short_effect (effect.Del k) (omega arith); is = λ m. refl }

is_part : (first last len : ℕ) → first ≤ last → last < len → is_part_of (pos first) (pos last) len ≡ true
is_part first last len order below = three _ _ _ (le-leb 0 first (omega arith)) (le-leb first last order) (lt-ltb last len below)

of_two : (a b : Bool) → a && b ≡ true → (a ≡ true) × (b ≡ true)
of_two true b h = (refl, h)
of_two false b h = cc

whole : (w : ℕ × ℕ) (xs : List Bytes) → is_whole w (length xs) ≡ true → slice_range xs w.0 (w.1 + 1) ≡ xs
whole w xs h =
    let parts = of_two (w.0 == 0) (w.1 + 1 == length xs) h in
    let start = none_of w.0 parts.0 in
    ap (λ n. take (w.1 + 1 - n) (drop n xs)) start ∙ take_all (w.1 + 1 - 0) xs (omega (arith, eqb-true (w.1 + 1) (length xs) parts.1))

part : (w : ℕ × ℕ) (xs : List Bytes) → w.0 ≤ w.1 → w.1 < length xs → is_whole w (length xs) ≡ false → slice_range xs w.0 (w.1 + 1) ≢ xs
part w xs order below some h =
    let len : length (slice_range xs w.0 (w.1 + 1)) ≡ length xs = ap length h in
    let start : w.0 ≡ 0 = omega (arith, len, length-take (w.1 + 1 - w.0) (drop w.0 xs), length-drop w.0 xs) in
    let all : w.1 + 1 ≡ length xs = omega (arith, len, length-take (w.1 + 1 - w.0) (drop w.0 xs), length-drop w.0 xs) in
    not_both (both (w.0 == 0) (w.1 + 1 == length xs) (eq-eqb w.0 0 start) (eq-eqb (w.1 + 1) (length xs) all)) some

nothing_kept : (xs : List Bytes) → (length xs == 0) ≡ false → [] ≢ xs
nothing_kept xs some h = not_both (ap (λ (ys : List Bytes). length ys == 0) (sym h)) some

module _ (k : Bytes) (x : List Bytes) (o : Option Entry) (named : IsTrue (fits k)) (there : held lists o ≡ Some x) where
  pub trim_faithful : (first last : ℤ) → length x < 2 ^ 63 → (length x == 0) ≡ false → IsFaithfulChange lists (trimmed k (window_of first last (length x)) x) x k o
  trim_faithful first last short some = elim (window_of first last (length x)) as (λ w. window_of first last (length x) ≡ w → IsFaithfulChange lists (trimmed k w x) x k o) [
    | None ↦ λ is. by_step _ x k o (effect.Del k) del_step (del_is_step k named) refl refl (nothing_kept x some)
    | Some w ↦ λ is.
        let in_order = (window_within first last (length x) w is).0 in
        let below = (window_within first last (length x) w is).1 in
        unless_same _ x k o (λ xs. if is_part_of (pos w.0) (pos w.1) (length xs) then Some (slice_range xs w.0 (w.1 + 1)) else None) there (effect.Trim k (pos w.0) (pos w.1)) (is_whole w (length x)) refl
        (trim_is_step k w.0 w.1 named (omega arith) (omega arith))
        (λ h. whole w x h)
        (λ h. ap (λ b. if b then Some (slice_range x w.0 (w.1 + 1)) else None) (is_part w.0 w.1 (length x) in_order below))
        (λ h. part w x in_order below h)
  ] refl
