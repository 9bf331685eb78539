-- What the bytes of strings are, at a place.
use Rattle.std.proofs.Common.{◌%◌, ◌==◌, slice_range, inl, inr, ◌≡◌, ℕ, zero, suc, false, ◌+◌, ◌-◌, ◌<◌, ◌≤◌, List, [], ◌∷◌, ◌++◌, length, get_or, set, take, drop, refl, sym, ap, ap₂, ◌∙◌, arith, length-append, length-take, length-drop, drop-cons, add-one}
use Rattle.std.specs.Cmp.Lexicographic.{slice_cmp}
use Rattle.std.specs.List.{insert, remove_range}
use Rattle.std.specs.Ordering.{nat_cmp}
use Rattle.std.specs.declared.cmp.Ordering.TheVariants.{Less}
use Rattle.std.proofs.lemmas.List.{append_assoc, append-nil, drop-drop, drop-take, take-take, take_at, drop_at, take_all, take-append-drop, set_split}
use Rattle.std.proofs.lemmas.List.Edits.{length-insert}
use Rattle.std.proofs.lemmas.Grind.{flat_map-append, take_at_read}
use Rattle.std.proofs.lemmas.List.Concat.{get_or-flat_map}
use Rattle.std.proofs.lemmas.List.Folds.{length-flat_map-take}
use Rattle.std.proofs.lemmas.Bool.{cases_lt}
use Rattle.mr_packed.specs.Packing.{AreBelow, IsNowhere, IsPacking, spelled, spelled_all, start_of, strings_in, strings_of}

-- each string has a byte at least
pub count_within : (strings : List (List ℕ)) → length strings ≤ length (spelled_all strings)
count_within [] = omega arith
count_within (s ∷ strings) = omega (arith, count_within strings, length-append s (spelled_all strings))

-- what is spelled is read again
pub read_again : (strings : List (List ℕ)) (most : ℕ) → length strings ≤ most → strings_in most (spelled_all strings) ≡ strings
read_again [] zero within = refl
read_again [] (suc most) within = refl
read_again (s ∷ strings) zero within = absurd (omega arith)
read_again (s ∷ strings) (suc most) within = ap₂ (λ x y. x ∷ y) (take_at s (spelled_all strings) (length s) refl)
    (ap (strings_in most) (drop_at s (spelled_all strings) (length s) refl) ∙ read_again strings most (omega arith))

-- .. so bytes that are spelled so are these strings
pub strings_are : (bytes : List ℕ) (strings : List (List ℕ)) → bytes ≡ spelled_all strings → strings_of bytes ≡ strings
strings_are bytes strings b = ap strings_of b ∙ read_again strings (length (spelled_all strings)) (count_within strings)

pub packing : (bytes : List ℕ) (strings : List (List ℕ)) → bytes ≡ spelled_all strings → IsPacking bytes
packing bytes strings b = b ∙ ap spelled_all (sym (strings_are bytes strings b))

-- the strings before a place and those from it on
pub cut : (strings : List (List ℕ)) (at : ℕ) → spelled_all strings ≡ spelled_all (take at strings) ++ spelled_all (drop at strings)
cut strings at = ap spelled_all (sym (take-append-drop at strings)) ∙ flat_map-append spelled (take at strings) (drop at strings)

pub front : (strings : List (List ℕ)) (at : ℕ) → take (length (spelled_all (take at strings))) (spelled_all strings) ≡ spelled_all (take at strings)
front strings at = ap (take (length (spelled_all (take at strings)))) (cut strings at) ∙ take_at _ _ _ refl

pub back : (strings : List (List ℕ)) (at : ℕ) → drop (length (spelled_all (take at strings))) (spelled_all strings) ≡ spelled_all (drop at strings)
back strings at = ap (drop (length (spelled_all (take at strings)))) (cut strings at) ∙ drop_at (spelled_all (take at strings)) _ _ refl

-- a string put at a place
pub put_in : (bytes : List ℕ) (strings : List (List ℕ)) (at start : ℕ) (s : List ℕ) → bytes ≡ spelled_all strings → start ≡ length (spelled_all (take at strings))
    → take start bytes ++ (spelled s ++ drop start bytes) ≡ spelled_all (insert strings at s)
put_in bytes strings at start s b p = rw b (rw p (
    ap₂ (λ x y. x ++ (spelled s ++ y)) (front strings at) (back strings at) ∙ sym (flat_map-append spelled (take at strings) (s ∷ drop at strings))))

-- strings taken out
pub taken_out : (bytes : List ℕ) (strings : List (List ℕ)) (from to start end : ℕ) → bytes ≡ spelled_all strings → start ≡ length (spelled_all (take from strings)) → end ≡ length (spelled_all (take to strings))
    → take start bytes ++ drop end bytes ≡ spelled_all (remove_range strings from to)
taken_out bytes strings from to start end b p q = rw b (rw p (rw q (
    ap₂ (λ x y. x ++ y) (front strings from) (back strings to) ∙ sym (flat_map-append spelled (take from strings) (drop to strings)))))

pub count_bound : (bytes : List ℕ) (strings : List (List ℕ)) → bytes ≡ spelled_all strings → length strings ≤ length bytes
count_bound bytes strings b = omega (arith, count_within strings, ap length b)

-- at a string's start stands its length
pub size_at : (bytes : List ℕ) (strings : List (List ℕ)) (at start : ℕ) → bytes ≡ spelled_all strings → start ≡ length (spelled_all (take at strings)) → at < length strings
    → get_or bytes start 0 ≡ length (get_or strings at [])
size_at bytes strings at start b p within =
    let place : start ≡ length (spelled_all (take at strings)) + 0 = omega (arith, p) in
    ap₂ (λ l n. get_or l n 0) b place ∙ get_or-flat_map spelled strings at 0 [] 0 within (omega arith)

-- .. and the next one's start is behind it
pub next_start : (strings : List (List ℕ)) (at : ℕ) → at < length strings → length (spelled_all (take (at + 1) strings)) ≡ length (spelled_all (take at strings)) + (length (get_or strings at []) + 1)
next_start strings at within =
    ap (λ l. length (spelled_all l)) ((take_at_read strings at [] within).1)
    ∙ ap length (flat_map-append spelled (take at strings) (get_or strings at [] ∷ []))
    ∙ length-append (spelled_all (take at strings)) _
    ∙ ap (λ n. length (spelled_all (take at strings)) + n) (ap length (append-nil (spelled (get_or strings at []))) ∙ sym (add-one _))

pub ends_within : (bytes : List ℕ) (strings : List (List ℕ)) (at start : ℕ) → bytes ≡ spelled_all strings → start ≡ length (spelled_all (take at strings)) → at < length strings
    → start + 1 + length (get_or strings at []) ≤ length bytes
ends_within bytes strings at start b p within = omega (arith, p, ap length b, length-flat_map-take spelled strings at [] within)

-- the string itself
pub text_at : (bytes : List ℕ) (strings : List (List ℕ)) (at start : ℕ) → bytes ≡ spelled_all strings → start ≡ length (spelled_all (take at strings)) → at < length strings
    → take (length (get_or strings at [])) (drop (start + 1) bytes) ≡ get_or strings at []
text_at bytes strings at start b p within =
    let s = get_or strings at [] in
    let rest = drop (suc at) strings in
    let tail : drop start bytes ≡ spelled s ++ spelled_all rest = ap₂ (λ n l. drop n l) p b ∙ back strings at ∙ ap spelled_all (drop-cons strings at [] within) in
    let behind : drop (start + 1) bytes ≡ s ++ spelled_all rest = ap (λ n. drop n bytes) (omega arith) ∙ sym (drop-drop 1 start bytes) ∙ ap (drop 1) tail in
    ap (take (length s)) behind ∙ take_at s _ _ refl

-- strings behind others
pub joined : (bytes more : List ℕ) (strings others : List (List ℕ)) → bytes ≡ spelled_all strings → more ≡ spelled_all others → bytes ++ more ≡ spelled_all (strings ++ others)
joined bytes more strings others b m = ap₂ (λ x y. x ++ y) b m ∙ sym (flat_map-append spelled strings others)

pub last_put : (bytes : List ℕ) (strings : List (List ℕ)) (s : List ℕ) → bytes ≡ spelled_all strings → bytes ++ spelled s ≡ spelled_all (strings ++ s ∷ [])
last_put bytes strings s b = joined bytes (spelled s) strings (s ∷ []) b (sym (append-nil (spelled s)))

pub length-removed : (strings : List (List ℕ)) (from to : ℕ) → from ≤ to → to ≤ length strings → length strings - (to - from) ≡ length (remove_range strings from to)
length-removed strings from to ordered within = omega (arith, length-append (take from strings) (drop to strings), length-take from strings, length-drop to strings)

pub starts_within : (bytes : List ℕ) (strings : List (List ℕ)) (at start : ℕ) → bytes ≡ spelled_all strings → start ≡ length (spelled_all (take at strings)) → at < length strings → start < length bytes
starts_within bytes strings at start b p within = omega (arith, ends_within bytes strings at start b p within)

-- a start is within the bytes, and no start comes before that of a string in front
pub start_bound : (bytes : List ℕ) (strings : List (List ℕ)) (at start : ℕ) → bytes ≡ spelled_all strings → start ≡ length (spelled_all (take at strings)) → start ≤ length bytes
start_bound bytes strings at start b p = omega (arith, p, ap length b, ap length (cut strings at), length-append (spelled_all (take at strings)) (spelled_all (drop at strings)))

pub start_order : (strings : List (List ℕ)) (from to start end : ℕ) → from ≤ to → start ≡ length (spelled_all (take from strings)) → end ≡ length (spelled_all (take to strings)) → start ≤ end
start_order strings from to start end ordered p q =
    omega (arith, q, start_bound (spelled_all (take to strings)) (take to strings) from start refl (p ∙ ap (λ l. length (spelled_all l)) (sym (take-take from to strings ordered))))

-- the bytes of the strings from one place to another
pub between : (bytes : List ℕ) (strings : List (List ℕ)) (from to start end : ℕ) → bytes ≡ spelled_all strings → from ≤ to → start ≡ length (spelled_all (take from strings)) → end ≡ length (spelled_all (take to strings))
    → slice_range bytes start end ≡ spelled_all (slice_range strings from to)
between bytes strings from to start end b ordered p q =
    let more = to - from in
    let sum : to ≡ from + more = omega (arith, ordered) in
    let middle : drop from (take to strings) ≡ take more (drop from strings) = ap (λ n. drop from (take n strings)) sum ∙ drop-take from more strings in
    let parts : spelled_all (take to strings) ≡ spelled_all (take from strings) ++ spelled_all (take more (drop from strings)) =
    cut (take to strings) from ∙ ap₂ (λ x y. spelled_all x ++ spelled_all y) (take-take from to strings ordered) middle in
    let size : end - start ≡ length (spelled_all (take more (drop from strings))) =
    omega (arith, p, q, ap length parts, length-append (spelled_all (take from strings)) (spelled_all (take more (drop from strings)))) in
    ap₂ (λ n l. take n l) size (ap₂ (λ n l. drop n l) p b ∙ back strings from) ∙ front (drop from strings) more

pub length-between : (strings : List (List ℕ)) (from to : ℕ) → to ≤ length strings → length (slice_range strings from to) ≡ to - from
length-between strings from to within = omega (arith, length-take (to - from) (drop from strings), length-drop from strings)

-- one put in the place of another
pub put_over : (bytes : List ℕ) (strings : List (List ℕ)) (at start end : ℕ) (s : List ℕ) → bytes ≡ spelled_all strings → at < length strings → start ≡ start_of strings at → end ≡ start_of strings (at + 1)
    → take start bytes ++ (spelled s ++ drop end bytes) ≡ spelled_all (set strings at s)
put_over bytes strings at start end s b within p q = rw b (rw p (rw q (
    ap₂ (λ x y. x ++ (spelled s ++ y)) (front strings at) (back strings (at + 1))
    ∙ sym (flat_map-append spelled (take at strings) (s ∷ drop (at + 1) strings))
    ∙ ap spelled_all (ap (λ n. take at strings ++ s ∷ drop n strings) (add-one at) ∙ sym (set_split strings at s within)))))

-- two put at a place, one behind the other
pub two_in : (strings : List (List ℕ)) (at : ℕ) (first second : List ℕ) → at ≤ length strings → insert (insert strings at second) at first ≡ take at strings ++ first ∷ (second ∷ drop at strings)
two_in strings at first second within =
    let size : length (take at strings) ≡ at = omega (arith, length-take at strings, within) in
    ap₂ (λ x y. x ++ first ∷ y) (take_at (take at strings) (second ∷ drop at strings) at size) (drop_at (take at strings) (second ∷ drop at strings) at size)

pub put_two : (bytes : List ℕ) (strings : List (List ℕ)) (at start : ℕ) (first second : List ℕ) → bytes ≡ spelled_all strings → start ≡ start_of strings at → at ≤ length strings
    → take start bytes ++ ((spelled first ++ spelled second) ++ drop start bytes) ≡ spelled_all (insert (insert strings at second) at first)
put_two bytes strings at start first second b p within = rw b (rw p (
    ap₂ (λ x y. x ++ ((spelled first ++ spelled second) ++ y)) (front strings at) (back strings at)
    ∙ ap (λ l. spelled_all (take at strings) ++ l) (append_assoc (spelled first) (spelled second) (spelled_all (drop at strings)))
    ∙ sym (flat_map-append spelled (take at strings) (first ∷ (second ∷ drop at strings)))
    ∙ ap spelled_all (sym (two_in strings at first second within))))

pub length-two_in : (strings : List (List ℕ)) (at : ℕ) (first second : List ℕ) → at ≤ length strings → length (insert (insert strings at second) at first) ≡ length strings + 2
length-two_in strings at first second within =
    omega (arith, within, length-insert strings at second within, length-insert (insert strings at second) at first (omega (arith, within, length-insert strings at second within)))

-- where a walk over the same bytes ends
pub walked : (bytes items : List ℕ) (strings : List (List ℕ)) (to end : ℕ) → bytes ≡ items → strings_of items ≡ strings → end ≡ start_of (strings_of bytes) to → end ≡ start_of strings to
walked bytes items strings to end b s e = e ∙ ap (λ l. start_of l to) (ap strings_of b ∙ s)

-- a walk is at the end of the bytes exactly behind the last string
pub ended : (bytes : List ℕ) (strings : List (List ℕ)) (at start : ℕ) → bytes ≡ spelled_all strings → start ≡ start_of strings at → at ≤ length strings → start ≡ length bytes → at ≡ length strings
ended bytes strings at start b p within end = elim (cases_lt at (length strings)) [
  | inl less ↦ absurd (omega (arith, end, starts_within bytes strings at start b p less))
  | inr more ↦ omega (arith, within, more)
]

pub goes_on : (bytes : List ℕ) (strings : List (List ℕ)) (at start : ℕ) → bytes ≡ spelled_all strings → start ≡ start_of strings at → at ≤ length strings → (start ≡ length bytes → ⊥) → at < length strings
goes_on bytes strings at start b p within on = elim (cases_lt at (length strings)) [
  | inl less ↦ less
  | inr more ↦ absurd (on (p ∙ ap (λ l. length (spelled_all l)) (take_all at strings (omega (arith, more))) ∙ sym (ap length b)))
]

-- nor does it stand at a further place
pub nowhere_more : (strings : List (List ℕ)) (step : ℕ) (string : List ℕ) (at : ℕ) → IsNowhere strings step string at → ((at % step ≡ 0) × (get_or strings at [] ≡ string) → ⊥) → IsNowhere strings step string (at + 1)
nowhere_more strings step string at none other i within step_is string_is = elim (cases_lt i at) [
  | inl less ↦ none i less step_is string_is
  | inr more ↦ let same : i ≡ at = omega (arith, within, more) in other (ap (λ n. n % step) (sym same) ∙ step_is, ap (λ n. get_or strings n []) (sym same) ∙ string_is)
]

-- without the first
pub first_gone : (bytes : List ℕ) (strings : List (List ℕ)) (size : ℕ) → bytes ≡ spelled_all strings → 0 < length strings → size ≡ length (get_or strings 0 []) → drop (size + 1) bytes ≡ spelled_all (drop 1 strings)
first_gone bytes strings size b some s =
    let next : size + 1 ≡ length (spelled_all (take 1 strings)) = omega (arith, s, next_start strings 0 some) in
    ap₂ (λ n l. drop n l) next b ∙ back strings 1

-- without the last
pub last_gone : (bytes : List ℕ) (strings : List (List ℕ)) (at start : ℕ) → bytes ≡ spelled_all strings → start ≡ start_of strings at → take start bytes ≡ spelled_all (take at strings)
last_gone bytes strings at start b p = ap₂ (λ n l. take n l) p b ∙ front strings at

pub ends_with : (strings : List (List ℕ)) (last : ℕ) → last < length strings → length strings ≤ last + 1 → strings ≡ take last strings ++ get_or strings last [] ∷ []
ends_with strings last some all = sym (take_all (last + 1) strings all) ∙ (take_at_read strings last [] some).1

-- what stands at a further place is less too
pub below_more : (strings : List (List ℕ)) (string : List ℕ) (at : ℕ) → AreBelow strings string at → (at % 2 ≡ 0 → slice_cmp nat_cmp (get_or strings at []) string ≡ Less) → AreBelow strings string (at + 1)
below_more strings string at below here i within even = elim (cases_lt i at) [
  | inl less ↦ below i less even
  | inr more ↦ let same : i ≡ at = omega (arith, within, more) in ap (λ n. slice_cmp nat_cmp (get_or strings n []) string) same ∙ here (ap (λ n. n % 2) (sym same) ∙ even)
]

-- bytes that are there have a string
pub some_strings : (bytes : List ℕ) (strings : List (List ℕ)) → bytes ≡ spelled_all strings → 0 < length bytes → 0 < length strings
some_strings bytes [] b some = let none : length bytes ≡ 0 = ap length b in absurd (omega (arith, none, some))
some_strings bytes (s ∷ strings) b some = omega arith

-- what isn't empty has a byte
pub not_empty : (bytes : List ℕ) → (length bytes == 0) ≡ false → 0 < length bytes
not_empty [] e = cc
not_empty (b ∷ bytes) e = omega arith
