-- What is drawn from a set, and which members several sets give.
use Rattle.std.proofs.Common.{◌≡◌, ℕ, ◌+◌, ◌++◌, ◌%◌, ◌≤◌, min, List, [], ◌∷◌, length, take, drop, Bool, true, false, cond, ◌&&◌, refl, sym, ◌∙◌, ap, subst, arith}
use Rattle.std.specs.Prelude.{◌||◌, not, T}
use Rattle.std.specs.List.{list_all, list_any, count_by}
use Rattle.std.specs.FinMap.{contains_key, keys, len, entries, entries_sorted}
use Rattle.std.specs.FinMap.Entries.{is_sorted, below_all}
use Rattle.std.specs.Ordering.{is_lt, is_eq}
use Rattle.std.specs.declared.cmp.Ordering.{Ordering}
use Rattle.std.specs.declared.cmp.Ordering.TheVariants.{Less, Equal, Greater}
use Rattle.std.proofs.lemmas.List.Sums.{sum_by-append}
use Rattle.std.proofs.lemmas.List.{length-append, length-take, length-drop, take-append-drop}
use Rattle.mr_map.specs.Bytes.{Bytes, bytes_cmp}
use Rattle.mr_map.proofs.Conditions.{first_holds, second_holds}
use Rattle.mr_cmd_set.specs.declared.set_ask.SetOperation.TheVariants as operation
use Rattle.mr_cmd_set.specs.Members.{Members, common, minus, joined, from_place, drawn}
use Rattle.mr_cmd_set.specs.Combining.{of_all}
use Rattle.mr_cmd_shared.specs.Taken.{is_key}
use Rattle.mr_keyspace.proofs.Maps.{same_key}
use Rattle.mr_cmd_set.proofs.Pushing.{names}
use Rattle.mr_cmd_set.proofs.Sets.{contains_retain, contains_with, has_keys, len_keys}

-- ---- drawing
turned_length : (p : ℕ) (xs : List Bytes) → length (from_place p xs) ≡ length xs
turned_length p xs = omega (arith, length-append (drop p xs) (take p xs), length-drop p xs, length-take p xs)

pub drawn_length : (word n : ℕ) (s : Members) → length (drawn word n (keys s)) ≡ min n (len s)
drawn_length word n s =
    let p = word % length (keys s) in
    length-take n (from_place p (keys s)) ∙ ap (min n) (turned_length p (keys s) ∙ sym (len_keys s))

-- how often a member stands in a list
abbrev times : Bytes → List Bytes → ℕ
times x xs = count_by (is_key x) xs

times_append : (x : Bytes) (xs ys : List Bytes) → times x (xs ++ ys) ≡ times x xs + times x ys
times_append x xs ys = sum_by-append (λ k. cond (is_key x k) 1 0) xs ys

none_and : (n : ℕ) → 0 + n ≡ n
none_and n = omega arith

times_more : (x k : Bytes) (xs : List Bytes) → times x (k ∷ xs) ≡ cond (is_key x k) 1 0 + times x xs
times_more x k xs = times_append x (k ∷ []) xs ∙ ap (λ n. n + times x xs) (none_and (cond (is_key x k) 1 0))

parted : (x : Bytes) (n : ℕ) (xs : List Bytes) → times x (take n xs) + times x (drop n xs) ≡ times x xs
parted x n xs = sym (times_append x (take n xs) (drop n xs)) ∙ ap (times x) (take-append-drop n xs)

below : (r : Ordering) → T (is_lt r) → is_eq r ≡ false
below Less h = refl
below Equal h = absurd h
below Greater h = absurd h

-- a key below all others isn't among them
not_below : (x : Bytes) (es : List (Bytes × Unit {0})) → T (below_all bytes_cmp x es) → times x (names es) ≡ 0
not_below x [] h = refl
not_below x (e ∷ es) h =
    times_more x e.0 (names es)
    ∙ ap (λ b. cond b 1 0 + times x (names es)) (below (bytes_cmp x e.0) (first_holds (is_lt (bytes_cmp x e.0)) (below_all bytes_cmp x es) h))
    ∙ ap (λ n. 0 + n) (not_below x es (second_holds (is_lt (bytes_cmp x e.0)) (below_all bytes_cmp x es) h))

once : (x : Bytes) (es : List (Bytes × Unit {0})) → T (is_sorted bytes_cmp es) → times x (names es) ≤ 1
once x [] h = omega arith
once x (e ∷ es) h = subst (λ n. n ≤ 1) (sym (times_more x e.0 (names es))) (elim (is_key x e.0) as (λ b. is_key x e.0 ≡ b → cond b 1 0 + times x (names es) ≤ 1) [
  | true ↦ λ t. let none = ap (λ (k : Bytes). times k (names es)) (same_key x e.0 t) ∙ not_below e.0 es (first_holds (below_all bytes_cmp e.0 es) (is_sorted bytes_cmp es) h) in omega (arith, none)
  | false ↦ λ t. let rest = once x es (second_holds (below_all bytes_cmp e.0 es) (is_sorted bytes_cmp es) h) in omega (arith, rest)
] refl)

pub drawn_once : (word n : ℕ) (s : Members) (x : Bytes) → times x (drawn word n (keys s)) ≤ 1
drawn_once word n s x =
    let p = word % length (keys s) in
    let ks = keys s in
    omega (arith, parted x n (from_place p ks), times_append x (drop p ks) (take p ks), parted x p ks, once x (entries s) (entries_sorted s))

-- ---- several sets
and_true : (a : Bool) → a ≡ a && true
and_true true = refl
and_true false = refl

and_next : (a b c : Bool) → (a && b) && c ≡ a && (b && c)
and_next true b c = refl
and_next false b c = refl

or_false : (a : Bool) → a ≡ (a || false)
or_false true = refl
or_false false = refl

or_next : (a b c : Bool) → ((b || a) || c) ≡ (a || (b || c))
or_next true true c = refl
or_next true false c = refl
or_next false true c = refl
or_next false false c = refl

not_next : (a b c : Bool) → (a && not b) && not c ≡ a && not (b || c)
not_next true true c = refl
not_next true false c = refl
not_next false b c = refl

module _ (x : Bytes) where
  pub in_all : (s : Members) (ss : List Members) → contains_key (of_all operation.Intersection s ss) x ≡ list_all (λ t. contains_key t x) (s ∷ ss)
  in_all s [] = and_true (contains_key s x)
  in_all s (t ∷ ss) =
      in_all (common s t) ss
      ∙ ap (λ b. b && list_all (λ u. contains_key u x) ss) (contains_retain s (contains_key t) x)
      ∙ and_next (contains_key s x) (contains_key t x) (list_all (λ u. contains_key u x) ss)

  pub in_any : (s : Members) (ss : List Members) → contains_key (of_all operation.Union s ss) x ≡ list_any (λ t. contains_key t x) (s ∷ ss)
  in_any s [] = or_false (contains_key s x)
  in_any s (t ∷ ss) =
      in_any (joined s t) ss
      ∙ ap (λ b. b || list_any (λ u. contains_key u x) ss) (contains_with (keys t) s x ∙ ap (λ b. b || contains_key s x) (has_keys t x))
      ∙ or_next (contains_key s x) (contains_key t x) (list_any (λ u. contains_key u x) ss)

  pub in_first_alone : (s : Members) (ss : List Members) → contains_key (of_all operation.Difference s ss) x ≡ contains_key s x && not (list_any (λ t. contains_key t x) ss)
  in_first_alone s [] = and_true (contains_key s x)
  in_first_alone s (t ∷ ss) =
      in_first_alone (minus s t) ss
      ∙ ap (λ b. b && not (list_any (λ u. contains_key u x) ss)) (contains_retain s (λ q. not (contains_key t q)) x)
      ∙ not_next (contains_key s x) (contains_key t x) (list_any (λ u. contains_key u x) ss)
