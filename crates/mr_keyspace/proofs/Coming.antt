-- The timed keys of an index, as they come.
use Rattle.std.proofs.Common.{◌≡◌, ℤ, List, [], ◌∷◌, ◌++◌, map, Bool, true, false, ◌&&◌, ◌||◌, cond, Option, Some, None, refl, sym, ◌∙◌, ap}
use Rattle.std.specs.Prelude.{T, is_some}
use Rattle.std.specs.FinMap.Entries.{below_all}
use Rattle.std.specs.declared.cmp.Ordering.{Ordering}
use Rattle.std.specs.declared.cmp.Ordering.TheVariants.{Less, Equal, Greater}
use Rattle.std.specs.Ordering.{int_eq, is_eq, is_lt, eq_by_cmp, ordering_reverse}
use Rattle.std.specs.Cmp.{tied_then}
use Rattle.std.specs.List.{AllByRecursion, list_any, flat_map}
use Rattle.std.specs.List.Sorted.{IsStrictlySortedBy}
use Rattle.std.specs.FinMap.{get, keys, contains_key, entries, entries_sorted, is_sorted, contains_key-keys}
use Rattle.std.proofs.lemmas.List.Folds.{list_any-append}
use Rattle.std.proofs.lemmas.List.Sorted.{list_any-IsPermutation}
use Rattle.std.proofs.lemmas.Map.Lookups.{btree_set_from_contains}
use Rattle.mr_map.specs.Bytes.{Bytes, bytes_cmp}
use Rattle.mr_zset.specs.Order.{placed, in_order}
use Rattle.mr_zset.specs.Pairs.{pair_cmp}
use Rattle.mr_zset.proofs.Orders.{IsPermutation-in_order}
use Rattle.mr_zset.proofs.PairLemmas.{pairs_total, exact_pair}
use Rattle.mr_keyspace.specs.Dataset.{Dataset}
use Rattle.mr_keyspace.specs.Steps.{deadline_of}
use Rattle.mr_keyspace.specs.TimedKeys.{dated, is_deadline, timed_cmp, IsIndex, timed, timed_keys}
use Rattle.mr_keyspace.specs.declared.timed_key.TimedKey.{TimedKey}
use Rattle.mr_keyspace.specs.declared.value.Entry.{Entry}
use Rattle.mr_keyspace.proofs.Maps.{same_key}

-- what is placed among greater ones, and no equal one

abbrev Pair : Type 0
Pair = Bytes × ℤ

-- whether a pair is among others
among : Pair → List Pair → Bool
among p qs = list_any (λ q. is_eq (pair_cmp p q)) qs

abbrev Below : Pair → List Pair → Type 0
Below p qs = AllByRecursion (λ q. pair_cmp p q ≡ Less) qs

less_first : (p q : Pair) (qs : List Pair) → pair_cmp p q ≡ Less → Below q qs → Below p qs
less_first p q [] l h = tt
less_first p q (r ∷ qs) l h = (pairs_total.trans p q r l h.0, less_first p q qs l h.1)

below_placed : (p a : Pair) (qs : List Pair) → pair_cmp p a ≡ Less → Below p qs → Below p (placed pair_cmp a qs)
below_placed p a [] l h = (l, tt)
below_placed p a (q ∷ qs) l h = elim (is_lt (pair_cmp q a)) as (λ b. Below p (cond b (q ∷ placed pair_cmp a qs) (a ∷ q ∷ qs))) [
  | true ↦ (h.0, below_placed p a qs l h.1)
  | false ↦ (l, h)
]

is_less : (r : Ordering) → is_lt r ≡ true → r ≡ Less
is_less Less h = refl
is_less Equal h = cc
is_less Greater h = cc

turned_less : (r s : Ordering) → s ≡ ordering_reverse r → is_lt r ≡ false → is_eq s ≡ false → s ≡ Less
turned_less Less s e h n = cc
turned_less Equal s e h n = absurd (cc (ap is_eq e))
turned_less Greater s e h n = e

first_not : (a b : Bool) → (a || b) ≡ false → a ≡ false
first_not true b h = cc
first_not false b h = refl

second_not : (a b : Bool) → (a || b) ≡ false → b ≡ false
second_not true b h = cc
second_not false b h = h

strict_placed : (a : Pair) (qs : List Pair) → among a qs ≡ false → IsStrictlySortedBy pair_cmp qs → IsStrictlySortedBy pair_cmp (placed pair_cmp a qs)
unfolding IsStrictlySortedBy among
strict_placed a [] new up = (tt, tt)
strict_placed a (q ∷ qs) new up = elim (is_lt (pair_cmp q a)) as (λ b. is_lt (pair_cmp q a) ≡ b → IsStrictlySortedBy pair_cmp (cond b (q ∷ placed pair_cmp a qs) (a ∷ q ∷ qs))) [
  | true ↦ λ h. (below_placed q a qs (is_less _ h) up.0, strict_placed a qs (second_not _ _ new) up.1)
  | false ↦ λ h. (let less : pair_cmp a q ≡ Less = turned_less (pair_cmp q a) (pair_cmp a q) (pairs_total.antisymm a q) h (first_not _ _ new) in ((less, less_first a q qs less up.0), up))
] refl

-- each pair is not among those behind it
abbrev AreApart : List Pair → Type 0
AreApart [] = Unit {0}
AreApart (p ∷ ps) = (among p ps ≡ false) × AreApart ps

strict_in_order : (ps : List Pair) → AreApart ps → IsStrictlySortedBy pair_cmp (in_order pair_cmp ps)
unfolding IsStrictlySortedBy among
strict_in_order [] h = tt
strict_in_order (p ∷ ps) h = strict_placed p (in_order pair_cmp ps) (sym (list_any-IsPermutation (λ q. is_eq (pair_cmp p q)) ps (in_order pair_cmp ps) (IsPermutation-in_order pair_cmp ps)) ∙ h.0) (strict_in_order ps h.1)

-- the pairs of keys, one key after another

module _ (m : Dataset) where
  of_key : Bytes → List Pair
  of_key k = timed k (deadline_of (get m k))

  both_or : (a b d : Bool) → ((a && d) || (b && d)) ≡ ((a || b) && d)
  both_or true true true = refl
  both_or true true false = refl
  both_or true false true = refl
  both_or true false false = refl
  both_or false b d = refl

  no_more : (b : Bool) → (b || false) ≡ b
  no_more true = refl
  no_more false = refl

  nothing_but : (a : Bool) → (a && false) ≡ false
  nothing_but true = refl
  nothing_but false = refl

  turn : (a b : Bool) → (a && b) ≡ (b && a)
  turn true true = refl
  turn true false = refl
  turn false true = refl
  turn false false = refl

  at_one : (p : Pair) (k : Bytes) (o : Option ℤ) → among p (timed k o) ≡ (eq_by_cmp bytes_cmp p.0 k && is_deadline p.1 o)
  unfolding among
  at_one p k None = sym (nothing_but (eq_by_cmp bytes_cmp p.0 k))
  at_one p k (Some d) = no_more (is_eq (pair_cmp p (k, d))) ∙ sym (tied_then _ _) ∙ turn (int_eq p.1 d) (eq_by_cmp bytes_cmp p.0 k)

  -- the key's own deadline
  at_key : (p : Pair) (k : Bytes) → among p (of_key k) ≡ (eq_by_cmp bytes_cmp p.0 k && is_deadline p.1 (deadline_of (get m p.0)))
  unfolding of_key
  at_key p k = at_one p k (deadline_of (get m k)) ∙ elim (eq_by_cmp bytes_cmp p.0 k) as (λ b. eq_by_cmp bytes_cmp p.0 k ≡ b → (b && is_deadline p.1 (deadline_of (get m k))) ≡ (b && is_deadline p.1 (deadline_of (get m p.0)))) [
    | true ↦ λ h. ap (λ (q : Bytes). is_deadline p.1 (deadline_of (get m q))) (sym (same_key p.0 k h))
    | false ↦ λ h. refl
  ] refl

  at_keys : (p : Pair) (ks : List Bytes) → among p (flat_map of_key ks) ≡ (list_any (eq_by_cmp bytes_cmp p.0) ks && is_deadline p.1 (deadline_of (get m p.0)))
  unfolding among
  at_keys p [] = refl
  at_keys p (k ∷ ks) =
      list_any-append (λ q. is_eq (pair_cmp p q)) (of_key k) (flat_map of_key ks)
      ∙ ap (λ b. b || among p (flat_map of_key ks)) (at_key p k)
      ∙ ap (λ b. (eq_by_cmp bytes_cmp p.0 k && is_deadline p.1 (deadline_of (get m p.0))) || b) (at_keys p ks)
      ∙ both_or (eq_by_cmp bytes_cmp p.0 k) (list_any (eq_by_cmp bytes_cmp p.0) ks) (is_deadline p.1 (deadline_of (get m p.0)))

  -- a key that isn't there has no deadline
  there : (p : Pair) → (contains_key m p.0 && is_deadline p.1 (deadline_of (get m p.0))) ≡ is_deadline p.1 (deadline_of (get m p.0))
  there p = elim (get m p.0) as (λ (o : Option Entry). (is_some o && is_deadline p.1 (deadline_of o)) ≡ is_deadline p.1 (deadline_of o)) [
    | None ↦ refl
    | Some e ↦ refl
  ]

  at_all : (p : Pair) → among p (timed_keys m) ≡ is_deadline p.1 (deadline_of (get m p.0))
  unfolding among of_key
  at_all p =
      sym (list_any-IsPermutation (λ q. is_eq (pair_cmp p q)) (flat_map of_key (keys m)) (timed_keys m) (IsPermutation-in_order pair_cmp (flat_map of_key (keys m))))
      ∙ at_keys p (keys m)
      ∙ ap (λ b. b && is_deadline p.1 (deadline_of (get m p.0))) (sym (contains_key-keys m p.0))
      ∙ there p

  -- keys in order are apart, and so are their pairs

  not_among : (k : Bytes) (ks : List Bytes) → AllByRecursion (λ q. bytes_cmp k q ≡ Less) ks → list_any (eq_by_cmp bytes_cmp k) ks ≡ false
  not_among k [] h = refl
  not_among k (q ∷ ks) h = ap (λ r. is_eq r || list_any (eq_by_cmp bytes_cmp k) ks) h.0 ∙ not_among k ks h.1

  one_apart : (k : Bytes) (o : Option ℤ) (ks : List Bytes) → list_any (eq_by_cmp bytes_cmp k) ks ≡ false → AreApart (flat_map of_key ks) → AreApart (timed k o ++ flat_map of_key ks)
  one_apart k None ks new rest = rest
  one_apart k (Some d) ks new rest = (at_keys (k, d) ks ∙ ap (λ b. b && is_deadline d (deadline_of (get m k))) new, rest)

  are_apart : (ks : List Bytes) → IsStrictlySortedBy bytes_cmp ks → AreApart (flat_map of_key ks)
  unfolding IsStrictlySortedBy of_key
  are_apart [] up = tt
  are_apart (k ∷ ks) up = one_apart k (deadline_of (get m k)) ks (not_among k ks up.0) (are_apart ks up.1)

-- the keys of a map rise

if_true : (b : Bool) → T b → b ≡ true
if_true true h = refl
if_true false h = absurd h

both_true : (a b : Bool) → T (a && b) → T a × T b
both_true true b h = (tt, h)
both_true false b h = absurd h

keys_rise : (es : List (Bytes × Entry)) → T (is_sorted bytes_cmp es) → IsStrictlySortedBy bytes_cmp (map (λ e. e.0) es)
unfolding IsStrictlySortedBy
keys_rise [] h = tt
keys_rise (e ∷ es) h = (let both = both_true (below_all bytes_cmp e.0 es) (is_sorted bytes_cmp es) h in (each e.0 es both.0, keys_rise es both.1))
  where
    each : (k : Bytes) (es : List (Bytes × Entry)) → T (below_all bytes_cmp k es) → AllByRecursion (λ q. bytes_cmp k q ≡ Less) (map (λ e. e.0) es)
    each k [] h = tt
    each k (e ∷ es) h = (let both = both_true (is_lt (bytes_cmp k e.0)) (below_all bytes_cmp k es) h in (is_less (bytes_cmp k e.0) (if_true _ both.0), each k es both.1))

-- an index, gone over

strict_shown : (xs : List TimedKey) → IsStrictlySortedBy timed_cmp xs → IsStrictlySortedBy pair_cmp (map dated xs)
unfolding IsStrictlySortedBy
strict_shown [] up = tt
strict_shown (x ∷ xs) up = (each x xs up.0, strict_shown xs up.1)
  where
    each : (x : TimedKey) (ys : List TimedKey) → AllByRecursion (λ y. timed_cmp x y ≡ Less) ys → Below (dated x) (map dated ys)
    each x [] h = tt
    each x (y ∷ ys) h = (h.0, each x ys h.1)

any_shown : (p : Pair) (xs : List TimedKey) → list_any (λ q. is_eq (pair_cmp p q)) (map dated xs) ≡ list_any (λ x. is_eq (pair_cmp p (dated x))) xs
any_shown p [] = refl
any_shown p (x ∷ xs) = ap (λ b. is_eq (pair_cmp p (dated x)) || b) (any_shown p xs)

pub in_order_of_deadline : (m : Dataset) (s : List TimedKey) → IsIndex m s → IsStrictlySortedBy timed_cmp s → map dated s ≡ timed_keys m
unfolding among of_key
in_order_of_deadline m s all up =
    btree_set_from_contains pairs_total (record { keys = map dated s }) (record { keys = timed_keys m }) (strict_shown s up)
    (strict_in_order (flat_map (of_key m) (keys m)) (are_apart m (keys m) (keys_rise (entries m) (entries_sorted m))))
    (λ p. any_shown p s ∙ all p ∙ sym (at_all m p)) exact_pair
