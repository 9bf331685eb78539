-- The expired keys are the first of those that have a deadline.
use Rattle.std.proofs.Common.{◌≡◌, ℕ, zero, suc, ℤ, ◌≤◌, ◌+◌, length, List, [], ◌∷◌, ◌++◌, append_assoc, append-nil, map, take, Bool, true, false, cond, Option, Some, None, IsTrue, refl, sym, ◌∙◌, ap, subst, arith}
use Rattle.std.specs.Prelude.{All, MatchOption, slice_get, filter, int_le, ◌<ℤ◌, ◌≤ℤ◌, IsPermutation}
use Rattle.std.specs.declared.cmp.Ordering.{Ordering}
use Rattle.std.specs.declared.cmp.Ordering.TheVariants.{Less, Equal, Greater}
use Rattle.std.specs.Ordering.{int_cmp, is_gt, ordering_then}
use Rattle.std.specs.List.{AllByRecursion, flat_map}
use Rattle.std.specs.FinMap.{get, keys}
use Rattle.std.proofs.lemmas.Int.{ints}
use Rattle.std.proofs.lemmas.Cmp.{int_ranked}
use Rattle.std.proofs.lemmas.List.{map_push, length-map, length-append}
use Rattle.std.proofs.Math.Seq.{take-append_seam}
use Rattle.std.proofs.lemmas.List.Elements.{filter-append, All-from_recursion, recursion_from_All}
use Rattle.std.proofs.lemmas.List.Sorted.{All-permutation}
use Rattle.mr_map.specs.Bytes.{Bytes}
use Rattle.mr_bytes.specs.Words.{fits}
use Rattle.mr_zset.specs.Order.{in_order}
use Rattle.mr_zset.specs.Pairs.{pair_cmp}
use Rattle.mr_zset.proofs.Orders.{Above, Ascends, Ascends-in_order, IsPermutation-in_order, sorted_filter}
use Rattle.mr_zset.proofs.PairLemmas.{pairs_total, exact_pair}
use Rattle.mr_keyspace.specs.Dataset.{Dataset}
use Rattle.mr_keyspace.specs.Steps.{deadline_of}
use Rattle.mr_keyspace.specs.TimedKeys.{dated as entered, timed, timed_keys}
use Rattle.mr_keyspace.specs.declared.timed_key.TimedKey.{TimedKey}
use Rattle.mr_keyspace.specs.declared.value.Entry.{Entry}
use Rattle.mr_data.specs.Dataset.{IsDataset}
use Rattle.mr_data.specs.declared.due.DueKey.{DueKey}
use Rattle.mr_data.specs.Due.{if_expired, due, dated, HasWord}

abbrev Pair : Type 0
Pair = Bytes × ℤ

-- whether a pair's deadline has passed
abbrev pub expired : ℤ → Pair → Bool
expired now p = int_le p.1 now

one_key : (now : ℤ) (k : Bytes) (o : Option Entry) → if_expired now k (deadline_of o) ≡ filter (expired now) (timed k (deadline_of o))
one_key now k None = refl
one_key now k (Some e) = elim e.deadline as (λ (d : Option ℤ). if_expired now k d ≡ filter (expired now) (timed k d)) [
  | None ↦ refl
  | Some d ↦ refl
]

each_key : (now : ℤ) (m : Dataset) (ks : List Bytes) → flat_map (λ k. if_expired now k (deadline_of (get m k))) ks ≡ filter (expired now) (flat_map (λ k. timed k (deadline_of (get m k))) ks)
each_key now m [] = refl
each_key now m (k ∷ ks) =
    (λ i. one_key now k (get m k) i ++ each_key now m ks i)
    ∙ sym (filter-append (expired now) (timed k (deadline_of (get m k))) (flat_map (λ k. timed k (deadline_of (get m k))) ks))

-- the expired keys are those of all timed keys whose deadline has passed
pub due_is : (now : ℤ) (m : Dataset) → due now m ≡ filter (expired now) (timed_keys m)
due_is now m =
    let all : List Pair = flat_map (λ k. timed k (deadline_of (get m k))) (keys m) in
    ap (in_order pair_cmp) (each_key now m (keys m))
    ∙ sorted_filter pairs_total exact_pair all (in_order pair_cmp (filter (expired now) all)) (expired now) (Ascends-in_order pairs_total (filter (expired now) all)) (IsPermutation-in_order pair_cmp (filter (expired now) all))

-- what is behind a timed key that isn't expired isn't expired either

not_more : (a b : ℤ) → is_gt (int_cmp a b) ≡ false → a ≤ℤ b
not_more a b h = elim (int_cmp a b) as (λ (r : Ordering). r ≡ int_cmp a b → is_gt r ≡ false → a ≤ℤ b) [
  | Less ↦ λ e g. (let less : a <ℤ b = int_ranked a b Less e in omega (arith, ints))
  | Equal ↦ λ e g. (let same : a ≡ b = int_ranked a b Equal e in omega (arith, ints))
  | Greater ↦ λ e g. cc
] refl h

deadline_first : (r s : Ordering) → is_gt (ordering_then r s) ≡ false → is_gt r ≡ false
deadline_first Less s h = refl
deadline_first Equal s h = refl
deadline_first Greater s h = h

later : (x y : Pair) (now : ℤ) → is_gt (pair_cmp x y) ≡ false → expired now x ≡ false → expired now y ≡ false
later x y now h out =
    let up : x.1 ≤ℤ y.1 = not_more x.1 y.1 (deadline_first _ _ h) in
    elim (expired now y) as (λ b. expired now y ≡ b → b ≡ false) [
      | true ↦ λ e. absurd (omega (arith, ints))
      | false ↦ λ e. refl
    ] refl

pub none_later : (x : Pair) (ys : List Pair) (now : ℤ) → Above pair_cmp x ys → expired now x ≡ false → filter (expired now) ys ≡ []
none_later x [] now h out = refl
none_later x (y ∷ ys) now h out = ap (λ b. cond b (y ∷ filter (expired now) ys) (filter (expired now) ys)) (later x y now h.0 out) ∙ none_later x ys now h.1 out

Ascends-behind : (xs ys : List Pair) → Ascends pair_cmp (xs ++ ys) → Ascends pair_cmp ys
Ascends-behind [] ys h = h
Ascends-behind (x ∷ xs) ys h = Ascends-behind xs ys h.1

-- the keys that have a deadline are words

abbrev IsWordPair : Pair → Type 0
IsWordPair p = IsTrue (fits p.0)

word_of_key : (k : Bytes) (o : Option Entry) → ((e : Entry) → o ≡ Some e → IsTrue (fits k)) → AllByRecursion IsWordPair (timed k (deadline_of o))
word_of_key k None h = tt
word_of_key k (Some e) h = elim e.deadline as (λ (d : Option ℤ). AllByRecursion IsWordPair (timed k d)) [
  | None ↦ tt
  | Some d ↦ (h e refl, tt)
]

both_lists : (ps qs : List Pair) → AllByRecursion IsWordPair ps → AllByRecursion IsWordPair qs → AllByRecursion IsWordPair (ps ++ qs)
both_lists [] qs h g = g
both_lists (p ∷ ps) qs h g = (h.0, both_lists ps qs h.1 g)

in_front : (ps qs : List Pair) → AllByRecursion IsWordPair (ps ++ qs) → AllByRecursion IsWordPair ps
in_front [] qs h = tt
in_front (p ∷ ps) qs h = (h.0, in_front ps qs h.1)

words_of_keys : (m : Dataset) → IsDataset m → (ks : List Bytes) → AllByRecursion IsWordPair (flat_map (λ k. timed k (deadline_of (get m k))) ks)
words_of_keys m kept [] = tt
words_of_keys m kept (k ∷ ks) = both_lists (timed k (deadline_of (get m k))) (flat_map (λ k. timed k (deadline_of (get m k))) ks) (word_of_key k (get m k) (λ e h. (kept.entries k e h).key)) (words_of_keys m kept ks)

words_of : (m : Dataset) → IsDataset m → All IsWordPair (timed_keys m)
words_of m kept =
    let ps : List Pair = flat_map (λ k. timed k (deadline_of (get m k))) (keys m) in
    All-permutation IsWordPair ps (timed_keys m) (IsPermutation-in_order pair_cmp ps) (All-from_recursion IsWordPair ps (words_of_keys m kept (keys m)))

take-all : (n : ℕ) (ps : List Pair) → length ps ≤ n → take n ps ≡ ps
take-all zero [] h = refl
take-all zero (p ∷ ps) h = absurd (omega (arith, h))
take-all (suc n) [] h = refl
take-all (suc n) (p ∷ ps) h = ap (λ (qs : List Pair). p ∷ qs) (take-all n ps (omega (arith, h)))

-- ---- going over an index

-- what was found, and what is still to come
pub record Taking (now : ℤ) (most : ℕ) (m : Dataset) (found : List DueKey) (rest : List TimedKey) : Type 0 where
  pub all : map dated found ++ map entered rest ≡ timed_keys m
  pub expired : filter (expired now) (map dated found) ≡ map dated found
  pub few : length found ≤ most

module _ {now : ℤ} {most : ℕ} {m : Dataset} {found : List DueKey} {rest : List TimedKey} (taking : Taking now most m found rest) where
  -- what stands in front of what isn't expired
  only_found : filter (expired now) (map entered rest) ≡ [] → map dated found ≡ take most (due now m)
  only_found none =
      sym (ap (take most) (due_is now m ∙ ap (filter (expired now)) (sym taking.all) ∙ filter-append (expired now) (map dated found) (map entered rest) ∙ (λ i. taking.expired i ++ none i) ∙ append-nil (map dated found))
      ∙ take-all most (map dated found) (omega (arith, taking.few, length-map found dated)))

  pub at_end : rest ≡ [] → map dated found ≡ take most (due now m)
  at_end none = only_found (ap (λ (xs : List TimedKey). filter (expired now) (map entered xs)) none)

  pub at_later : (x : TimedKey) (xs : List TimedKey) → rest ≡ x ∷ xs → int_le x.deadline now ≡ false → map dated found ≡ take most (due now m)
  at_later x xs is out =
      let up : Ascends pair_cmp (map entered (x ∷ xs)) = Ascends-behind (map dated found) (map entered (x ∷ xs)) (subst (Ascends pair_cmp) (sym taking.all ∙ ap (λ (ys : List TimedKey). map dated found ++ map entered ys) is) (Ascends-in_order pairs_total (flat_map (λ k. timed k (deadline_of (get m k))) (keys m)))) in
      only_found (ap (λ (ys : List TimedKey). filter (expired now) (map entered ys)) is
      ∙ ap (λ b. cond b (entered x ∷ filter (expired now) (map entered xs)) (filter (expired now) (map entered xs))) out ∙ none_later (entered x) (map entered xs) now up.0 out)

  pub at_full : length found ≡ most → map dated found ≡ take most (due now m)
  at_full full =
      sym (ap (take most) (due_is now m ∙ ap (filter (expired now)) (sym taking.all) ∙ filter-append (expired now) (map dated found) (map entered rest) ∙ ap (λ (ps : List Pair). ps ++ filter (expired now) (map entered rest)) taking.expired)
      ∙ ap (λ (n : ℕ). take n (map dated found ++ filter (expired now) (map entered rest))) (sym full ∙ sym (length-map found dated)) ∙ take-append_seam (map dated found) (filter (expired now) (map entered rest)))

  pub one_more : (x : TimedKey) (xs : List TimedKey) (d : DueKey) (more : List DueKey) → rest ≡ x ∷ xs → dated d ≡ entered x → int_le x.deadline now ≡ true → more ≡ found ++ d ∷ [] → (length found ≡ most → ⊥) → Taking now most m more xs
  one_more x xs d more is same here pushed room = record {
    all = ap (λ (ds : List DueKey). map dated ds ++ map entered xs) pushed ∙ ap (λ (ps : List Pair). ps ++ map entered xs) (map_push dated found d) ∙ append_assoc (map dated found) (dated d ∷ []) (map entered xs)
        ∙ ap (λ (p : Pair). map dated found ++ p ∷ map entered xs) same ∙ ap (λ (ys : List TimedKey). map dated found ++ map entered ys) (sym is) ∙ taking.all;
    expired = ap (λ (ds : List DueKey). filter (expired now) (map dated ds)) pushed ∙ ap (filter (expired now)) (map_push dated found d) ∙ filter-append (expired now) (map dated found) (dated d ∷ [])
        ∙ (λ i. taking.expired i ++ one_expired i) ∙ sym (ap (map dated) pushed ∙ map_push dated found d);
    few = subst (λ (ds : List DueKey). length ds ≤ most) (sym pushed) (let size : length (found ++ d ∷ []) ≡ length found + 1 = length-append found (d ∷ []) in omega (arith, taking.few, room));
  }
    where
      one_expired : filter (expired now) (dated d ∷ []) ≡ dated d ∷ []
      one_expired = ap (λ b. cond b (dated d ∷ []) []) (ap (λ (p : Pair). expired now p) same ∙ here)

  -- the keys of a dataset are words
  pub each_is_word : IsDataset m → All HasWord found
  each_is_word kept = All-from_recursion HasWord found (words found (in_front (map dated found) (map entered rest) (subst (AllByRecursion IsWordPair) (sym taking.all) (recursion_from_All IsWordPair (timed_keys m) (words_of m kept)))))
    where
      words : (ds : List DueKey) → AllByRecursion IsWordPair (map dated ds) → AllByRecursion HasWord ds
      words [] h = tt
      words (d ∷ ds) h = (h.0, words ds h.1)

pub at_start : (now : ℤ) (most : ℕ) (m : Dataset) (none : List DueKey) (all : List TimedKey) → none ≡ [] → map entered all ≡ timed_keys m → Taking now most m none all
at_start now most m none all is whole = record {
  all = ap (λ (ds : List DueKey). map dated ds ++ map entered all) is ∙ whole;
  expired = ap (λ (ds : List DueKey). filter (expired now) (map dated ds)) is ∙ sym (ap (map dated) is);
  few = subst (λ (ds : List DueKey). length ds ≤ most) (sym is) (omega arith);
}

-- what is answered of a timed key

abbrev pub Returned : ℤ → TimedKey → Option DueKey → Type 0
Returned now x o = MatchOption o (int_le x.deadline now ≡ false) (λ d. (dated d ≡ entered x) × (int_le x.deadline now ≡ true))

pub is_out : (now : ℤ) (x : TimedKey) (o : Option DueKey) → Returned now x o → ((d : DueKey) → o ≡ Some d → ⊥) → int_le x.deadline now ≡ false
is_out now x None h none = h
is_out now x (Some d) h none = absurd (none d refl)

pub is_none : (now : ℤ) (x : TimedKey) (o : Option DueKey) → Returned now x o → o ≡ None → int_le x.deadline now ≡ false
is_none now x None h none = h
is_none now x (Some d) h none = cc

pub is_due : (now : ℤ) (x : TimedKey) (o : Option DueKey) (d : DueKey) → Returned now x o → o ≡ Some d → (dated d ≡ entered x) × (int_le x.deadline now ≡ true)
is_due now x None d h some = cc
is_due now x (Some e) d h some = (let same : e ≡ d = cc in subst (λ (z : DueKey). (dated z ≡ entered x) × (int_le x.deadline now ≡ true)) same h)

-- ---- the first of an index

some_first : (now : ℤ) (m : Dataset) (x : TimedKey) (xs : List TimedKey) → map entered (x ∷ xs) ≡ timed_keys m → due now m ≡ cond (int_le x.deadline now) (entered x ∷ filter (expired now) (map entered xs)) (filter (expired now) (map entered xs))
some_first now m x xs all = due_is now m ∙ ap (filter (expired now)) (sym all)

pub first_expired : (now : ℤ) (m : Dataset) (x : TimedKey) (xs : List TimedKey) → map entered (x ∷ xs) ≡ timed_keys m → int_le x.deadline now ≡ true → slice_get (due now m) 0 ≡ Some (entered x)
first_expired now m x xs all here = ap (λ (ps : List Pair). slice_get ps 0) (some_first now m x xs all ∙ ap (λ b. cond b (entered x ∷ filter (expired now) (map entered xs)) (filter (expired now) (map entered xs))) here)

pub first_later : (now : ℤ) (m : Dataset) (x : TimedKey) (xs : List TimedKey) → map entered (x ∷ xs) ≡ timed_keys m → int_le x.deadline now ≡ false → slice_get (due now m) 0 ≡ None
first_later now m x xs all out =
    let up : Ascends pair_cmp (map entered (x ∷ xs)) = subst (Ascends pair_cmp) (sym all) (Ascends-in_order pairs_total (flat_map (λ k. timed k (deadline_of (get m k))) (keys m))) in
    ap (λ (ps : List Pair). slice_get ps 0) (some_first now m x xs all ∙ ap (λ b. cond b (entered x ∷ filter (expired now) (map entered xs)) (filter (expired now) (map entered xs))) out ∙ none_later (entered x) (map entered xs) now up.0 out)

pub none_first : (now : ℤ) (m : Dataset) (xs : List TimedKey) → xs ≡ [] → map entered xs ≡ timed_keys m → slice_get (due now m) 0 ≡ None
none_first now m xs none all = ap (λ (ps : List Pair). slice_get ps 0) (due_is now m ∙ ap (filter (expired now)) (sym all ∙ ap (map entered) none))
