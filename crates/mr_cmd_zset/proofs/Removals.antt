-- Members that go.
use Rattle.std.proofs.Common.{ℕ, zero, suc, ℤ, ◌≡◌, ◌+◌, ◌-◌, ◌<◌, ◌≤◌, List, [], ◌∷◌, ◌++◌, map, length, take, drop, reverse, get_or, Bool, true, false, ◌&&◌, not, cond, FitsSigned, w64, to_z, of_z, Option, Some, None, refl, sym, ◌∙◌, ap, subst, arith}
use Rattle.std.proofs.lemmas.Grind.{reverse_onto}
use Rattle.std.proofs.lemmas.Int.{to_z-of_z}
use Rattle.std.specs.Prelude.{◌||◌, ◌≢◌, is_some, filter, if◌then◌else◌, MatchOption, option_map, slice_get}
use Rattle.std.specs.Borrow.{Bor}
use Rattle.std.specs.List.{AllByRecursion}
use Rattle.std.specs.Ordering.{is_lt}
use Rattle.std.specs.FinMap.{get, empty, insert, keys, len, entries, contains_key, retain_keys, get-empty, get-insert, len-empty, len-entries, entries-insert}
use Rattle.std.specs.FinMap.Entries.{put}
use Rattle.std.proofs.lemmas.List.{length-map, map-append, nil_from_length}
use Rattle.std.proofs.lemmas.Cmp.{nat_list_cmp_total}
use Rattle.std.proofs.Math.Bool.{or-false}
use Rattle.mr_map.specs.Bytes.{Bytes, ByteMap, bytes_cmp, lent}
use Rattle.mr_map.proofs.Domains.{same_keys, some_or}
use Rattle.mr_map.proofs.Conditions.{or_next}
use Rattle.mr_bytes.specs.Window.{window_of, windowed}
use Rattle.mr_resp.specs.Replies.{Tree}
use Rattle.mr_effect.specs.declared.effect.Effect.{Effect}
use Rattle.mr_effect.specs.declared.effect.Effect.TheVariants as effect
use Rattle.mr_keyspace.specs.Cuts.{cut}
use Rattle.mr_zset.specs.Order.{placed, in_order}
use Rattle.mr_zset.specs.Pairs.{pair_cmp, pairs_of, range_of, lent_pair}
use Rattle.mr_zset.specs.declared.pair.Pair.{Pair}
use Rattle.mr_zset.proofs.Cuts.{length-slice_range}
use Rattle.mr_zset.specs.Bounds.{is_within}
use Rattle.mr_zset.specs.declared.bound.Bound.{Bound}
use Rattle.mr_zset_options.specs.declared.choices.Order.{Order}
use Rattle.mr_zset_options.specs.declared.choices.Order.TheVariants as order
use Rattle.mr_zset_options.specs.declared.choices.RangeReply.TheVariants.{WithScores}
use Rattle.mr_keyspace.specs.Collections.{with_members, without_scores}
use Rattle.mr_cmd_shared.specs.Taken.{is_key, has}
use Rattle.mr_keyspace.proofs.Maps.{same_key}
use Rattle.mr_cmd_shared.proofs.KeyLists.{more_words}
use Rattle.mr_cmd_shared.proofs.TakenLemmas.{has_append}
use Rattle.mr_cmd_zset.specs.Scores.{Scores, number, lost, pairs_in, reduced_to, Makes}
use Rattle.mr_cmd_zset.specs.Removing.{members_of, as_set, remove_all}
use Rattle.mr_cmd_zset.specs.Ranges.{pairs_reply}
use Rattle.mr_data.proofs.Entries.{own_entries}
use Rattle.mr_cmd_zset.proofs.Maps.{get_without, get_retained}

-- ---- sets of words
contains_insert : (s : ByteMap (Unit {0})) (x q : Bytes) → contains_key (insert s x tt) q ≡ (is_key q x || contains_key s q)
contains_insert s x q = ap is_some (get-insert nat_list_cmp_total s x tt q) ∙ some_or (is_key q x) (get s q)

contains_with : (xs : List Bytes) (s : ByteMap (Unit {0})) (q : Bytes) → contains_key (with_members xs s) q ≡ (has xs q || contains_key s q)
contains_with [] s q = refl
contains_with (x ∷ xs) s q = contains_with xs (insert s x tt) q ∙ ap (λ b. has xs q || b) (contains_insert s x q) ∙ or_next (is_key q x) (has xs q) (contains_key s q)

contains_none : (q : Bytes) → contains_key {X = Unit {0}} (empty {R = bytes_cmp}) q ≡ false
contains_none q = ap is_some (get-empty bytes_cmp q)

pub contains_as_set : (xs : List Bytes) (q : Bytes) → contains_key (as_set xs) q ≡ has xs q
contains_as_set xs q = contains_with xs empty q ∙ ap (λ b. has xs q || b) (contains_none q) ∙ or-false (has xs q)

pub len_keys : (s : ByteMap (Unit {0})) → len s ≡ length (keys s)
len_keys s = len-entries s ∙ sym (length-map (entries s) (λ e. e.0))

-- the set of one word
pub one_key : (x : Bytes) → keys (as_set (x ∷ [])) ≡ x ∷ []
one_key x = ap (map (λ (e : Bytes × Unit {0}). e.0)) (entries-insert nat_list_cmp_total empty x tt ∙ ap (put bytes_cmp x tt) none)
  where
    none : entries {X = Unit {0}} (empty {R = bytes_cmp}) ≡ []
    none = nil_from_length (entries empty) (sym (len-entries empty) ∙ len-empty bytes_cmp (Unit {0}))

pub one_length : (x : Bytes) → 1 ≡ len (as_set (x ∷ []))
one_length x = sym (len_keys (as_set (x ∷ [])) ∙ ap length (one_key x))

-- the only pair of a list
pub one_pair : (ps : List Pair) (d : Pair) → 1 ≤ length ps → length ps < 2 → members_of (map lent_pair ps) ≡ (get_or ps 0 d).member.now ∷ []
one_pair [] d some few = absurd (omega arith)
one_pair (p ∷ []) d some few = refl
one_pair (p ∷ q ∷ ps) d some few = absurd (omega arith)

pub one_member : (ps : List Pair) → 1 ≤ length ps → length ps < 2 → 1 ≡ len (as_set (members_of (map lent_pair ps)))
one_member [] some few = absurd (omega arith)
one_member (p ∷ []) some few = one_length p.member.now
one_member (p ∷ q ∷ ps) some few = absurd (omega arith)

one_at : (xs : List (Bytes × ℤ)) (i : ℕ) (x : Bytes × ℤ) → slice_get xs i ≡ Some x → take 1 (drop i xs) ≡ x ∷ []
one_at [] i x e = cc
one_at (y ∷ ys) zero x e = cc
one_at (y ∷ ys) (suc i) x e = one_at ys i x e

none_at : (xs : List (Bytes × ℤ)) (i : ℕ) → None ≡ slice_get xs i → take 1 (drop i xs) ≡ []
none_at [] zero e = refl
none_at [] (suc i) e = refl
none_at (y ∷ ys) zero e = cc
none_at (y ∷ ys) (suc i) e = none_at ys i e

-- the window that is found is the one of the clause
pub found : (a b : ℤ) (n m : ℕ) (w : Option (ℕ × ℕ)) → FitsSigned w64 a → FitsSigned w64 b → n ≡ m → w ≡ window_of (to_z w64 (of_z w64 a)) (to_z w64 (of_z w64 b)) n → w ≡ window_of a b m
found a b n m w a_fits b_fits same places =
    places
    ∙ ap (λ (x : ℤ). window_of x (to_z w64 (of_z w64 b)) n) (to_z-of_z w64 a a_fits) ∙ ap (λ (x : ℤ). window_of a x n) (to_z-of_z w64 b b_fits)
    ∙ ap (λ (n : ℕ). window_of a b n) same

-- the pair is all of a window, or the window hasn't exactly one
abbrev pub IsOnlyPair : List (Bytes × ℤ) → Option (ℕ × ℕ) → Option Pair → Type 0
IsOnlyPair xs window p = MatchOption p (length (windowed window xs) ≢ 1) (λ pair. windowed window xs ≡ lent_pair pair ∷ [])

-- the window of one place is the pair there
pub window_of_one : (xs : List (Bytes × ℤ)) (first last : ℕ) (window : Option (ℕ × ℕ)) (p : Option Pair) → window ≡ Some (first, last) → first ≡ last → option_map lent_pair p ≡ slice_get xs first → IsOnlyPair xs window p
window_of_one xs first last window p is same there = by_pair p there
  where
    cut_off : windowed window xs ≡ take 1 (drop first xs)
    cut_off =
        let one : last + 1 - first ≡ 1 = omega (arith, same) in
        ap (λ w. windowed w xs) is ∙ ap (λ (n : ℕ). take n (drop first xs)) one

    by_pair : (p : Option Pair) → option_map lent_pair p ≡ slice_get xs first → IsOnlyPair xs window p
    by_pair None there = λ one. let none : length (windowed window xs) ≡ 0 = ap length (cut_off ∙ none_at xs first there) in omega (arith, none, one)
    by_pair (Some pair) there = cut_off ∙ one_at xs first (lent_pair pair) (sym there)

-- the window of several places has several pairs
pub window_of_more : (xs : List (Bytes × ℤ)) (first last : ℕ) (window : Option (ℕ × ℕ)) → window ≡ Some (first, last) → first ≤ last → last < length xs → first ≢ last → length (windowed window xs) ≢ 1
window_of_more xs first last window is ordered within other one =
    let long : length (windowed window xs) ≡ last + 1 - first = ap (λ w. length (windowed w xs)) is ∙ length-slice_range xs first (last + 1) (omega (arith, ordered)) (omega (arith, within)) in
    other (omega (arith, long, one, ordered))

pub window_of_none : (xs : List (Bytes × ℤ)) (window : Option (ℕ × ℕ)) → window ≡ None → length (windowed window xs) ≢ 1
window_of_none xs window is one = let none : length (windowed window xs) ≡ 0 = ap (λ w. length (windowed w xs)) is in omega (arith, none, one)

-- ---- the members that go are those of these words that are there
abbrev misses : Scores → Bytes → Bool
misses t x = not (contains_key t x)

contains_lost : (xs : List Bytes) (s : Scores) (q : Bytes) → contains_key (retain_keys s (misses (without_scores xs s))) q ≡ (has xs q && is_some (get s q))
contains_lost xs s q =
    ap is_some (get_retained s (misses (without_scores xs s)) q)
    ∙ ap (λ o. is_some (cond (not (is_some o)) (get s q) None)) (get_without xs s q)
    ∙ joint (has xs q) (get s q)
  where
    joint : (b : Bool) (o : Option ℤ) → is_some (cond (not (is_some (cond b None o))) o None) ≡ (b && is_some o)
    joint true o = refl
    joint false None = refl
    joint false (Some z) = refl

pub those_lost : (there : ByteMap (Unit {0})) (xs : List Bytes) (s : Scores) → ((q : Bytes) → contains_key there q ≡ (has xs q && is_some (get s q))) → keys there ≡ lost s (without_scores xs s)
those_lost there xs s h = same_keys there (retain_keys s (misses (without_scores xs s))) (λ q. h q ∙ sym (contains_lost xs s q))

-- ---- a loop over words
-- these are the words that are members of the set
abbrev pub IsThere : List (Bor Bytes) → List Bytes → Scores → Type 0
IsThere there xs s = (q : Bytes) → has (lent there) q ≡ (has xs q && is_some (get s q))

pub none_there : (there : List (Bor Bytes)) (s : Scores) → there ≡ [] → IsThere there [] s
none_there there s h q = ap (λ (ms : List (Bor Bytes)). has (lent ms) q) h

pub has_one : (xs : List Bytes) (x q : Bytes) → has (xs ++ x ∷ []) q ≡ (has xs q || is_key q x)
has_one xs x q = has_append xs (x ∷ []) q ∙ ap (λ b. has xs q || b) (or-false (is_key q x))

module _ {A : Type 0} (f : A → Bytes) (xs : List A) (i : ℕ) (x : A) (here : i < length xs) (is : x ≡ get_or xs i x) (m : Bor Bytes) (word : m.now ≡ f x) (s : Scores) (there : List (Bor Bytes)) (before : IsThere there (map f (take i xs)) s) where
  more : map f (take (i + 1) xs) ≡ map f (take i xs) ++ m.now ∷ []
  more = more_words f xs i x here is ∙ ap (λ y. map f (take i xs) ++ y ∷ []) (sym word)

  has_more : (q : Bytes) → has (map f (take (i + 1) xs)) q ≡ (has (map f (take i xs)) q || is_key q m.now)
  has_more q = ap (λ ys. has ys q) more ∙ has_one (map f (take i xs)) m.now q

  pub word_there : (t : List (Bor Bytes)) → is_some (get s m.now) ≡ true → t ≡ there ++ m ∷ [] → IsThere t (map f (take (i + 1) xs)) s
  word_there t some e q =
      ap (λ (ms : List (Bor Bytes)). has (lent ms) q) e
      ∙ ap (λ ys. has ys q) (map-append (λ (y : Bor Bytes). y.now) there (m ∷ []))
      ∙ has_one (lent there) m.now q
      ∙ ap (λ b. b || is_key q m.now) (before q)
      ∙ elim (is_key q m.now) as (λ b. is_key q m.now ≡ b → ((has (map f (take i xs)) q && is_some (get s q)) || b) ≡ ((has (map f (take i xs)) q || b) && is_some (get s q))) [
        | true ↦ λ t. or_true (has (map f (take i xs)) q && is_some (get s q)) ∙ sym (ap (λ c. c && is_some (get s q)) (or_true (has (map f (take i xs)) q)) ∙ ap (λ (k : Bytes). is_some (get s k)) (same_key q m.now t) ∙ some)
        | false ↦ λ t. or-false (has (map f (take i xs)) q && is_some (get s q)) ∙ ap (λ c. c && is_some (get s q)) (sym (or-false (has (map f (take i xs)) q)))
      ] refl
      ∙ ap (λ b. b && is_some (get s q)) (sym (has_more q))
    where
      or_true : (b : Bool) → (b || true) ≡ true
      or_true true = refl
      or_true false = refl

  pub word_absent : is_some (get s m.now) ≡ false → IsThere there (map f (take (i + 1) xs)) s
  word_absent none q =
      before q
      ∙ elim (is_key q m.now) as (λ b. is_key q m.now ≡ b → (has (map f (take i xs)) q && is_some (get s q)) ≡ ((has (map f (take i xs)) q || b) && is_some (get s q))) [
        | true ↦ λ t. let no : is_some (get s q) ≡ false = ap (λ (k : Bytes). is_some (get s k)) (same_key q m.now t) ∙ none in ap (λ c. has (map f (take i xs)) q && c) no ∙ and_false (has (map f (take i xs)) q) ∙ sym (ap (λ c. (has (map f (take i xs)) q || true) && c) no ∙ and_false (has (map f (take i xs)) q || true))
        | false ↦ λ t. ap (λ c. c && is_some (get s q)) (sym (or-false (has (map f (take i xs)) q)))
      ] refl
      ∙ ap (λ b. b && is_some (get s q)) (sym (has_more q))
    where
      and_false : (b : Bool) → b && false ≡ false
      and_false true = refl
      and_false false = refl

-- .. in byte order, each once
pub there_lost : (there : List (Bor Bytes)) (xs : List Bytes) (s : Scores) → IsThere there xs s → keys (as_set (lent there)) ≡ lost s (without_scores xs s)
there_lost there xs s h = those_lost (as_set (lent there)) xs s (λ q. contains_as_set (lent there) q ∙ h q)

-- ---- pairs of a set are there
abbrev pub AreIn : Scores → List (Bytes × ℤ) → Type 0
AreIn s ps = AllByRecursion (λ (p : Bytes × ℤ). get s p.0 ≡ Some p.1) ps

module _ (s : Scores) where
  placed_in : (p : Bytes × ℤ) (ps : List (Bytes × ℤ)) → get s p.0 ≡ Some p.1 → AreIn s ps → AreIn s (placed pair_cmp p ps)
  placed_in p [] h a = (h, tt)
  placed_in p (q ∷ qs) h a = elim (is_lt (pair_cmp q p)) as (λ b. AreIn s (if b then q ∷ placed pair_cmp p qs else p ∷ q ∷ qs)) [
    | true ↦ (a.0, placed_in p qs h a.1)
    | false ↦ (h, a)
  ]

  ordered_in : (ps : List (Bytes × ℤ)) → AreIn s ps → AreIn s (in_order pair_cmp ps)
  ordered_in [] a = tt
  ordered_in (p ∷ ps) a = placed_in p (in_order pair_cmp ps) a.0 (ordered_in ps a.1)

  pub pairs_are_in : AreIn s (pairs_of s)
  pairs_are_in = ordered_in (entries s) (own_entries s)

  pub take_in : (n : ℕ) (ps : List (Bytes × ℤ)) → AreIn s ps → AreIn s (take n ps)
  take_in zero ps a = tt
  take_in (suc n) [] a = tt
  take_in (suc n) (p ∷ ps) a = (a.0, take_in n ps a.1)

  drop_in : (n : ℕ) (ps : List (Bytes × ℤ)) → AreIn s ps → AreIn s (drop n ps)
  drop_in zero ps a = a
  drop_in (suc n) [] a = tt
  drop_in (suc n) (p ∷ ps) a = drop_in n ps a.1

  append_in : (ps qs : List (Bytes × ℤ)) → AreIn s ps → AreIn s qs → AreIn s (ps ++ qs)
  append_in [] qs a b = b
  append_in (p ∷ ps) qs a b = (a.0, append_in ps qs a.1 b)

  pub reverse_in : (ps : List (Bytes × ℤ)) → AreIn s ps → AreIn s (reverse ps)
  reverse_in [] a = tt
  reverse_in (p ∷ ps) a = subst (AreIn s) (sym (reverse_onto ps p [])) (append_in (reverse ps) (p ∷ []) (reverse_in ps a.1) (a.0, tt))

  pub filter_in : (test : Bytes × ℤ → Bool) (ps : List (Bytes × ℤ)) → AreIn s ps → AreIn s (filter test ps)
  filter_in test [] a = tt
  filter_in test (p ∷ ps) a = elim (test p) as (λ b. AreIn s (cond b (p ∷ filter test ps) (filter test ps))) [
    | true ↦ (a.0, filter_in test ps a.1)
    | false ↦ filter_in test ps a.1
  ]

  pub windowed_in : (w : Option (ℕ × ℕ)) (ps : List (Bytes × ℤ)) → AreIn s ps → AreIn s (windowed w ps)
  windowed_in None ps a = tt
  windowed_in (Some w) ps a = take_in _ (drop w.0 ps) (drop_in w.0 ps a)

  pub range_in : (from to : Bound) → AreIn s (range_of from to s)
  range_in from to = filter_in (λ p. is_within from to p.1) (pairs_of s) pairs_are_in

  pub turned_in : (o : Order) → AreIn s (pairs_in o s)
  turned_in order.Ascending = pairs_are_in
  turned_in order.Descending = reverse_in (pairs_of s) pairs_are_in

  named_in : (ps : List (Bytes × ℤ)) (q : Bytes) → AreIn s ps → has (members_of ps) q ≡ true → is_some (get s q) ≡ true
  named_in [] q a h = cc
  named_in (p ∷ ps) q a h = elim (is_key q p.0) as (λ b. is_key q p.0 ≡ b → (b || has (members_of ps) q) ≡ true → is_some (get s q) ≡ true) [
    | true ↦ λ t i. ap (λ (k : Bytes). is_some (get s k)) (same_key q p.0 t) ∙ ap is_some a.0
    | false ↦ λ t i. named_in ps q a.1 i
  ] refl h

  -- the members of pairs that are there all go
  pub all_lost : (ps : List (Bytes × ℤ)) → AreIn s ps → keys (as_set (members_of ps)) ≡ lost s (without_scores (members_of ps) s)
  all_lost ps a = those_lost (as_set (members_of ps)) (members_of ps) s (λ q. contains_as_set (members_of ps) q ∙ there (has (members_of ps) q) (is_some (get s q)) (named_in ps q a))
    where
      there : (b c : Bool) → (b ≡ true → c ≡ true) → b ≡ (b && c)
      there true c h = sym (h refl)
      there false c h = refl

-- ---- what is made of a set
pub reduced_made : (k : Bytes) (xs : List Bytes) (s : Scores) (there : List Bytes) (r : Tree) (n : ℕ) (old new : List Effect) → there ≡ lost s (without_scores xs s) → r ≡ number n → n ≡ length there → new ≡ old ++ map (effect.RemoveScores k) (cut there) → Makes (remove_all k xs s) r old new
reduced_made k xs s there r n old new same replied count put = record {
  reply_is = replied ∙ ap number (count ∙ ap length same);
  effects_are = put ∙ ap (λ ks. old ++ map (effect.RemoveScores k) (cut ks)) same;
}

pub pairs_made : (k : Bytes) (ps qs : List (Bytes × ℤ)) (s : Scores) (r : Tree) (old new : List Effect) → qs ≡ ps → AreIn s ps → r ≡ number (len (as_set (members_of qs))) → new ≡ old ++ map (effect.RemoveScores k) (cut (keys (as_set (members_of qs)))) → Makes (remove_all k (members_of ps) s) r old new
pairs_made k ps qs s r old new same a replied put =
    let keys_are = ap (λ (xs : List (Bytes × ℤ)). keys (as_set (members_of xs))) same ∙ all_lost s ps a in
    reduced_made k (members_of ps) s (keys (as_set (members_of qs))) r _ old new keys_are replied (len_keys (as_set (members_of qs))) put

pub taken_made : (k : Bytes) (ps qs : List (Bytes × ℤ)) (s : Scores) (r : Tree) (there : ByteMap (Unit {0})) (old new : List Effect) → qs ≡ ps → AreIn s ps → there ≡ as_set (members_of qs) → r ≡ pairs_reply WithScores qs → new ≡ old ++ map (effect.RemoveScores k) (cut (keys there)) → Makes (reduced_to k (pairs_reply WithScores ps) s (without_scores (members_of ps) s)) r old new
taken_made k ps qs s r there old new same a is replied put = record {
  reply_is = replied ∙ ap (pairs_reply WithScores) same;
  effects_are = put ∙ ap (λ ks. old ++ map (effect.RemoveScores k) (cut ks)) (ap keys is ∙ ap (λ (xs : List (Bytes × ℤ)). keys (as_set (members_of xs))) same ∙ all_lost s ps a);
}
