-- A list of pairs beside a map: when it is the map's, before and after a change.
use Rattle.std.proofs.Common.{◌≡◌, ℕ, suc, ◌+◌, ◌-◌, ◌<◌, ◌≤◌, max, length, get_or, take, drop, map, append_assoc, List, [], ◌∷◌, ◌++◌, Option, Some, None, Bool, true, false, ◌&&◌, not, cond, refl, sym, ◌∙◌, ap, subst, arith}
use Rattle.std.specs.Prelude.{T, ℤ, filter, count_by, slice_range, if◌then◌else◌}
use Rattle.std.specs.Ordering.{int_eq, is_eq, is_le, is_lt, eq_by_cmp, match_ordering, ordering_reverse}
use Rattle.std.specs.declared.cmp.Ordering.{Ordering}
use Rattle.std.specs.declared.cmp.Ordering.TheVariants.{Less, Equal, Greater}
use Rattle.std.specs.Cmp.{tied_then}
use Rattle.std.specs.FinMap.{get, insert, remove, find, empty, entries, entries_sorted, is_sorted, get-empty, get-entries, get-insert, get-remove}
use Rattle.std.specs.FinMap.Entries.{below_all}
use Rattle.std.specs.BTreeSet.{insert_key}
use Rattle.std.specs.List.Sorted.{IsPartitionPoint}
use Rattle.std.proofs.lemmas.Cmp.{nat_list_cmp_total, int_cmp_total, tied_itself}
use Rattle.std.proofs.lemmas.Map.Lookups.{exact_bytes}
use Rattle.std.proofs.lemmas.List.{length-map, map_push, take-map, drop-map}
use Rattle.std.proofs.lemmas.List.Sums.{length-filter}
use Rattle.std.proofs.Math.Bool.{and-false, and-true}
use Rattle.mr_value.proofs.SetLemmas.{tied}
use Rattle.mr_map.specs.Bytes.{bytes_cmp, ByteMap}
use Rattle.mr_zset.specs.declared.bound.Bound.{Bound}
use Rattle.mr_zset.specs.declared.entry.Entry.{Entry}
use Rattle.mr_zset.specs.declared.pair.Pair.{Pair}
use Rattle.mr_zset.specs.Bounds.{is_from, is_to, is_within}
use Rattle.mr_zset.specs.Limits.{start_cmp, end_cmp}
use Rattle.mr_zset.specs.Stored.{stored}
use Rattle.mr_zset.specs.Order.{placed}
use Rattle.mr_zset.specs.Pairs.{is_other, pair_cmp, pair_lt, pairs_of, lent_pair}
use Rattle.mr_zset.proofs.Orders.{Ascends, Ascends-filter, Ascends-in_order, Ascends-placed, IsPermutation-in_order, IsPermutation-placed, filtered_no, filtered_yes, one, one-false, one-true, one_order, times, times-cons, times-itself, times-nil, times-permutation}
use Rattle.mr_zset.proofs.PairLemmas.{exact_pair, pairs_total}
use Rattle.mr_zset.proofs.Cuts.{Ascends-front, between, length-slice_range, put_placed}

abbrev Pairs : Type 0
Pairs = List (List ℕ × ℤ)

-- how often a pair with this score stands among those of a map that says this of its member
abbrev holds : ℤ → Option ℤ → ℕ
holds z None = 0
holds z (Some s) = one (int_eq z s)

-- 1 where two pairs are one
abbrev pub tie : List ℕ × ℤ → List ℕ × ℤ → ℕ
tie q p = one (is_eq (pair_cmp q p))

pub same_key : (q k : List ℕ) → eq_by_cmp bytes_cmp q k ≡ true → q ≡ k
same_key q k e = exact_bytes q k (tied _ e)

ties : (q p : List ℕ × ℤ) → is_eq (pair_cmp q p) ≡ (int_eq q.1 p.1 && eq_by_cmp bytes_cmp q.0 p.0)
ties q p = sym (tied_then _ _)

-- of one member, and of two
tie_here : (q p : List ℕ × ℤ) → eq_by_cmp bytes_cmp q.0 p.0 ≡ true → tie q p ≡ one (int_eq q.1 p.1)
tie_here q p e = ap one (ties q p ∙ ap (λ b. int_eq q.1 p.1 && b) e ∙ and-true (int_eq q.1 p.1))

pub tie_elsewhere : (q p : List ℕ × ℤ) → eq_by_cmp bytes_cmp q.0 p.0 ≡ false → tie q p ≡ 0
tie_elsewhere q p e = one-false _ (ties q p ∙ ap (λ b. int_eq q.1 p.1 && b) e ∙ and-false (int_eq q.1 p.1))

tie_itself : (p : List ℕ × ℤ) → tie p p ≡ 1
tie_itself p = one-true _ (ap is_eq (tied_itself pairs_total p))

-- how often a pair stands among a map's

find_none : (x : List ℕ) (es : Pairs) → T (below_all bytes_cmp x es) → find bytes_cmp x es ≡ None
find_none x [] h = refl
find_none x (e ∷ es) h = elim (bytes_cmp x e.0) as (λ r. T (is_lt r && below_all bytes_cmp x es) → cond (is_eq r) (Some e.1) (find bytes_cmp x es) ≡ None) [
  | Less ↦ λ t. find_none x es t
  | Equal ↦ λ t. absurd t
  | Greater ↦ λ t. absurd t
] h

pub left : (a b : Bool) → T (a && b) → T a
left true b t = tt
left false b t = t

pub right : (a b : Bool) → T (a && b) → T b
right true b t = t
right false b t = absurd t

times_found : (es : Pairs) → T (is_sorted bytes_cmp es) → (q : List ℕ × ℤ) → times pair_cmp q es ≡ holds q.1 (find bytes_cmp q.0 es)
times_found [] up q = times-nil pair_cmp q
times_found (p ∷ ps) up q = elim (eq_by_cmp bytes_cmp q.0 p.0) as (λ b. eq_by_cmp bytes_cmp q.0 p.0 ≡ b → times pair_cmp q (p ∷ ps) ≡ holds q.1 (cond b (Some p.1) (find bytes_cmp q.0 ps))) [
  | true ↦ λ e. (
      let head : tie q p ≡ one (int_eq q.1 p.1) = tie_here q p e in
      let none : find bytes_cmp q.0 ps ≡ None = ap (λ (k : List ℕ). find bytes_cmp k ps) (same_key q.0 p.0 e) ∙ find_none p.0 ps (left (below_all bytes_cmp p.0 ps) (is_sorted bytes_cmp ps) up) in
      let rest : times pair_cmp q ps ≡ 0 = times_found ps (right (below_all bytes_cmp p.0 ps) (is_sorted bytes_cmp ps) up) q ∙ ap (holds q.1) none in
      let all : times pair_cmp q (p ∷ ps) ≡ tie q p + times pair_cmp q ps = times-cons pair_cmp q p ps in
      omega arith)
  | false ↦ λ e. (
      let head : tie q p ≡ 0 = tie_elsewhere q p e in
      let rest : times pair_cmp q ps ≡ holds q.1 (find bytes_cmp q.0 ps) = times_found ps (right (below_all bytes_cmp p.0 ps) (is_sorted bytes_cmp ps) up) q in
      let all : times pair_cmp q (p ∷ ps) ≡ tie q p + times pair_cmp q ps = times-cons pair_cmp q p ps in
      omega arith)
] refl

times_pairs : (m : ByteMap ℤ) (q : List ℕ × ℤ) → times pair_cmp q (pairs_of m) ≡ holds q.1 (get m q.0)
times_pairs m q =
    times-permutation pair_cmp q (entries m) (pairs_of m) (IsPermutation-in_order pair_cmp (entries m))
    ∙ times_found (entries m) (entries_sorted m) q ∙ ap (holds q.1) (sym (get-entries m q.0))

-- a pair of a map stands once among its pairs
pub pair_of_map : (m : ByteMap ℤ) (k : List ℕ) (z : ℤ) → get m k ≡ Some z → times pair_cmp (k, z) (pairs_of m) ≡ 1
pair_of_map m k z there = times_pairs m (k, z) ∙ ap (holds z) there ∙ sym (tie_here (k, z) (k, z) (ap is_eq (tied_itself nat_list_cmp_total k))) ∙ tie_itself (k, z)

-- an insert takes no pair out
pub times_more : (q p : List ℕ × ℤ) (ls : Pairs) → times pair_cmp q ls ≤ times pair_cmp q (insert_key pair_cmp ls p)
times_more q p [] = let none = times-nil pair_cmp q in omega arith
times_more q p (l ∷ ls) = elim (pair_cmp p l) as (λ r. times pair_cmp q (l ∷ ls) ≤ times pair_cmp q (match_ordering r (p ∷ l ∷ ls) (l ∷ ls) (l ∷ insert_key pair_cmp ls p))) [
  | Less ↦ (let all = times-cons pair_cmp q p (l ∷ ls) in omega arith)
  | Equal ↦ omega arith
  | Greater ↦ (
      let was = times-cons pair_cmp q l ls in
      let is = times-cons pair_cmp q l (insert_key pair_cmp ls p) in
      let rest = times_more q p ls in
      omega arith)
]

pub pairs_ascend : (m : ByteMap ℤ) → Ascends pair_cmp (pairs_of m)
pairs_ascend m = Ascends-in_order pairs_total (entries m)

-- a list in order with as many of each pair is the map's
are_pairs : (m : ByteMap ℤ) (ls : Pairs) → Ascends pair_cmp ls → ((q : List ℕ × ℤ) → times pair_cmp q ls ≡ holds q.1 (get m q.0)) → ls ≡ pairs_of m
are_pairs m ls up count = one_order pairs_total exact_pair ls (pairs_of m) up (pairs_ascend m) (λ q. count q ∙ sym (times_pairs m q))

pub pairs_none : [] ≡ pairs_of empty
pairs_none = are_pairs empty [] tt (λ q. times-nil pair_cmp q ∙ ap (holds q.1) (sym (get-empty {X = ℤ} bytes_cmp q.0)))

-- how often a pair stands there that is, and one that isn't
there_once : (m : ByteMap ℤ) (k : List ℕ) (z : ℤ) → get m k ≡ Some z → times pair_cmp (k, z) (pairs_of m) ≡ 1
there_once m k z e = times_pairs m (k, z) ∙ ap (holds z) e ∙ one-true _ (ap is_eq (tied_itself int_cmp_total z))

pub absent_none : (m : ByteMap ℤ) (k : List ℕ) (z : ℤ) → get m k ≡ None → times pair_cmp (k, z) (pairs_of m) ≡ 0
absent_none m k z e = times_pairs m (k, z) ∙ ap (holds z) e

pub another_none : (m : ByteMap ℤ) (k : List ℕ) (old z : ℤ) → get m k ≡ Some old → int_eq z old ≡ false → times pair_cmp (k, z) (pairs_of m) ≡ 0
another_none m k old z e apart = times_pairs m (k, z) ∙ ap (holds z) e ∙ one-false _ apart

-- a pair that stands there is the map's
in_map : (o : Option ℤ) (z : ℤ) → 0 < holds z o → o ≡ Some z
in_map None z some = absurd (omega arith)
in_map (Some s) z some = elim (int_eq z s) as (λ b. int_eq z s ≡ b → Some s ≡ Some z) [
  | true ↦ λ e. ap Some (sym (same_score z s e))
  | false ↦ λ e. (let none : one (int_eq z s) ≡ 0 = one-false _ e in absurd (omega arith))
] refl
  where
    same_score : (a b : ℤ) → int_eq a b ≡ true → a ≡ b
    same_score a b e = ap (λ (p : List ℕ × ℤ). p.1) (exact_pair ([], a) ([], b) (tied _ (ties ([], a) ([], b) ∙ ap (λ c. c && true) e)))

pub stands_there : (m : ByteMap ℤ) (p : List ℕ × ℤ) → 0 < times pair_cmp p (pairs_of m) → get m p.0 ≡ Some p.1
stands_there m p some = in_map (get m p.0) p.1 (let same : times pair_cmp p (pairs_of m) ≡ holds p.1 (get m p.0) = times_pairs m p in omega arith)

module _ (m : ByteMap ℤ) (k : List ℕ) (ls : Pairs) (up : Ascends pair_cmp ls) where
  -- what the map says of a member, where that is this one and where it is another
  at_key : (o : Option ℤ) (q : List ℕ × ℤ) → get m k ≡ o → eq_by_cmp bytes_cmp q.0 k ≡ true → times pair_cmp q (pairs_of m) ≡ holds q.1 o
  at_key o q is e = times_pairs m q ∙ ap (λ (x : List ℕ). holds q.1 (get m x)) (same_key q.0 k e) ∙ ap (holds q.1) is

  -- the pairs with one more
  added : (z : ℤ) → get m k ≡ None → ((q : List ℕ × ℤ) → times pair_cmp q ls ≡ tie q (k, z) + times pair_cmp q (pairs_of m)) → ls ≡ pairs_of (insert m k z)
  added z absent count = are_pairs (insert m k z) ls up (λ q.
      elim (eq_by_cmp bytes_cmp q.0 k) as (λ b. eq_by_cmp bytes_cmp q.0 k ≡ b → times pair_cmp q ls ≡ holds q.1 (cond b (Some z) (get m q.0))) [
        | true ↦ λ e. (let new = tie_here q (k, z) e in let old = at_key None q absent e in let all = count q in omega arith)
        | false ↦ λ e. (let new = tie_elsewhere q (k, z) e in let old = times_pairs m q in let all = count q in omega arith)
      ] refl ∙ ap (holds q.1) (sym (get-insert nat_list_cmp_total m k z q.0)))

  -- .. with one less
  pub taken : (z : ℤ) → get m k ≡ Some z → ((q : List ℕ × ℤ) → times pair_cmp q ls + tie q (k, z) ≡ times pair_cmp q (pairs_of m)) → ls ≡ pairs_of (remove m k)
  taken z there count = are_pairs (remove m k) ls up (λ q.
      elim (eq_by_cmp bytes_cmp q.0 k) as (λ b. eq_by_cmp bytes_cmp q.0 k ≡ b → times pair_cmp q ls ≡ holds q.1 (cond b None (get m q.0))) [
        | true ↦ λ e. (let new = tie_here q (k, z) e in let old = at_key (Some z) q there e in let all = count q in omega arith)
        | false ↦ λ e. (let new = tie_elsewhere q (k, z) e in let old = times_pairs m q in let all = count q in omega arith)
      ] refl ∙ ap (holds q.1) (sym (get-remove nat_list_cmp_total m k q.0)))

  -- .. with one more of a member, and its first one gone
  moved : (old z : ℤ) → get m k ≡ Some old → ((q : List ℕ × ℤ) → times pair_cmp q ls + tie q (k, old) ≡ tie q (k, z) + times pair_cmp q (pairs_of m)) → ls ≡ pairs_of (insert m k z)
  moved old z there count = are_pairs (insert m k z) ls up (λ q.
      elim (eq_by_cmp bytes_cmp q.0 k) as (λ b. eq_by_cmp bytes_cmp q.0 k ≡ b → times pair_cmp q ls ≡ holds q.1 (cond b (Some z) (get m q.0))) [
        | true ↦ λ e. (let new = tie_here q (k, z) e in let gone = tie_here q (k, old) e in let before = at_key (Some old) q there e in let all = count q in omega arith)
        | false ↦ λ e. (let new = tie_elsewhere q (k, z) e in let gone = tie_elsewhere q (k, old) e in let before = times_pairs m q in let all = count q in omega arith)
      ] refl ∙ ap (holds q.1) (sym (get-insert nat_list_cmp_total m k z q.0)))

-- a pair that isn't there is put in

put_count : (p q : List ℕ × ℤ) (ls : Pairs) → times pair_cmp q (placed pair_cmp p ls) ≡ tie q p + times pair_cmp q ls
put_count p q ls = times-permutation pair_cmp q (p ∷ ls) (placed pair_cmp p ls) (IsPermutation-placed pair_cmp p ls) ∙ times-cons pair_cmp q p ls

pub put_new : (m : ByteMap ℤ) (k : List ℕ) (z : ℤ) → get m k ≡ None → insert_key pair_cmp (pairs_of m) (k, z) ≡ pairs_of (insert m k z)
put_new m k z absent =
    put_placed pairs_total (k, z) (pairs_of m) (absent_none m k z absent)
    ∙ added m k (placed pair_cmp (k, z) (pairs_of m)) (Ascends-placed pairs_total (k, z) (pairs_of m) (pairs_ascend m)) z absent (λ q. put_count (k, z) q (pairs_of m))

-- a pair that is there once is taken out

other_yes : (q p : List ℕ × ℤ) → is_eq (pair_cmp q p) ≡ true → is_other p q ≡ false
other_yes q p e = ap not e

other_no : (q p : List ℕ × ℤ) → is_eq (pair_cmp q p) ≡ false → is_other p q ≡ true
other_no q p e = ap not e

-- .. and isn't among the others
pub filtered_itself : (p : List ℕ × ℤ) (ls : Pairs) → times pair_cmp p (filter (is_other p) ls) ≡ 0
filtered_itself p ls = filtered_no pairs_total exact_pair (is_other p) p (other_yes p p (ap is_eq (tied_itself pairs_total p))) ls

gone_count : (p q : List ℕ × ℤ) (ls : Pairs) → times pair_cmp p ls ≡ 1 → times pair_cmp q (filter (is_other p) ls) + tie q p ≡ times pair_cmp q ls
gone_count p q ls once = elim (is_eq (pair_cmp q p)) as (λ b. is_eq (pair_cmp q p) ≡ b → times pair_cmp q (filter (is_other p) ls) + one b ≡ times pair_cmp q ls) [
  | true ↦ λ e. (
      let none : times pair_cmp q (filter (is_other p) ls) ≡ 0 = filtered_no pairs_total exact_pair (is_other p) q (other_yes q p e) ls in
      let single : one true ≡ 1 = one-true true refl in
      let same : times pair_cmp q ls ≡ 1 = ap (λ (x : List ℕ × ℤ). times pair_cmp x ls) (exact_pair q p (tied _ e)) ∙ once in
      omega arith)
  | false ↦ λ e. (
      let all : times pair_cmp q (filter (is_other p) ls) ≡ times pair_cmp q ls = filtered_yes pairs_total exact_pair (is_other p) q (other_no q p e) ls in
      let single : one false ≡ 0 = one-false false refl in
      omega arith)
] refl

pub taken_out : (m : ByteMap ℤ) (k : List ℕ) (z : ℤ) → get m k ≡ Some z → filter (is_other (k, z)) (pairs_of m) ≡ pairs_of (remove m k)
taken_out m k z there = taken m k (filter (is_other (k, z)) (pairs_of m)) (Ascends-filter pairs_total (is_other (k, z)) (pairs_of m) (pairs_ascend m)) z there (λ q. gone_count (k, z) q (pairs_of m) (there_once m k z there))

-- a member's other pair is put in, and its first one taken out
pub put_moved : (m : ByteMap ℤ) (k : List ℕ) (old z : ℤ) → get m k ≡ Some old → int_eq z old ≡ false → filter (is_other (k, old)) (insert_key pair_cmp (pairs_of m) (k, z)) ≡ pairs_of (insert m k z)
put_moved m k old z there apart =
    let new : List ℕ × ℤ = (k, z) in
    let ls : Pairs = placed pair_cmp new (pairs_of m) in
    let up : Ascends pair_cmp ls = Ascends-placed pairs_total new (pairs_of m) (pairs_ascend m) in
    let first : List ℕ × ℤ = (k, old) in
    let once : times pair_cmp first ls ≡ 1 =
    (let both : times pair_cmp first ls ≡ tie first new + times pair_cmp first (pairs_of m) = put_count new first (pairs_of m) in
    let none : tie first new ≡ 0 = one-false _ (ap is_eq (pairs_total.antisymm first new) ∙ reversed (pair_cmp new first) ∙ ties new first ∙ ap (λ b. b && eq_by_cmp bytes_cmp k k) apart) in
    let here = there_once m k old there in
    omega arith) in
    ap (filter (is_other first)) (put_placed pairs_total new (pairs_of m) (another_none m k old z there apart))
    ∙ moved m k (filter (is_other first) ls) (Ascends-filter pairs_total (is_other first) ls up) old z there (λ q.
    gone_count first q ls once ∙ put_count new q (pairs_of m))
  where
    reversed : (r : Ordering) → is_eq (ordering_reverse r) ≡ is_eq r
    reversed Less = refl
    reversed Equal = refl
    reversed Greater = refl

-- the first pair goes, or the last one

pub first_taken : (m : ByteMap ℤ) (p : List ℕ × ℤ) (rest : Pairs) → pairs_of m ≡ p ∷ rest → rest ≡ pairs_of (remove m p.0)
first_taken m p rest is =
    let here : times pair_cmp p (pairs_of m) ≡ suc (times pair_cmp p rest) = ap (times pair_cmp p) is ∙ times-itself pairs_total p rest in
    let up : Ascends pair_cmp (p ∷ rest) = subst (Ascends pair_cmp) is (pairs_ascend m) in
    taken m p.0 rest up.1 p.1 (stands_there m p (omega arith)) (λ q.
    let all : times pair_cmp q (pairs_of m) ≡ tie q p + times pair_cmp q rest = ap (times pair_cmp q) is ∙ times-cons pair_cmp q p rest in
    omega arith)

last_count : (p q : List ℕ × ℤ) (rest : Pairs) → times pair_cmp q (rest ++ p ∷ []) ≡ times pair_cmp q rest + tie q p
last_count p q [] = (let one_there = times-cons pair_cmp q p [] in let none = times-nil pair_cmp q in omega arith)
last_count p q (x ∷ xs) = (let long = times-cons pair_cmp q x (xs ++ p ∷ []) in let short = times-cons pair_cmp q x xs in let rest = last_count p q xs in omega arith)

pub last_taken : (m : ByteMap ℤ) (p : List ℕ × ℤ) (rest : Pairs) → pairs_of m ≡ rest ++ p ∷ [] → rest ≡ pairs_of (remove m p.0)
last_taken m p rest is =
    let here : times pair_cmp p (pairs_of m) ≡ times pair_cmp p rest + tie p p = ap (times pair_cmp p) is ∙ last_count p p rest in
    let itself = tie_itself p in
    let up : Ascends pair_cmp (rest ++ p ∷ []) = subst (Ascends pair_cmp) is (pairs_ascend m) in
    taken m p.0 rest (Ascends-front pairs_total rest (p ∷ []) up) p.1 (stands_there m p (omega arith)) (λ q.
    sym (ap (times pair_cmp q) is ∙ last_count p q rest))

-- how a pair compares with one that stands behind it, or not

reversed_lt : (r s : Ordering) → s ≡ ordering_reverse r → r ≡ Greater → is_lt s ≡ true
reversed_lt r s e h = ap is_lt e ∙ ap (λ o. is_lt (ordering_reverse o)) h

reversed_le : (r s : Ordering) → s ≡ ordering_reverse r → is_le r ≡ true → is_lt s ≡ false
reversed_le Less s e h = ap is_lt e
reversed_le Equal s e h = ap is_lt e
reversed_le Greater s e h = cc

-- the number of pairs in front of a place where one is greater than those in front of it, and not than those behind
pub counted : {A : Type 0} (f : A → List ℕ × ℤ) (p : List ℕ × ℤ) (xs : List A) (at : ℕ) → at ≤ length xs → IsPartitionPoint (λ y. pair_cmp p (f y) ≡ Greater) (λ y. is_le (pair_cmp p (f y)) ≡ true) xs at → at ≡ count_by (λ q. pair_lt q p) (map f xs)
counted f p xs at within h =
    let front : slice_range (map f xs) 0 at ≡ filter (λ q. pair_lt q p) (map f xs) = sym (between f (λ _. true) (λ q. pair_lt q p) xs 0 at (λ k d lo hi. absurd (omega arith)) (λ k d lo hi. refl)
    (λ k d lo hi. reversed_lt (pair_cmp p (f (get_or xs k d))) (pair_cmp (f (get_or xs k d)) p) (pairs_total.antisymm (f (get_or xs k d)) p) (h.0 k d lo hi))
    (λ k d lo hi. reversed_le (pair_cmp p (f (get_or xs k d))) (pair_cmp (f (get_or xs k d)) p) (pairs_total.antisymm (f (get_or xs k d)) p) (h.1 k d lo hi))) in
    let long : length (map f xs) ≡ length xs = length-map xs f in
    let few : length (slice_range (map f xs) 0 at) ≡ at - 0 = length-slice_range (map f xs) 0 at (omega arith) (omega arith) in
    (let e : at ≡ at - 0 = omega arith in e) ∙ sym few ∙ ap length front ∙ length-filter (λ q. pair_lt q p) (map f xs)

-- the pairs between the places where a range of scores begins and ends

from_no : (b : Bool) → (if b then Less else Greater) ≡ Greater → b ≡ false
from_no true e = cc
from_no false e = refl

from_yes : (b : Bool) → is_le (if b then Less else Greater) ≡ true → b ≡ true
from_yes true e = refl
from_yes false e = cc

to_yes : (b : Bool) → (if b then Greater else Less) ≡ Greater → b ≡ true
to_yes true e = refl
to_yes false e = cc

to_no : (b : Bool) → is_le (if b then Greater else Less) ≡ true → b ≡ false
to_no true e = cc
to_no false e = refl

pub ranged : {A : Type 0} (f : A → List ℕ × ℤ) (from to : Bound) (xs : List A) (first past end : ℕ) → IsPartitionPoint (λ y. start_cmp from (f y).1 ≡ Greater) (λ y. is_le (start_cmp from (f y).1) ≡ true) xs first
    → IsPartitionPoint (λ y. end_cmp to (f y).1 ≡ Greater) (λ y. is_le (end_cmp to (f y).1) ≡ true) xs past → end ≡ max past first → filter (λ q. is_within from to q.1) (map f xs) ≡ slice_range (map f xs) first end
ranged f from to xs first past end lower upper e =
    between f (λ q. is_from from q.1) (λ q. is_to to q.1) xs first past (λ k d lo hi. from_no _ (lower.0 k d lo hi)) (λ k d lo hi. from_yes _ (lower.1 k d lo hi)) (λ k d lo hi. to_yes _ (upper.0 k d lo hi)) (λ k d lo hi. to_no _ (upper.1 k d lo hi))
    ∙ (let same : past - first ≡ end - first = omega (arith, e) in ap (λ n. take n (drop first (map f xs))) same)

-- a pair more in a list of pairs that are shown
pub one_shown : (ps qs : List Pair) (p : Pair) (x : Entry) (now rest : List Entry) (all : Pairs) → map lent_pair ps ++ map stored now ≡ all → now ≡ x ∷ rest → qs ≡ ps ++ p ∷ [] → lent_pair p ≡ stored x → map lent_pair qs ++ map stored rest ≡ all
one_shown ps qs p x now rest all before next pushed same =
    ap (λ (zs : List Pair). map lent_pair zs ++ map stored rest) pushed
    ∙ ap (λ (zs : Pairs). zs ++ map stored rest) (map_push lent_pair ps p)
    ∙ append_assoc (map lent_pair ps) (lent_pair p ∷ []) (map stored rest)
    ∙ ap (λ (z : List ℕ × ℤ). map lent_pair ps ++ (z ∷ map stored rest)) same
    ∙ ap (λ (zs : List Entry). map lent_pair ps ++ map stored zs) (sym next)
    ∙ before

pub slice_range-stored : (xs : List Entry) (a b : ℕ) → map stored (slice_range xs a b) ≡ slice_range (map stored xs) a b
slice_range-stored xs a b = sym (take-map stored (b - a) (drop a xs)) ∙ ap (take (b - a)) (sym (drop-map stored a xs))
