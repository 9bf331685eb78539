-- Timed keys in order, as one comes, one goes, and as they are counted.
use Rattle.std.proofs.Common.{◌≡◌, ℕ, zero, suc, ◌+◌, ◌<◌, ◌≤◌, ℤ, List, [], ◌∷◌, length, map, get_or, Bool, true, false, ◌||◌, cond, Option, None, Some, Result, Ok, Err, IsTrue, refl, sym, ap, subst, ◌∙◌, arith}
use Rattle.std.specs.Prelude.{filter, int_le, if◌then◌else◌}
use Rattle.std.specs.List.{AllWithin, list_any, remove}
use Rattle.std.specs.List.Sorted.{IsPartitionPoint}
use Rattle.std.specs.Ordering.{is_eq, is_le, match_ordering}
use Rattle.std.specs.declared.cmp.Ordering.{Ordering}
use Rattle.std.specs.declared.cmp.Ordering.TheVariants.{Less, Equal, Greater}
use Rattle.std.specs.BTreeSet.{insert_key}
use Rattle.mr_order.specs.Changes.{IsTaken, left_at}
use Rattle.mr_order.specs.Standing.{IsPlaceOf, StandsAt, StandsBefore}
use Rattle.mr_map.specs.Bytes.{Bytes}
use Rattle.mr_zset.specs.Limits.{end_cmp}
use Rattle.mr_zset.specs.Pairs.{pair_cmp}
use Rattle.mr_zset.specs.declared.bound.Bound.TheVariants.{Included}
use Rattle.mr_zset.proofs.PairLemmas.{exact_pair}
use Rattle.mr_keyspace.specs.TimedKeys.{Updates, count_come, has, dated, timed_cmp}
use Rattle.mr_keyspace.specs.declared.timed_key.TimedKey.{TimedKey}
use Rattle.mr_keyspace.proofs.Maps.{tied}

-- whether a pair is that of a timed key
abbrev is_of : Bytes × ℤ → TimedKey → Bool
is_of p x = is_eq (pair_cmp p (dated x))

-- the pair of a timed key is its own
own : (p : Bytes × ℤ) (x : TimedKey) → is_of p x ≡ true → p ≡ dated x
own p x h = exact_pair p (dated x) (tied _ h)

-- ---- one comes
or_cond : (a b : Bool) → (a || b) ≡ cond a true b
or_cond true b = refl
or_cond false b = refl

or_both : (a b : Bool) → (a || b) ≡ cond a true (a || b)
or_both true b = refl
or_both false b = refl

behind : (a b c : Bool) → (a || cond b true c) ≡ cond b true (a || c)
behind true true c = refl
behind true false c = refl
behind false b c = refl

pub comes_in : (e : TimedKey) (s : List TimedKey) → Updates e true s (insert_key timed_cmp s e)
comes_in e [] p = or_cond (is_of p e) false
comes_in e (x ∷ xs) p = elim (timed_cmp e x) as (λ r. timed_cmp e x ≡ r → has (match_ordering r (e ∷ x ∷ xs) (x ∷ xs) (x ∷ insert_key timed_cmp xs e)) p ≡ cond (is_of p e) true (has (x ∷ xs) p)) [
  | Less ↦ λ h. or_cond (is_of p e) (has (x ∷ xs) p)
  | Equal ↦ λ h. or_both (is_of p x) (has xs p) ∙ ap (λ (q : Bytes × ℤ). cond (is_eq (pair_cmp p q)) true (has (x ∷ xs) p)) (sym (exact_pair (dated e) (dated x) h))
  | Greater ↦ λ h. ap (λ b. is_of p x || b) (comes_in e xs p) ∙ behind (is_of p x) (is_of p e) (has xs p)
] refl

-- ---- one goes
absent : (e : TimedKey) (xs : List TimedKey) (at : ℕ) → AllWithin (λ y. timed_cmp e y ≡ Greater) xs 0 at → AllWithin (λ y. timed_cmp e y ≡ Less) xs at (length xs) → has xs (dated e) ≡ false
absent e [] at front back = refl
absent e (x ∷ xs) zero front back =
    ap (λ r. is_eq r || has xs (dated e)) (back zero x (omega arith) (omega arith))
    ∙ absent e xs zero (λ k d lo lt. absurd (omega arith)) (λ k d lo lt. back (suc k) d (omega arith) (omega arith))
absent e (x ∷ xs) (suc at) front back =
    ap (λ r. is_eq r || has xs (dated e)) (front zero x (omega arith) (omega arith))
    ∙ absent e xs at (λ k d lo lt. front (suc k) d (omega arith) (omega arith)) (λ k d lo lt. back (suc k) d (omega arith) (omega arith))

gone : (e : TimedKey) (xs : List TimedKey) (at : ℕ) → at < length xs → AllWithin (λ y. timed_cmp e y ≡ Greater) xs 0 at → AllWithin (λ y. timed_cmp e y ≡ Less) xs (at + 1) (length xs) → has (remove xs at) (dated e) ≡ false
gone e [] at within front back = absurd (omega arith)
gone e (x ∷ xs) zero within front back = absent e xs zero (λ j d lo lt. absurd (omega arith)) (λ j d lo lt. back (suc j) d (omega arith) (omega arith))
gone e (x ∷ xs) (suc at) within front back =
    ap (λ r. is_eq r || has (remove xs at) (dated e)) (front zero x (omega arith) (omega arith))
    ∙ gone e xs at (omega arith) (λ j d lo lt. front (suc j) d (omega arith) (omega arith)) (λ j d lo lt. back (suc j) d (omega arith) (omega arith))

others : (e : TimedKey) (xs : List TimedKey) (at : ℕ) (p : Bytes × ℤ) → at < length xs → ((d : TimedKey) → timed_cmp e (get_or xs at d) ≡ Equal) → is_of p e ≡ false → has (remove xs at) p ≡ has xs p
others e [] at p within here apart = absurd (omega arith)
others e (x ∷ xs) zero p within here apart = sym (ap (λ b. b || has xs p) (subst (λ (q : Bytes × ℤ). is_eq (pair_cmp p q) ≡ false) (exact_pair (dated e) (dated x) (here x)) apart))
others e (x ∷ xs) (suc at) p within here apart = ap (λ b. is_of p x || b) (others e xs at p (omega arith) here apart)

pub goes_from : (e : TimedKey) (s n : List TimedKey) (t : Option TimedKey) → IsTaken (timed_cmp e) s t n → Updates e false s n
goes_from e s n t taken p = ap (λ (z : List TimedKey). has z p) taken.left ∙ by taken.place taken.is
  where
    by : (r : Result ℕ ℕ) → IsPlaceOf (timed_cmp e) s r → has (left_at r s) p ≡ cond (is_of p e) false (has s p)
    by (Ok at) stands = elim (is_of p e) as (λ b. is_of p e ≡ b → has (remove s at) p ≡ cond b false (has s p)) [
      | true ↦ λ h. ap (has (remove s at)) (own p e h) ∙ gone e s at stands.within stands.front stands.back
      | false ↦ λ h. others e s at p stands.within stands.here h
    ] refl
    by (Err at) stands = elim (is_of p e) as (λ b. is_of p e ≡ b → has s p ≡ cond b false (has s p)) [
      | true ↦ λ h. ap (has s) (own p e h) ∙ absent e s at stands.front stands.back
      | false ↦ λ h. refl
    ] refl

-- ---- those that have come are counted
has_come : (b : Bool) → (if b then Greater else Less) ≡ Greater → b ≡ true
has_come true h = refl
has_come false h = cc

will_come : (b : Bool) → IsTrue (is_le (if b then Greater else Less)) → b ≡ false
will_come true h = cc
will_come false h = refl

pub counted : (now : ℤ) (xs : List TimedKey) (at : ℕ) → at ≤ length xs → IsPartitionPoint (λ y. end_cmp (Included now) y.deadline ≡ Greater) (λ y. IsTrue (is_le (end_cmp (Included now) y.deadline))) xs at
    → at ≡ count_come now (map dated xs)
counted now [] zero within h = refl
counted now [] (suc at) within h = absurd (omega (arith, within))
counted now (x ∷ xs) zero within h =
    counted now xs zero (omega arith) ((λ k d lo lt. absurd (omega arith)), (λ k d lo lt. h.1 (suc k) d (omega arith) (omega arith)))
    ∙ sym (ap (λ b. length (cond b (dated x ∷ filter (λ p. int_le p.1 now) (map dated xs)) (filter (λ p. int_le p.1 now) (map dated xs)))) (will_come (int_le x.deadline now) (h.1 zero x (omega arith) (omega arith))))
counted now (x ∷ xs) (suc at) within h =
    ap suc (counted now xs at (omega (arith, within)) ((λ k d lo lt. h.0 (suc k) d (omega arith) (omega arith)), (λ k d lo lt. h.1 (suc k) d (omega arith) (omega arith))))
    ∙ sym (ap (λ b. length (cond b (dated x ∷ filter (λ p. int_le p.1 now) (map dated xs)) (filter (λ p. int_le p.1 now) (map dated xs)))) (has_come (int_le x.deadline now) (h.0 zero x (omega arith) (omega arith))))
