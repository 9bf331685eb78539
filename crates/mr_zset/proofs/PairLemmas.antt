-- The order of pairs, and the entries of a map as pairs.
use Rattle.std.proofs.Common.{◌≡◌, ℕ, suc, ◌<◌, ◌+◌, length, List, [], ◌∷◌, Option, Some, None, true, false, cond, refl, sym, ◌∙◌, ap, subst, arith}
use Rattle.std.specs.Prelude.{ℤ, IsTrue, IfSome, IfOk, slice_get, count_by, option_map}
use Rattle.std.specs.declared.result.Result.{Result}
use Rattle.std.specs.declared.result.Result.TheVariants.{Ok, Err}
use Rattle.std.specs.Ordering.{int_cmp, is_lt, is_eq, eq_by_cmp}
use Rattle.std.specs.declared.cmp.Ordering.TheVariants.{Less, Equal, Greater}
use Rattle.std.specs.FinMap.{get, insert, remove, find, empty, entries, len, len-entries, get-empty, get-entries, get-insert, get-remove}
use Rattle.std.proofs.lemmas.Cmp.{nat_list_cmp_total}
use Rattle.std.proofs.lemmas.Map.Lookups.{exact_signed, exact_bytes, exact_pairs}
use Rattle.std.proofs.lemmas.List.Sorted.{length_permutation}
use Rattle.std.proofs.lemmas.Option.{slice_get_within}
use Rattle.mr_map.specs.Bytes.{bytes_cmp, ByteMap}
use Rattle.mr_score.specs.Score.{is_score}
use Rattle.mr_zset.specs.Score.{HasScores}
pub use Rattle.mr_zset.specs.Limits.{pairs_total}
use Rattle.mr_zset.specs.Pairs.{pair_cmp, pairs_of, rank_of}
use Rattle.mr_zset.proofs.Orders.{IsPermutation-in_order, one, times, times-cons, times-itself, place-in_order}

pub exact_pair : (p q : List ℕ × ℤ) → pair_cmp p q ≡ Equal → p ≡ q
exact_pair p q e = ap (λ (r : ℤ × List ℕ). (r.1, r.0)) (exact_pairs int_cmp bytes_cmp exact_signed exact_bytes (p.1, p.0) (q.1, q.0) e)

-- scores of all members, kept by each change

pub HasScores-empty : HasScores empty
HasScores-empty k = subst (λ (o : Option ℤ). IfSome o (λ z. IsTrue (is_score z))) (sym (get-empty {X = ℤ} bytes_cmp k)) tt

pub HasScores-insert : (m : ByteMap ℤ) (k : List ℕ) (z : ℤ) → IsTrue (is_score z) → HasScores m → HasScores (insert m k z)
HasScores-insert m k z here all q = subst (λ (o : Option ℤ). IfSome o (λ z. IsTrue (is_score z))) (sym (get-insert nat_list_cmp_total m k z q)) (
    elim (eq_by_cmp bytes_cmp q k) as (λ b. IfSome (cond b (Some z) (get m q)) (λ z. IsTrue (is_score z))) [
      | true ↦ here
      | false ↦ all q
    ])

pub HasScores-remove : (m : ByteMap ℤ) (k : List ℕ) → HasScores m → HasScores (remove m k)
HasScores-remove m k all q = subst (λ (o : Option ℤ). IfSome o (λ z. IsTrue (is_score z))) (sym (get-remove nat_list_cmp_total m k q)) (
    elim (eq_by_cmp bytes_cmp q k) as (λ b. IfSome (cond b None (get m q)) (λ z. IsTrue (is_score z))) [
      | true ↦ tt
      | false ↦ all q
    ])

-- a member that is found is among the pairs

pub some_inj : {A : Type 0} {x y : A} → Some x ≡ Some y → x ≡ y
some_inj e = cc

later : (p : List ℕ × ℤ) (ps : List (List ℕ × ℤ)) (k : List ℕ) (z : ℤ) → 0 < times pair_cmp (k, z) ps → 0 < times pair_cmp (k, z) (p ∷ ps)
later p ps k z h = let count : times pair_cmp (k, z) (p ∷ ps) ≡ one (is_eq (pair_cmp (k, z) p)) + times pair_cmp (k, z) ps = times-cons pair_cmp (k, z) p ps in omega arith

found_here : (p : List ℕ × ℤ) (ps : List (List ℕ × ℤ)) (k : List ℕ) (z : ℤ) → bytes_cmp k p.0 ≡ Equal → Some p.1 ≡ Some z → 0 < times pair_cmp (k, z) (p ∷ ps)
found_here p ps k z e g =
    let same : (k, z) ≡ p = λ i. (exact_bytes k p.0 e i, sym (some_inj g) i) in
    let count : times pair_cmp (k, z) (p ∷ ps) ≡ suc (times pair_cmp p ps) = ap (λ (q : List ℕ × ℤ). times pair_cmp q (p ∷ ps)) same ∙ times-itself pairs_total p ps in
    omega arith

pub found : (es : List (List ℕ × ℤ)) (k : List ℕ) (z : ℤ) → find bytes_cmp k es ≡ Some z → 0 < times pair_cmp (k, z) es
found [] k z e = cc
found (p ∷ ps) k z e = elim (bytes_cmp k p.0) as (λ r. bytes_cmp k p.0 ≡ r → cond (is_eq r) (Some p.1) (find bytes_cmp k ps) ≡ Some z → 0 < times pair_cmp (k, z) (p ∷ ps)) [
  | Less ↦ λ h g. later p ps k z (found ps k z g)
  | Equal ↦ λ h g. found_here p ps k z h g
  | Greater ↦ λ h g. later p ps k z (found ps k z g)
] refl e

-- the number of lesser pairs is the member's place

pub place-rank : (m : ByteMap ℤ) (k : List ℕ) (z : ℤ) → get m k ≡ Some z → slice_get (pairs_of m) (count_by (λ p. is_lt (pair_cmp p (k, z))) (entries m)) ≡ Some (k, z)
place-rank m k z e = place-in_order pairs_total exact_pair (k, z) (entries m) (found (entries m) k z (sym (get-entries m k) ∙ e))

pub IfSome-key : (o : Option (List ℕ × ℤ)) (k : List ℕ) (z : ℤ) → o ≡ Some (k, z) → IfSome o (λ p. p.0 ≡ k)
IfSome-key None k z e = tt
IfSome-key (Some p) k z e = ap (λ (q : List ℕ × ℤ). q.0) (some_inj e)

pub place-rank_of : (m : ByteMap ℤ) (k : List ℕ) (r : ℕ) → Some r ≡ rank_of m k → IfSome (slice_get (pairs_of m) r) (λ p. p.0 ≡ k)
place-rank_of m k r e = elim (get m k) as (λ o. get m k ≡ o → Some r ≡ option_map (λ s. count_by (λ p. is_lt (pair_cmp p (k, s))) (entries m)) o → IfSome (slice_get (pairs_of m) r) (λ p. p.0 ≡ k)) [
  | None ↦ λ g h. cc
  | Some z ↦ λ g h. IfSome-key (slice_get (pairs_of m) r) k z (ap (slice_get (pairs_of m)) (some_inj h) ∙ place-rank m k z g)
] refl e

pub if_ok : {A E : Type 0} {P Q : A → Type 0} (r : Result A E) → ((a : A) → P a → Q a) → IfOk r P → IfOk r Q
if_ok (Ok a) f h = f a h
if_ok (Err e) f h = h

-- how many pairs there are

pub length-pairs_of : (m : ByteMap ℤ) → length (pairs_of m) ≡ len m
length-pairs_of m = length_permutation (entries m) (pairs_of m) (IsPermutation-in_order pair_cmp (entries m)) ∙ sym (len-entries m)

-- a member's place is one of them
pub within-rank_of : (m : ByteMap ℤ) (k : List ℕ) (r : ℕ) → Some r ≡ rank_of m k → r < len m
within-rank_of m k r e = elim (get m k) as (λ o. get m k ≡ o → Some r ≡ option_map (λ s. count_by (λ p. is_lt (pair_cmp p (k, s))) (entries m)) o → r < len m) [
  | None ↦ λ g h. cc
  | Some z ↦ λ g h. (
      let there : slice_get (pairs_of m) r ≡ Some (k, z) = ap (slice_get (pairs_of m)) (some_inj h) ∙ place-rank m k z g in
      let within : r < length (pairs_of m) = slice_get_within (pairs_of m) r (k, z) there in
      omega (arith, length-pairs_of m))
] refl e
