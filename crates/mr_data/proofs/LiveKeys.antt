-- How many keys aren't expired.
use Rattle.std.proofs.Common.{◌≡◌, ◌+◌, ◌-◌, ◌≤◌, ℕ, suc, ℤ, List, [], ◌∷◌, ◌++◌, map, length, true, false, Option, Some, None, refl, sym, ap, subst, arith}
use Rattle.std.specs.Prelude.{filter, int_le, is_some, if◌then◌else◌}
use Rattle.std.specs.List.{AllByRecursion, flat_map}
use Rattle.std.specs.FinMap.{get, keys, entries, len, len-entries}
use Rattle.std.proofs.lemmas.List.Sorted.{length_permutation}
use Rattle.mr_map.specs.Bytes.{Bytes}
use Rattle.mr_zset.specs.Pairs.{pair_cmp}
use Rattle.mr_zset.proofs.Orders.{IsPermutation-in_order}
use Rattle.mr_keyspace.specs.Dataset.{Dataset}
use Rattle.mr_keyspace.specs.TimedKeys.{count_come, timed_keys}
use Rattle.mr_keyspace.specs.declared.value.Entry.{Entry}
use Rattle.mr_keyspace.specs.Steps.{deadline_of}
use Rattle.mr_data.specs.Dataset.{is_expired, live, seen}
use Rattle.mr_data.specs.Due.{due, if_expired}
use Rattle.mr_data.proofs.Dues.{due_is}
use Rattle.mr_data.proofs.Entries.{own_entries}
use Rattle.mr_data.proofs.SeenKeys.{len_seen}

abbrev Pair : Type 0
Pair = Bytes × ℤ

-- ---- of all keys, those that are seen and those that are due
abbrev seen_among : ℤ → Dataset → List (Bytes × Entry) → List Bytes
seen_among now m es = filter (λ k. is_some (live now (get m k))) (map (λ (e : Bytes × Entry). e.0) es)

abbrev due_among : ℤ → Dataset → List (Bytes × Entry) → List Pair
due_among now m es = flat_map (λ k. if_expired now k (deadline_of (get m k))) (map (λ (e : Bytes × Entry). e.0) es)

-- one more is the one or the other
either : (now : ℤ) (k : Bytes) (x : Entry) (d : Option ℤ) (n : ℕ) (ks : List Bytes) (ps : List Pair) → n ≡ length ks + length ps
    → suc n ≡ length (if is_some (if is_expired now d then None else Some x) then k ∷ ks else ks) + length (if_expired now k d ++ ps)
either now k x None n ks ps h = omega (arith, h)
either now k x (Some d) n ks ps h = elim (int_le d now) as (λ b. suc n ≡ length (if is_some (if b then None else Some x) then k ∷ ks else ks) + length ((if b then (k, d) ∷ [] else []) ++ ps)) [
  | true ↦ omega (arith, h)
  | false ↦ omega (arith, h)
]

parts : (now : ℤ) (m : Dataset) (es : List (Bytes × Entry)) → AllByRecursion (λ (e : Bytes × Entry). get m e.0 ≡ Some e.1) es → length es ≡ length (seen_among now m es) + length (due_among now m es)
parts now m [] own = refl
parts now m (e ∷ es) own =
    subst (λ (o : Option Entry). suc (length es) ≡ length (if is_some (live now o) then e.0 ∷ seen_among now m es else seen_among now m es) + length (if_expired now e.0 (deadline_of o) ++ due_among now m es))
    (sym own.0) (either now e.0 e.1 e.1.deadline (length es) (seen_among now m es) (due_among now m es) (parts now m es own.1))

pub len_parts : (now : ℤ) (m : Dataset) → len m ≡ len (seen now m) + length (due now m)
len_parts now m =
    let all = parts now m (entries m) (own_entries m) in
    let seen_len : len (seen now m) ≡ length (seen_among now m (entries m)) = len_seen now m in
    let due_len : length (due now m) ≡ length (due_among now m (entries m)) = length_permutation _ _ (IsPermutation-in_order pair_cmp (due_among now m (entries m))) in
    omega (arith, len-entries m, seen_len, due_len, all)

-- all but those whose deadline has come
pub live_is : (now : ℤ) (m : Dataset) (all come : ℕ) → all ≡ len m → come ≡ count_come now (timed_keys m) → all - come ≡ len (seen now m)
live_is now m all come whole count =
    let gone : count_come now (timed_keys m) ≡ length (due now m) = ap length (sym (due_is now m)) in
    omega (arith, whole, count, gone, len_parts now m)

-- .. of which there are no more than all
pub come_within : (now : ℤ) (m : Dataset) (all come : ℕ) → all ≡ len m → come ≡ count_come now (timed_keys m) → come ≤ all
come_within now m all come whole count =
    let gone : count_come now (timed_keys m) ≡ length (due now m) = ap length (sym (due_is now m)) in
    omega (arith, whole, count, gone, len_parts now m)
