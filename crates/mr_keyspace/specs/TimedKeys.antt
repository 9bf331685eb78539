-- The deadlines of keys, and the order in which they come.
use Rattle.std.specs.Prelude.{◌≡◌, ℕ, ℤ, int_le, Bool, false, cond, if◌then◌else◌, filter, length, map, List, [], ◌∷◌, Option, Some, None}
use Rattle.std.specs.List.{flat_map, list_any}
use Rattle.std.specs.declared.cmp.Ordering.{Ordering}
use Rattle.std.specs.Ordering.{int_eq, is_eq, eq_by_cmp}
use Rattle.std.specs.FinMap.{get, keys}
use Rattle.mr_map.specs.Bytes.{Bytes, bytes_cmp}
use Rattle.mr_zset.specs.Order.{in_order}
use Rattle.mr_zset.specs.Pairs.{pair_cmp}
use Rattle.mr_keyspace.specs.Dataset.{Dataset}
use Rattle.mr_keyspace.specs.Steps.{deadline_of}
use Rattle.mr_keyspace.specs.declared.timed_key.TimedKey.{TimedKey}

-- a timed key, as a key with its deadline
abbrev pub dated : TimedKey → Bytes × ℤ
dated x = (x.key, x.deadline)

-- this deadline, and no other or none
abbrev pub is_deadline : ℤ → Option ℤ → Bool
is_deadline d None = false
is_deadline d (Some e) = int_eq d e

abbrev pub timed_cmp : TimedKey → TimedKey → Ordering
timed_cmp x y = pair_cmp (dated x) (dated y)

-- whether an index has this key with this deadline
abbrev pub has : List TimedKey → Bytes × ℤ → Bool
has s p = list_any (λ x. is_eq (pair_cmp p (dated x))) s

-- a timed key comes into an index, or goes from it, and of others that has what it had
abbrev pub Updates : TimedKey → Bool → List TimedKey → List TimedKey → Type 0
Updates e there s n = (p : Bytes × ℤ) → has n p ≡ cond (is_eq (pair_cmp p (dated e))) there (has s p)

-- the index has exactly the entries' deadlines
abbrev pub IsIndex : Dataset → List TimedKey → Type 0
IsIndex m s = (p : Bytes × ℤ) → has s p ≡ is_deadline p.1 (deadline_of (get m p.0))

-- of this key an index has this deadline alone, or none
abbrev pub IsDeadlineOf : Bytes → Option ℤ → List TimedKey → Type 0
IsDeadlineOf k d s = (p : Bytes × ℤ) → p.0 ≡ k → has s p ≡ is_deadline p.1 d

-- of this key the second index has this deadline alone, or none; of others it has what the first has
abbrev pub Reindexes : Bytes → Option ℤ → List TimedKey → List TimedKey → Type 0
Reindexes k d s n = (p : Bytes × ℤ) → has n p ≡ (if eq_by_cmp bytes_cmp p.0 k then is_deadline p.1 d else has s p)

-- a key with its deadline, if it has one
abbrev pub timed : Bytes → Option ℤ → List (Bytes × ℤ)
timed k None = []
timed k (Some d) = (k, d) ∷ []

-- the keys that have a deadline with it, in order of deadline and then of key
abbrev pub timed_keys : Dataset → List (Bytes × ℤ)
timed_keys m = in_order pair_cmp (flat_map (λ k. timed k (deadline_of (get m k))) (keys m))

-- how many of these have a deadline that has come at this moment
abbrev pub count_come : ℤ → List (Bytes × ℤ) → ℕ
count_come now ps = length (filter (λ p. int_le p.1 now) ps)
