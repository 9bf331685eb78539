-- The pairs of a sorted set: their order, ranks and ranges.
use Rattle.std.specs.Prelude.{ℕ, ℤ, List, Bool, not, Option, Some, None, count_by, filter, option_map}
use Rattle.std.specs.declared.cmp.Ordering.{Ordering}
use Rattle.std.specs.Ordering.{int_cmp, ordering_then, is_eq, is_lt}
use Rattle.std.specs.FinMap.{entries, get, remove}
use Rattle.mr_map.specs.Bytes.{bytes_cmp, ByteMap}
use Rattle.mr_zset.specs.declared.bound.Bound.{Bound}
use Rattle.mr_zset.specs.declared.pair.Pair.{Pair}
use Rattle.mr_zset.specs.Bounds.{is_within}
use Rattle.mr_zset.specs.Order.{in_order}

-- by score, and then by the bytes of the member
abbrev pub pair_cmp : List ℕ × ℤ → List ℕ × ℤ → Ordering
pair_cmp p q = ordering_then (int_cmp p.1 q.1) (bytes_cmp p.0 q.0)

abbrev pub pair_lt : List ℕ × ℤ → List ℕ × ℤ → Bool
pair_lt p q = is_lt (pair_cmp p q)

-- a pair is another than p
abbrev pub is_other : List ℕ × ℤ → List ℕ × ℤ → Bool
is_other p q = not (is_eq (pair_cmp q p))

-- all pairs of a set, in order
abbrev pub pairs_of : ByteMap ℤ → List (List ℕ × ℤ)
pairs_of m = in_order pair_cmp (entries m)

-- the number of lesser pairs, of a member that is there
abbrev pub rank_of : ByteMap ℤ → List ℕ → Option ℕ
rank_of m k = option_map (λ s. count_by (λ p. pair_lt p (k, s)) (entries m)) (get m k)

-- the pairs whose scores are within two bounds, in order
abbrev pub range_of : Bound → Bound → ByteMap ℤ → List (List ℕ × ℤ)
range_of from to m = filter (λ p. is_within from to p.1) (pairs_of m)

-- a pair as a member and its score
abbrev pub lent_pair : Pair → List ℕ × ℤ
lent_pair p = (p.member.now, p.score)

-- the set once a pair is taken out
abbrev pub without : Option (List ℕ × ℤ) → ByteMap ℤ → ByteMap ℤ
without None m = m
without (Some p) m = remove m p.0
