-- What commands make of sets.
use Rattle.std.specs.Prelude.{ℕ, ◌%◌, List, ◌++◌, take, drop, length, not}
use Rattle.std.specs.FinMap.{keys, contains_key, retain_keys}
use Rattle.mr_map.specs.Bytes.{Bytes, ByteMap}
use Rattle.mr_keyspace.specs.Collections.{with_members}
pub use Rattle.mr_keyspace.specs.Collections.{as_set}

abbrev pub Members : Type 0
Members = ByteMap (Unit {0})

-- the members of both
abbrev pub common : Members → Members → Members
common s t = retain_keys s (contains_key t)

-- the members of the first that aren't in the second
abbrev pub minus : Members → Members → Members
minus s t = retain_keys s (λ x. not (contains_key t x))

-- the members of either
abbrev pub joined : Members → Members → Members
joined s t = with_members (keys t) s

-- from a place on, and round the end
abbrev pub from_place : ℕ → List Bytes → List Bytes
from_place p xs = drop p xs ++ take p xs

-- The first n from the place that a random word names; all, where there are fewer.
abbrev pub drawn : ℕ → ℕ → List Bytes → List Bytes
drawn word n xs = take n (from_place (word % length xs) xs)
