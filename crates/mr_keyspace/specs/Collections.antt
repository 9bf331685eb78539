-- What is done to the collection that a key holds.
use Rattle.std.specs.Prelude.{ℕ, ℤ, pos, ◌+◌, ◌-◌, List, [], ◌∷◌, ◌++◌, length, take, drop, slice_get, Bool, ◌&&◌, int_le, int_lt, Option}
use Rattle.std.specs.Option.{option_map}
use Rattle.std.specs.FinMap.{insert, remove, empty}
use Rattle.mr_map.specs.Bytes.{Bytes, ByteMap}
use Rattle.mr_value.specs.Lists.{first_place}
use Rattle.mr_bytes.specs.declared.ends.End.{End}
use Rattle.mr_bytes.specs.declared.ends.End.TheVariants.{Left, Right}
use Rattle.mr_bytes.specs.declared.ends.Side.{Side}
use Rattle.mr_bytes.specs.declared.ends.Side.TheVariants.{Before, After}
pub use Rattle.mr_zset.specs.Leaving.{without_scores}

-- ---- hashes

-- fields get values, one after another
abbrev pub with_fields : List (Bytes × Bytes) → ByteMap Bytes → ByteMap Bytes
with_fields [] h = h
with_fields (p ∷ ps) h = with_fields ps (insert h p.0 p.1)

-- the fields that pairs name, each with its last value
abbrev pub last_values : List (Bytes × Bytes) → ByteMap Bytes
last_values pairs = with_fields pairs empty

abbrev pub without_fields : List Bytes → ByteMap Bytes → ByteMap Bytes
without_fields [] h = h
without_fields (f ∷ fs) h = without_fields fs (remove h f)

-- ---- sets

abbrev pub with_members : List Bytes → ByteMap (Unit {0}) → ByteMap (Unit {0})
with_members [] s = s
with_members (x ∷ xs) s = with_members xs (insert s x tt)

-- these words, each once
abbrev pub as_set : List Bytes → ByteMap (Unit {0})
as_set xs = with_members xs empty

abbrev pub without_members : List Bytes → ByteMap (Unit {0}) → ByteMap (Unit {0})
without_members [] s = s
without_members (x ∷ xs) s = without_members xs (remove s x)

-- ---- sorted sets

-- members get scores, one after another
abbrev pub with_scores : List (Bytes × ℤ) → ByteMap ℤ → ByteMap ℤ
with_scores [] s = s
with_scores (p ∷ ps) s = with_scores ps (insert s p.0 p.1)

-- ---- lists

-- an item put at an end
abbrev pub put_item : End → Bytes → List Bytes → List Bytes
put_item Left x xs = x ∷ xs
put_item Right x xs = xs ++ x ∷ []

-- items put at an end, one after another
abbrev pub pushed : End → List Bytes → List Bytes → List Bytes
pushed end [] xs = xs
pushed end (item ∷ items) xs = pushed end items (put_item end item xs)

-- so many may be taken from a list of this length
abbrev pub may_take : ℤ → ℕ → Bool
may_take n len = int_le (pos 1) n && int_le n (pos len)

-- without so many items at an end
abbrev pub popped : End → ℕ → List Bytes → List Bytes
popped Left n xs = drop n xs
popped Right n xs = take (length xs - n) xs

-- the item at an end
abbrev pub end_item : End → List Bytes → Option Bytes
end_item Left xs = slice_get xs 0
end_item Right xs = slice_get xs (length xs - 1)

-- the item at an end put at an end
abbrev pub turned : End → End → List Bytes → Option (List Bytes)
turned taken put xs = option_map (λ x. put_item put x (popped taken 1 xs)) (end_item taken xs)

-- a place in a list of this length
abbrev pub is_place_of : ℤ → ℕ → Bool
is_place_of i len = int_le (pos 0) i && int_lt i (pos len)

-- the first and the last place of a part of a list of this length
abbrev pub is_part_of : ℤ → ℤ → ℕ → Bool
is_part_of a b len = int_le (pos 0) a && int_le a b && int_lt b (pos len)

-- the place of what is put beside the first pivot
abbrev pub place_beside : Side → Bytes → List Bytes → Option ℕ
place_beside Before pivot xs = first_place pivot xs
place_beside After pivot xs = option_map (λ i. i + 1) (first_place pivot xs)
