-- A set of few members, which are told by name without a map by name.
use Rattle.std.specs.Prelude.{◌≡◌, ℕ, ◌<◌, ◌≤◌, ℤ, List, Bool, true, not, ◌&&◌, if◌then◌else◌, Option, Some, None, MatchOption, filter}
use Rattle.std.specs.FinMap.{len}
use Rattle.std.specs.Ordering.{is_gt, is_lt}
use Rattle.mr_map.specs.Bytes.{bytes_cmp, ByteMap}

-- a set of at most so many needs no map by name
abbrev pub few : ℕ
few = 16

-- the map by name is there, or the set is small
abbrev pub AreNamed : Option (ByteMap ℤ) → ByteMap ℤ → Type 0
AreNamed names scores = MatchOption names (len scores ≤ few) (λ m. m ≡ scores)

-- .. and stays so once a member more is there
abbrev pub HasRoom : Option (ByteMap ℤ) → ByteMap ℤ → Type 0
HasRoom names scores = MatchOption names (len scores < few) (λ m. m ≡ scores)

-- in byte order a member comes behind another, or behind none
abbrev pub is_behind : Option (List ℕ) → List ℕ → Bool
is_behind None k = true
is_behind (Some last) k = is_lt (bytes_cmp last k)

-- those whose members come behind another
abbrev pub behind : Option (List ℕ) → List (List ℕ × ℤ) → List (List ℕ × ℤ)
behind last ps = filter (λ p. is_behind last p.0) ps

-- a pair's member comes in front of that of another pair, or is the same; where there is no other, it does
abbrev pub is_in_front : List ℕ → Option (List ℕ × ℤ) → Bool
is_in_front k None = true
is_in_front k (Some p) = not (is_gt (bytes_cmp k p.0))

-- of a pair and the first one so far the one that comes first behind another
abbrev pub nearer : Option (List ℕ) → List ℕ × ℤ → Option (List ℕ × ℤ) → Option (List ℕ × ℤ)
nearer last p first = if is_behind last p.0 && is_in_front p.0 first then Some p else first
