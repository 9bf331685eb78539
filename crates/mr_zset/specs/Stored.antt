-- Pairs as a sorted set keeps them, in order, and the map that they are.
use Rattle.std.specs.Prelude.{◌≡◌, ℕ, ℤ, List, map}
use Rattle.std.specs.FinMap.{from_entries}
use Rattle.mr_map.specs.Bytes.{ByteMap}
use Rattle.mr_zset.specs.declared.entry.Entry.{Entry}
use Rattle.mr_zset.specs.declared.query.ShortPair.{ShortPair}
use Rattle.mr_zset.specs.Pairs.{pairs_of}
use Rattle.mr_zset.specs.Score.{HasScores}

-- a stored pair as a member and its score
abbrev pub stored : Entry → List ℕ × ℤ
stored e = (e.member, e.score)

-- what stored pairs say of each member
abbrev pub scores_of : List Entry → ByteMap ℤ
scores_of es = from_entries (map stored es)

-- a pair whose member is of few bytes
abbrev pub short_shown : ShortPair → List ℕ × ℤ
short_shown p = (p.member.now, p.score)

-- the stored pairs are those of the map, in order, and each score is one
pub record AreStored (scores : ByteMap ℤ) (pairs : List Entry) : Type 0 where
  pub within : HasScores scores
  pub same : map stored pairs ≡ pairs_of scores
