-- Many pairs that go out of a sorted set.
use Rattle.std.specs.Prelude.{◌≡◌, ℕ, ℤ, ◌<◌, ◌≤◌, true, false, List, [], ◌∷◌, length, map, filter, slice_index_or}
use Rattle.std.specs.Borrow.{Bor}
use Rattle.std.specs.Ordering.{is_gt}
use Rattle.std.specs.List.{AllWithin}
use Rattle.std.specs.FinMap.{remove}
use Rattle.mr_map.specs.Bytes.{ByteMap}
use Rattle.mr_zset.specs.declared.entry.Entry.{Entry}
use Rattle.mr_zset.specs.declared.pair.Pair.{Pair}
use Rattle.mr_zset.specs.Pairs.{is_other, pair_cmp, pairs_of, lent_pair}
use Rattle.mr_zset.specs.Score.{HasScores}
use Rattle.mr_zset.specs.Stored.{stored}

-- a set once these members are out of it
abbrev pub without_scores : List (List ℕ) → ByteMap ℤ → ByteMap ℤ
without_scores [] m = m
without_scores (k ∷ ks) m = without_scores ks (remove m k)

-- pairs once these are out of them
abbrev pub without_pairs : List (List ℕ × ℤ) → List (List ℕ × ℤ) → List (List ℕ × ℤ)
without_pairs [] ps = ps
without_pairs (p ∷ gone) ps = without_pairs gone (filter (is_other p) ps)

-- the stored pairs are those of the map, in order, once some of them are out
pub record AreStoredBesides (gone : List Pair) (scores : ByteMap ℤ) (pairs : List Entry) : Type 0 where
  pub within : HasScores scores
  pub same : without_pairs (map lent_pair gone) (map stored pairs) ≡ pairs_of scores

-- none of the first pairs, so many, is less than one pair or greater than another
pub record AreBetween (least greatest : Pair) (pairs : List Pair) (count : ℕ) : Type 0 where
  pub low : (k : ℕ) (d : Pair) → k < count → is_gt (pair_cmp (lent_pair least) (lent_pair (slice_index_or pairs k d))) ≡ false
  pub high : (k : ℕ) (d : Pair) → k < count → is_gt (pair_cmp (lent_pair (slice_index_or pairs k d)) (lent_pair greatest)) ≡ false

-- another pair than each of these
abbrev pub IsApart : List Pair → List ℕ × ℤ → Type 0
IsApart gone q = (k : ℕ) (d : Pair) → k < length gone → is_other (lent_pair (slice_index_or gone k d)) q ≡ true

-- those that are stored stand between two places
pub record HaveRange (gone : List Pair) (pairs : List Entry) (first past : ℕ) : Type 0 where
  pub ordered : first ≤ past
  pub within : past ≤ length pairs
  pub front : AllWithin (λ y. IsApart gone (stored y)) pairs 0 first
  pub back : AllWithin (λ y. IsApart gone (stored y)) pairs past (length pairs)
