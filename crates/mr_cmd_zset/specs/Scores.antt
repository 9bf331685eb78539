-- Sorted sets before and after a command: how they differ, the effects that say so, and what is answered of them.
use Rattle.std.specs.Prelude.{◌≡◌, ℕ, ℤ, pos, List, [], ◌∷◌, ◌++◌, map, reverse, not, if◌then◌else◌, Option, Some, None}
use Rattle.std.specs.Fmt.{signed_decimal}
use Rattle.std.specs.FinMap.{get, contains_key, entries, keys, retain_keys}
use Rattle.mr_map.specs.Bytes.{Bytes, ByteMap}
use Rattle.mr_resp.specs.Replies as reply
use Rattle.mr_resp.specs.Replies.{Tree}
use Rattle.mr_zset.specs.Pairs.{pairs_of}
use Rattle.mr_effect.specs.declared.effect.Effect.{Effect}
use Rattle.mr_effect.specs.declared.effect.Effect.TheVariants as effect
use Rattle.mr_keyspace.specs.Collections.{with_scores}
use Rattle.mr_zset_options.specs.declared.choices.Order.{Order}
use Rattle.mr_zset_options.specs.declared.choices.Order.TheVariants as order
use Rattle.mr_keyspace.specs.Cuts.{cut}
use Rattle.mr_cmd_shared.specs.Collections.{Change}
pub use Rattle.mr_cmd_shared.specs.Numbers.{is_same}

abbrev pub Scores : Type 0
Scores = ByteMap ℤ

-- ---- replies

abbrev pub number : ℕ → Tree
number n = reply.int (pos n)

-- a score is answered as its text
abbrev pub score_reply : ℤ → Tree
score_reply score = reply.bytes (signed_decimal score)

-- ---- all pairs in an order
abbrev pub pairs_in : Order → Scores → List (Bytes × ℤ)
pairs_in order.Ascending s = pairs_of s
pairs_in order.Descending s = reverse (pairs_of s)

-- ---- what differs

-- the members that have another score than before, in byte order
abbrev pub changed : Scores → Scores → List (Bytes × ℤ)
changed old new = entries (retain_keys new (λ x. not (is_same (get old x) (get new x))))

-- .. where it is this member's alone that may be another
abbrev pub changed_alone : Bytes → Option ℤ → Option ℤ → List (Bytes × ℤ)
changed_alone x before None = []
changed_alone x before (Some z) = if is_same before (Some z) then [] else (x, z) ∷ []

-- the members that are there no longer, in byte order
abbrev pub lost : Scores → Scores → List Bytes
lost old new = keys (retain_keys old (λ x. not (contains_key new x)))

-- the scores of w in front of those of s
abbrev pub over : Scores → Scores → Scores
over w s = with_scores (entries w) s

-- ---- changes of the sorted set at a key

abbrev pub unchanged : Tree → Scores → Change Scores
unchanged reply s = record { reply = reply; value = s; effects = [] }

-- .. and only tells of it
abbrev pub told : (Scores → Tree) → Scores → Change Scores
told answer s = unchanged (answer s) s

-- scores are set, and no member goes
abbrev pub set_to : Bytes → Tree → Scores → Scores → Change Scores
set_to k reply old new = record { reply = reply; value = new; effects = map (effect.SetScores k) (cut (changed old new)) }

-- members go, and no score is set
abbrev pub reduced_to : Bytes → Tree → Scores → Scores → Change Scores
reduced_to k reply old new = record { reply = reply; value = new; effects = map (effect.RemoveScores k) (cut (lost old new)) }

-- the reply is the change's, and its effects were put behind those that were there
pub record Makes (change : Change Scores) (reply : Tree) (old new : List Effect) : Type 0 where
  pub reply_is : reply ≡ change.reply
  pub effects_are : new ≡ old ++ change.effects
