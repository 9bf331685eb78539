-- ZADD and ZINCRBY: scores are set.
use Rattle.std.specs.Prelude.{ℕ, ℤ, pos, ◌+◌, ◌+ℤ◌, int_lt, List, [], ◌∷◌, codes, Bool, true, ◌&&◌, not, is_some, if◌then◌else◌, Option, Some, None}
use Rattle.std.specs.FinMap.{get, insert}
use Rattle.mr_map.specs.Bytes.{Bytes}
use Rattle.mr_resp.specs.Replies as reply
use Rattle.mr_resp.specs.Replies.{Tree}
use Rattle.mr_score.specs.Score.{is_score}
use Rattle.mr_zset_options.specs.declared.choices.ScoreCondition.{ScoreCondition}
use Rattle.mr_zset_options.specs.declared.choices.ScoreCondition.TheVariants as condition
use Rattle.mr_zset_options.specs.declared.choices.Comparison.{Comparison}
use Rattle.mr_zset_options.specs.declared.choices.Comparison.TheVariants as comparison
use Rattle.mr_zset_options.specs.declared.choices.ScoresReply.{ScoresReply}
use Rattle.mr_zset_options.specs.declared.choices.ScoresReply.TheVariants as answer
use Rattle.mr_cmd_shared.specs.Collections.{Change}
use Rattle.mr_cmd_zset.specs.Scores.{Scores, number, score_reply, is_same, unchanged, set_to}

-- ---- which scores are set

-- NX sets only members that aren't there, XX only those that are
abbrev pub meets : Option ScoreCondition → Option ℤ → Bool
meets None before = true
meets (Some condition.Absent) before = not (is_some before)
meets (Some condition.Present) before = is_some before

-- GT sets only greater scores, LT only lesser ones. Where there is none yet, each may be set.
abbrev pub replaces : Option Comparison → Option ℤ → ℤ → Bool
replaces None before score = true
replaces (Some by) None score = true
replaces (Some comparison.Greater) (Some y) score = int_lt y score
replaces (Some comparison.Less) (Some y) score = int_lt score y

-- what is counted: members that are new, or those and each whose score is another
abbrev pub is_counted : ScoresReply → Option ℤ → Option ℤ → Bool
is_counted answer.Added before after = not (is_some before) && is_some after
is_counted answer.Changed before after = not (is_same before after)

module _ (only : Option ScoreCondition) (than : Option Comparison) where
  -- a member with this score before may have that score
  abbrev pub is_set : Option ℤ → ℤ → Bool
  is_set before score = meets only before && replaces than before score

  abbrev pub score_after : Option ℤ → ℤ → Option ℤ
  score_after before score = if is_set before score then Some score else before

  -- a score and its member
  abbrev pub with_pair : ℤ × Bytes → Scores → Scores
  with_pair p s = if is_set (get s p.1) p.0 then insert s p.1 p.0 else s

  -- one after another
  abbrev pub with_pairs : List (ℤ × Bytes) → Scores → Scores
  with_pairs [] s = s
  with_pairs (p ∷ ps) s = with_pairs ps (with_pair p s)

  -- pair by pair
  abbrev pub count_pairs : ScoresReply → List (ℤ × Bytes) → Scores → ℕ
  count_pairs reply [] s = 0
  count_pairs reply (p ∷ ps) s = (if is_counted reply (get s p.1) (score_after (get s p.1) p.0) then 1 else 0) + count_pairs reply ps (with_pair p s)

  -- ZADD key [NX|XX] [GT|LT] [CH] score member [score member ..]
  abbrev pub zadd : Bytes → ScoresReply → List (ℤ × Bytes) → Scores → Change Scores
  zadd k reply pairs s = set_to k (number (count_pairs reply pairs s)) s (with_pairs pairs s)

-- ---- sums

abbrev pub out_of_range : Tree
out_of_range = reply.error (codes "ERR resulting score is out of range")

-- a member that isn't there counts as 0
abbrev pub score_or_0 : Option ℤ → ℤ
score_or_0 None = pos 0
score_or_0 (Some y) = y

abbrev pub set_score : Bytes → Bytes → ℤ → Scores → Change Scores
set_score k x score s = if is_score score then set_to k (score_reply score) s (insert s x score) else unchanged out_of_range s

-- ZINCRBY key by member
abbrev pub zincrby : Bytes → ℤ → Bytes → Scores → Change Scores
zincrby k by x s = set_score k x (score_or_0 (get s x) +ℤ by) s
