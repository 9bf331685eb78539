-- The law of faithful effects for each command on sorted sets.
use Rattle.std.proofs.Common.{◌≡◌, ℤ, ◌+ℤ◌, List, [], ◌∷◌, true, false, Option, Some, refl}
use Rattle.std.specs.Prelude.{IsTrue, if◌then◌else◌}
use Rattle.std.specs.List.{list_all}
use Rattle.std.specs.FinMap.{get, insert, len}
use Rattle.std.proofs.lemmas.Bool.{and_from}
use Rattle.mr_map.specs.Bytes.{Bytes}
use Rattle.mr_bytes.specs.Words.{fits}
use Rattle.mr_bytes.specs.Window.{window_of, windowed}
use Rattle.mr_bytes.proofs.Both.{first, second}
use Rattle.mr_score.specs.Score.{is_score}
use Rattle.mr_zset.specs.Pairs.{pairs_of, range_of}
use Rattle.mr_resp.specs.Replies.{Tree}
use Rattle.mr_keyspace.specs.Dataset.{Dataset}
use Rattle.mr_data.specs.Dataset.{IsDataset}
use Rattle.mr_keyspace.specs.Steps.{sorted_sets, held}
use Rattle.mr_keyspace.specs.declared.value.Entry.{Entry}
use Rattle.mr_cmd_zset.specs.Carried.{zset_words, members_of}
use Rattle.mr_zset_options.specs.Scored.{is_scored}
use Rattle.mr_cmd_zset.specs.declared.zset_ask.ZSetAsk.{ZSetAsk}
use Rattle.mr_cmd_zset.specs.declared.zset_ask.ZSetAsk.TheVariants as ask
use Rattle.mr_zset_options.specs.declared.choices.ScoreCondition.{ScoreCondition}
use Rattle.mr_zset_options.specs.declared.choices.Comparison.{Comparison}
use Rattle.mr_cmd_shared.specs.Collections.{telling}
use Rattle.mr_cmd_shared.specs.Commands.{on_key, before}
use Rattle.mr_cmd_shared.proofs.Laws.{faithful, at_key_faithful, IsLawful}
use Rattle.mr_cmd_shared.proofs.Changing.{IsFaithfulChange, telling_faithful}
use Rattle.mr_cmd_zset.specs.Scores.{Scores, score_reply, unchanged, set_to}
use Rattle.mr_cmd_zset.specs.Adding.{is_set, with_pair, with_pairs, zadd, zincrby, set_score, out_of_range, score_or_0}
use Rattle.mr_cmd_zset.specs.Removing.{members_of as names_of, taken, zrem, take_pairs, zremrangebyrank, zremrangebyscore}
use Rattle.mr_cmd_zset.specs.Commands.{command, HasScores}
use Rattle.mr_data.proofs.Folds.{is_kept}
use Rattle.mr_cmd_zset.proofs.Changes.{AreKept, IsGrown, insert_kept, insert_grown, set_faithful, reduced_faithful, unchanged_faithful, changing_set}

-- ---- pairs one after another
module _ (only : Option ScoreCondition) (than : Option Comparison) where
  pair_kept : (p : ℤ × Bytes) (s : Scores) → AreKept s → is_kept (p.1, p.0) ≡ true → AreKept (with_pair only than p s)
  pair_kept p s kept new = elim (is_set only than (get s p.1) p.0) as (λ b. AreKept (if b then insert s p.1 p.0 else s)) [ true ↦ insert_kept s p.1 p.0 kept new | false ↦ kept ]

  pairs_kept : (ps : List (ℤ × Bytes)) (s : Scores) → AreKept s → list_all is_scored ps ≡ true → list_all fits (members_of ps) ≡ true → AreKept (with_pairs only than ps s)
  pairs_kept [] s kept scores fit = kept
  pairs_kept (p ∷ ps) s kept scores fit =
      pairs_kept ps (with_pair only than p s)
      (pair_kept p s kept (and_from (fits p.1) _ (first (fits p.1) _ fit) (first (is_scored p) _ scores)))
      (second (is_scored p) _ scores) (second (fits p.1) _ fit)

  pair_grown : (p : ℤ × Bytes) (s : Scores) → IsGrown s (with_pair only than p s)
  pair_grown p s = elim (is_set only than (get s p.1) p.0) as (λ b. IsGrown s (if b then insert s p.1 p.0 else s)) [ true ↦ insert_grown s p.1 p.0 | false ↦ λ q h. h ]

  pairs_grown : (ps : List (ℤ × Bytes)) (s : Scores) → IsGrown s (with_pairs only than ps s)
  pairs_grown [] s q h = h
  pairs_grown (p ∷ ps) s q h = pairs_grown ps (with_pair only than p s) q (pair_grown p s q h)

sum_faithful : (k x : Bytes) (n : ℤ) (s : Scores) (o : Option Entry) → fits k ≡ true → fits x ≡ true → AreKept s → held sorted_sets o ≡ Some s → IsFaithfulChange sorted_sets (set_score k x n s) s k o
sum_faithful k x n s o a b kept is = elim (is_score n) as (λ t. is_score n ≡ t → IsFaithfulChange sorted_sets (if t then set_to k (score_reply n) s (insert s x n) else unchanged out_of_range s) s k o) [
  | true ↦ λ t. set_faithful k (score_reply n) s (insert s x n) o a (insert_kept s x n kept (and_from (fits x) _ b t)) (insert_grown s x n) is
  | false ↦ λ t. unchanged_faithful out_of_range s k o
] refl

tells_faithful : (k : Bytes) (answer : Scores → Tree) (now : ℤ) (m : Dataset) → fits k ≡ true → IsLawful (on_key k (telling sorted_sets answer)) now m
tells_faithful k answer now m h =
    let c = on_key k (telling sorted_sets answer) in
    faithful c now m (and_from (fits k) true h refl) (at_key_faithful k (telling sorted_sets answer) (before c now m) (telling_faithful sorted_sets answer k (before c now m)))

pub zset_faithful : (c : ZSetAsk) (now : ℤ) (m : Dataset) → IsDataset m → HasScores c → IsTrue (list_all fits (zset_words c)) → IsLawful (command c) now m
zset_faithful (ask.ZAdd k only than reply ps) now m kept scores h = changing_set k (zadd only than k reply ps) now m kept (first (fits k) _ h) (λ s o fine is.
    set_faithful k _ s (with_pairs only than ps s) o (first (fits k) _ h) (pairs_kept only than ps s fine scores (second (fits k) _ h)) (pairs_grown only than ps s) is)
zset_faithful (ask.ZIncrBy k by x) now m kept scores h = changing_set k (zincrby k by x) now m kept (first (fits k) _ h) (λ s o fine is.
    sum_faithful k x (score_or_0 (get s x) +ℤ by) s o (first (fits k) _ h) (first (fits x) _ (second (fits k) _ h)) fine is)
zset_faithful (ask.ZRem k xs) now m kept scores h = changing_set k (zrem k xs) now m kept (first (fits k) _ h) (λ s o fine is. reduced_faithful k _ xs s o (first (fits k) _ h) fine is)
zset_faithful (ask.ZCard k) now m kept scores h = tells_faithful k _ now m (first (fits k) _ h)
zset_faithful (ask.ZCount k min max) now m kept scores h = tells_faithful k _ now m (first (fits k) _ h)
zset_faithful (ask.ZScore k x) now m kept scores h = tells_faithful k _ now m (first (fits k) _ h)
zset_faithful (ask.ZMScore k xs) now m kept scores h = tells_faithful k _ now m (first (fits k) _ h)
zset_faithful (ask.GetRank k x order) now m kept scores h = tells_faithful k _ now m (first (fits k) _ h)
zset_faithful (ask.RangeByRank k low high order reply) now m kept scores h = tells_faithful k _ now m (first (fits k) _ h)
zset_faithful (ask.RangeByScore k min max order limit reply) now m kept scores h = tells_faithful k _ now m (first (fits k) _ h)
zset_faithful (ask.TakePairs k order count) now m kept scores h = changing_set k (take_pairs k order count) now m kept (first (fits k) _ h) (λ s o fine is. reduced_faithful k _ (names_of (taken order count s)) s o (first (fits k) _ h) fine is)
zset_faithful (ask.ZRemRangeByRank k low high) now m kept scores h = changing_set k (zremrangebyrank k low high) now m kept (first (fits k) _ h) (λ s o fine is. reduced_faithful k _ (names_of (windowed (window_of low high (len s)) (pairs_of s))) s o (first (fits k) _ h) fine is)
zset_faithful (ask.ZRemRangeByScore k min max) now m kept scores h = changing_set k (zremrangebyscore k min max) now m kept (first (fits k) _ h) (λ s o fine is. reduced_faithful k _ (names_of (range_of min max s)) s o (first (fits k) _ h) fine is)
