-- Answered is the fault that comes first among those that the arguments of ZADD and of ranges have.
use Rattle.std.proofs.Common.{ℕ, ℤ, ◌≡◌, List, [], ◌∷◌, ◌++◌, Option, Some, None, refl}
use Rattle.std.specs.Prelude.{Result, Ok, Err}
use Rattle.std.specs.Option.{ok_or}
use Rattle.mr_bytes.specs.Number.{number_of}
use Rattle.mr_arguments.specs.FaultOrder.{counted, first_of, in_reading, answered_fault}
use Rattle.mr_arguments.specs.Pairing.{pairs_of}
use Rattle.mr_arguments.specs.Parts.{with}
use Rattle.mr_arguments.proofs.FaultPlaces.{ComesNotBefore, no_other, OnlyFault}
use Rattle.mr_arguments.specs.declared.name.Name.{Name}
use Rattle.mr_arguments.specs.declared.name.Name.TheVariants as name
use Rattle.mr_arguments.specs.declared.fault.AskFault.{AskFault}
use Rattle.mr_arguments.specs.declared.fault.AskFault.TheVariants.{Integer, Syntax, Other}
use Rattle.mr_arguments.specs.declared.fault.BadValue.TheVariants as bad
use Rattle.mr_zset_options.specs.AddOptions.{add_options, option_words, pair_words}
use Rattle.mr_cmd_zset.specs.ArgumentFaults.{add_faults, in_range_options, of_range, of_reversed, of_scores, range_faults, reversed_faults, score_range_faults, scores_and_limit}
use Rattle.mr_zset_options.specs.Parts.{bound, limit_if_any}
use Rattle.mr_zset_options.specs.RangeOptions.{no_range_options, range_options}
use Rattle.mr_cmd_zset.specs.Arguments.{add_scores, range_by_score, range_with, reversed_with, score_pairs, scores, scores_with, zadd, zrange, zrevrange}
use Rattle.mr_zset_options.specs.Scored.{scored_of}
use Rattle.mr_zset_options.proofs.OrderLemmas.{add_options_only}
use Rattle.mr_zset_options.proofs.PartLemmas.{bound_fault, limit_faults}
use Rattle.mr_zset_options.specs.declared.add_options.AddOptions.{AddOptions}
use Rattle.mr_zset_options.specs.declared.range_options.LimitWords.{LimitWords}
use Rattle.mr_zset_options.specs.declared.range_options.RangeBy.{RangeBy}
use Rattle.mr_zset_options.specs.declared.range_options.RangeBy.TheVariants.{Rank, Score}
use Rattle.mr_zset_options.specs.declared.range_options.RangeOptions.{RangeOptions}
use Rattle.mr_zset_options.specs.declared.choices.Order.{Order}
use Rattle.mr_zset_options.specs.declared.choices.Order.TheVariants.{Ascending, Descending}
use Rattle.mr_zset_options.specs.declared.choices.RangeReply.{RangeReply}
use Rattle.mr_cmd_zset.specs.declared.zset_ask.ZSetAsk.TheVariants as zset

module _ {A : Type 0} where
  two_places : (next : ℤ → ℤ → A) (o p : Option ℤ) → answered_fault (with (ok_or o Integer) (λ m. with (ok_or p Integer) (λ n. Ok (next m n)))) ≡ first_of (in_reading (ok_or o Integer) ++ in_reading (ok_or p Integer))
  two_places next None None = refl
  two_places next None (Some n) = refl
  two_places next (Some m) None = refl
  two_places next (Some m) (Some n) = refl

  -- ---- bounds and LIMIT, in both orders of the bounds
  up_limited : {B L : Type 0} (next : B → B → L → A) (r q : Result B AskFault) (l : Result L AskFault) → OnlyFault (Other bad.Bound) r → OnlyFault (Other bad.Bound) q → OnlyFault Integer l
      → answered_fault (with l (λ part. with {A = B × B} (with r (λ min. with q (λ max. Ok (min, max)))) (λ ends. Ok (next ends.0 ends.1 part)))) ≡ first_of (in_reading r ++ in_reading q ++ in_reading l)
  up_limited next (Ok x) (Ok y) (Ok p) h k i = refl
  up_limited next (Ok x) (Err g) (Ok p) h k i = refl
  up_limited next (Err f) (Ok y) (Ok p) h k i = refl
  up_limited next (Err f) (Err g) (Ok p) h k i = rw (h, k) refl
  up_limited next (Ok x) (Ok y) (Err e) h k i = refl
  up_limited next (Ok x) (Err g) (Err e) h k i = rw (k, i) refl
  up_limited next (Err f) (Ok y) (Err e) h k i = rw (h, i) refl
  up_limited next (Err f) (Err g) (Err e) h k i = rw (h, k, i) refl

  down_limited : {B L : Type 0} (next : B → B → L → A) (r q : Result B AskFault) (l : Result L AskFault) → OnlyFault (Other bad.Bound) r → OnlyFault (Other bad.Bound) q → OnlyFault Integer l
      → answered_fault (with l (λ part. with {A = B × B} (with q (λ min. with r (λ max. Ok (min, max)))) (λ ends. Ok (next ends.0 ends.1 part)))) ≡ first_of (in_reading r ++ in_reading q ++ in_reading l)
  down_limited next (Ok x) (Ok y) (Ok p) h k i = refl
  down_limited next (Ok x) (Err g) (Ok p) h k i = refl
  down_limited next (Err f) (Ok y) (Ok p) h k i = refl
  down_limited next (Err f) (Err g) (Ok p) h k i = rw (h, k) refl
  down_limited next (Ok x) (Ok y) (Err e) h k i = refl
  down_limited next (Ok x) (Err g) (Err e) h k i = rw (k, i) refl
  down_limited next (Err f) (Ok y) (Err e) h k i = rw (h, i) refl
  down_limited next (Err f) (Err g) (Err e) h k i = rw (h, k, i) refl

  -- .. and before
  front_read_first : {X Y : Type 0} (next : X → Y → A) (r : Result X AskFault) (q : Result Y AskFault) → OnlyFault Syntax r → ComesNotBefore 3 q
      → answered_fault (with r (λ x. with q (λ y. Ok (next x y)))) ≡ first_of (in_reading r ++ in_reading q)
  front_read_first next (Ok x) (Ok y) h k = refl
  front_read_first next (Ok x) (Err g) h k = refl
  front_read_first next (Err f) (Ok y) h k = refl
  front_read_first next (Err f) (Err g) h k = rw (h, k) refl

scores_fault : (ws : List (List ℕ)) → ComesNotBefore 3 (score_pairs ws)
scores_fault [] = refl
scores_fault (w ∷ ws) = elim (pairs_of (w ∷ ws)) as (λ o. ComesNotBefore 3 (with (ok_or o Syntax) (λ ps. ok_or (scored_of ps) Integer))) [
  | None ↦ refl
  | Some ps ↦ elim (scored_of ps) as (λ o. ComesNotBefore 3 (ok_or o Integer)) [ None ↦ refl | Some xs ↦ tt ]
]

add_first : (k : List ℕ) (ws : List (List ℕ)) → answered_fault (add_scores k ws) ≡ first_of (in_reading (add_options (option_words ws)) ++ in_reading (score_pairs (pair_words ws)))
unfolding add_scores
add_first k ws =
    front_read_first (λ (options : AddOptions) pairs. zset.ZAdd k options.condition options.comparison options.reply pairs) (add_options (option_words ws)) (score_pairs (pair_words ws))
    (no_other (add_options (option_words ws)) (add_options_only (option_words ws))) (scores_fault (pair_words ws))

-- ---- ranges
limited_first : (o : Order) (k a b : List ℕ) (l : Option LimitWords) (r : RangeReply) → answered_fault (scores k a b o l r) ≡ first_of (scores_and_limit a b l)
limited_first Ascending k a b l r = up_limited (λ min max part. zset.RangeByScore k min max Ascending part r) (bound a) (bound b) (limit_if_any l) (bound_fault a) (bound_fault b) (limit_faults l)
limited_first Descending k a b l r = down_limited (λ min max part. zset.RangeByScore k min max Descending part r) (bound a) (bound b) (limit_if_any l) (bound_fault a) (bound_fault b) (limit_faults l)

range_cases : (k a b : List ℕ) (by : RangeBy) (o : Order) (l : Option LimitWords) (r : RangeReply) → answered_fault (range_with k a b by o l r) ≡ first_of (of_range a b by o l)
range_cases k a b Rank o None r = two_places (λ m n. zset.RangeByRank k m n o r) (number_of a) (number_of b)
range_cases k a b Rank o (Some l) r = refl
range_cases k a b Score o l r = limited_first o k a b l r

range_first : (k a b : List ℕ) (q : Result RangeOptions AskFault)
    → answered_fault (with q (λ options. range_with k a b options.by options.order options.limit options.reply)) ≡ first_of (in_range_options (of_range a b) q)
range_first k a b (Ok s) = range_cases k a b s.by s.order s.limit s.reply
range_first k a b (Err f) = refl

reversed_cases : (k a b : List ℕ) (by : RangeBy) (o : Order) (l : Option LimitWords) (r : RangeReply) → answered_fault (reversed_with k a b by o l r) ≡ first_of (of_reversed a b by o l)
reversed_cases k a b Rank Ascending None r = two_places (λ m n. zset.RangeByRank k m n Descending r) (number_of a) (number_of b)
reversed_cases k a b Rank Ascending (Some l) r = refl
reversed_cases k a b Rank Descending l r = refl
reversed_cases k a b Score o l r = refl

reversed_first : (k a b : List ℕ) (q : Result RangeOptions AskFault)
    → answered_fault (with q (λ options. reversed_with k a b options.by options.order options.limit options.reply)) ≡ first_of (in_range_options (of_reversed a b) q)
reversed_first k a b (Ok s) = reversed_cases k a b s.by s.order s.limit s.reply
reversed_first k a b (Err f) = refl

scores_cases : (d : Order) (k a b : List ℕ) (by : RangeBy) (o : Order) (l : Option LimitWords) (r : RangeReply) → answered_fault (scores_with d k a b by o l r) ≡ first_of (of_scores a b by o l)
scores_cases d k a b Rank Ascending l r = limited_first d k a b l r
scores_cases d k a b Rank Descending l r = refl
scores_cases d k a b Score o l r = refl

scores_first : (d : Order) (k a b : List ℕ) (q : Result RangeOptions AskFault)
    → answered_fault (with q (λ options. scores_with d k a b options.by options.order options.limit options.reply)) ≡ first_of (in_range_options (of_scores a b) q)
scores_first d k a b (Ok s) = scores_cases d k a b s.by s.order s.limit s.reply
scores_first d k a b (Err f) = refl

-- ---- whole commands
pub zadd_first : (ws : List (List ℕ)) → answered_fault (zadd ws) ≡ first_of (counted name.ZAdd (add_faults ws))
zadd_first (k ∷ a ∷ b ∷ ws) = add_first k (a ∷ b ∷ ws)
zadd_first _ = refl

pub zrange_first : (ws : List (List ℕ)) → answered_fault (zrange ws) ≡ first_of (counted name.ZRange (range_faults ws))
zrange_first (k ∷ a ∷ b ∷ ws) = range_first k a b (range_options no_range_options ws)
zrange_first _ = refl

pub zrevrange_first : (ws : List (List ℕ)) → answered_fault (zrevrange ws) ≡ first_of (counted name.ZRevRange (reversed_faults ws))
zrevrange_first (k ∷ a ∷ b ∷ ws) = reversed_first k a b (range_options no_range_options ws)
zrevrange_first _ = refl

pub by_score_first : (n : Name) (d : Order) (ws : List (List ℕ)) → answered_fault (range_by_score n d ws) ≡ first_of (counted n (score_range_faults ws))
by_score_first n d (k ∷ a ∷ b ∷ ws) = scores_first d k a b (range_options no_range_options ws)
by_score_first n d _ = refl
