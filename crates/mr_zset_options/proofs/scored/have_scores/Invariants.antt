use Rattle.std.proofs.Common.{◌≡◌}
use Rattle.mr_zset_options.specs.Scored.{have_scores}
use Rattle.mr_zset_options.proofs.scored.have_scores.Given as goal

-- what the pairs that are left say
abbrev pub invariant-loop-score : goal.invariant-loop-score
invariant-loop-score l =
    (goal.iterator-loop-score).can_next l.score-iterator ×
    (goal.iterator-loop-score).is_finite l.score-iterator ×
    (have_scores l.score-iterator ≡ have_scores l.fn.pairs)
