use Rattle.std.proofs.Common.{subst}
use Rattle.std.specs.Prelude.{ℕ, ℤ, List, IsTrue}
use Rattle.std.specs.List.{list_all}
use Rattle.mr_zset_options.specs.Scored.{is_scored}
use Rattle.mr_zset_options.proofs.ScoredLemmas.{all_scores}
use Rattle.mr_zset_options.proofs.scored.ScoredMembers.iter.Goals as goal

pub returns-clause-scores : goal.returns-clause-scores
returns-clause-scores c = subst (λ (xs : List (ℤ × List ℕ)). IsTrue (list_all is_scored xs)) c.self.view_is (all_scores _ c.self.invariant)
