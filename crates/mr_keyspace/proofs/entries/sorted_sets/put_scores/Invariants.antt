use Rattle.std.proofs.Common.{◌≡◌, drop}
use Rattle.std.specs.Prelude.{IsTrue}
use Rattle.std.specs.List.{list_all}
use Rattle.mr_effect.specs.Effects.{has_score}
use Rattle.mr_keyspace.specs.Collections.{with_scores}
use Rattle.mr_keyspace.proofs.entries.sorted_sets.put_scores.Given as goal

abbrev pub invariant-loop-pair : goal.invariant-loop-pair
invariant-loop-pair l = record {
  folded : with_scores (drop l.pair-index l.scores) l.set ≡ with_scores l.fn.scores l.fn.set;
  within : IsTrue (list_all has_score (drop l.pair-index l.scores));
}
