use Rattle.std.proofs.Common.{◌≡◌, ◌++◌, drop}
use Rattle.std.specs.List.{flat_map}
use Rattle.mr_resp.specs.Appends.{Extends}
use Rattle.mr_resp.specs.Spelling.{bulk}
use Rattle.mr_effect.specs.Spelling.{score_words}
use Rattle.mr_effect.proofs.encoding.push_each_score.Given as goal

abbrev pub invariant-loop-pair : goal.invariant-loop-pair
invariant-loop-pair l = record {
  text : l.out.items ++ flat_map bulk (flat_map score_words (drop l.pair-index l.scores)) ≡ l.fn.out.items ++ flat_map bulk (flat_map score_words l.fn.scores);
  kept : Extends l.fn.out.items l.out.items;
}
