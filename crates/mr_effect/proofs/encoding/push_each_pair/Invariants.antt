use Rattle.std.proofs.Common.{◌≡◌, ◌++◌, drop}
use Rattle.std.specs.List.{flat_map}
use Rattle.mr_resp.specs.Appends.{Extends}
use Rattle.mr_resp.specs.Spelling.{bulk}
use Rattle.mr_effect.specs.Spelling.{pair_words}
use Rattle.mr_effect.proofs.encoding.push_each_pair.Given as goal

abbrev pub invariant-loop-pair : goal.invariant-loop-pair
invariant-loop-pair l = record {
  text : l.out.items ++ flat_map bulk (flat_map pair_words (drop l.pair-index l.pairs)) ≡ l.fn.out.items ++ flat_map bulk (flat_map pair_words l.fn.pairs);
  kept : Extends l.fn.out.items l.out.items;
}
