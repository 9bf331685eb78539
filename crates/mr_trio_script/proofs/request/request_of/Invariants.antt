use Rattle.std.proofs.Common.{◌≡◌, ◌++◌, map, drop}
use Rattle.std.specs.List.{flat_map}
use Rattle.std.specs.Cow.{cow_slice_items}
use Rattle.mr_resp.specs.Spelling.{array, bulk}
use Rattle.mr_trio_script.proofs.request.request_of.Given as goal

abbrev pub invariant-loop-word : goal.invariant-loop-word
invariant-loop-word l = l.text.items ++ flat_map bulk (map cow_slice_items (drop l.word-index l.words)) ≡ array (map cow_slice_items l.words)
