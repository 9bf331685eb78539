use Rattle.std.proofs.Common.{◌≡◌, map, take}
use Rattle.std.specs.FinMap.{contains_key}
use Rattle.std.specs.Cow.{cow_slice_items}
use Rattle.mr_resp.specs.ReplyView.{view}
use Rattle.mr_cmd_set.specs.Sets.{flag}
use Rattle.mr_cmd_set.proofs.telling.smismember.Given as goal

abbrev pub invariant-loop-word : goal.invariant-loop-word
invariant-loop-word l = map view l.replies.items ≡ map (λ x. flag (contains_key l.set x)) (map cow_slice_items (take l.word-index l.words))
