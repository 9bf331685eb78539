use Rattle.std.proofs.Common.{◌≡◌, map, take}
use Rattle.std.specs.Cow.{cow_slice_items}
use Rattle.mr_resp.specs.ReplyView.{view}
use Rattle.mr_cmd_zset.specs.Telling.{found_score}
use Rattle.mr_cmd_zset.proofs.telling.zmscore.Given as goal

abbrev pub invariant-loop-word : goal.invariant-loop-word
invariant-loop-word l = map view l.replies.items ≡ map (found_score l.set) (map cow_slice_items (take l.word-index l.words))
