use Rattle.std.proofs.Common.{◌≡◌, ◌++◌, map, drop}
use Rattle.std.specs.Cow.{cow_slice_items}
use Rattle.std.specs.FinMap.{get}
use Rattle.mr_resp.specs.ReplyView.{view}
use Rattle.mr_cmd_hash.specs.Hashes.{value_reply}
use Rattle.mr_cmd_hash.proofs.reading.hmget.Given as goal

abbrev pub invariant-loop-field : goal.invariant-loop-field
invariant-loop-field l = map view l.replies.items ++ map value_reply (map (get l.hash) (map cow_slice_items (drop l.field-index l.fields))) ≡ map value_reply (map (get l.hash) l.fn.fields)
