use Rattle.std.proofs.Common.{◌≡◌, ◌++◌, map}
use Rattle.std.specs.List.{flat_map}
use Rattle.std.specs.FinMap.{entries}
use Rattle.mr_resp.specs.Replies as reply
use Rattle.mr_resp.specs.ReplyView.{view}
use Rattle.mr_effect.specs.Spelling.{pair_words}
use Rattle.mr_cmd_hash.proofs.reading.pairs.Given as goal

abbrev pub invariant-loop-field : goal.invariant-loop-field
invariant-loop-field l = map view l.replies.items ++ map reply.bytes (flat_map pair_words l.field-iterator) ≡ map reply.bytes (flat_map pair_words (entries l.hash))
