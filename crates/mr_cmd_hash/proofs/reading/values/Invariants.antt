use Rattle.std.proofs.Common.{◌≡◌, ◌++◌, map}
use Rattle.std.specs.FinMap.{entries}
use Rattle.mr_resp.specs.Replies as reply
use Rattle.mr_resp.specs.ReplyView.{view}
use Rattle.mr_cmd_hash.proofs.reading.values.Given as goal

abbrev pub invariant-loop-value : goal.invariant-loop-value
invariant-loop-value l = map view l.replies.items ++ map reply.bytes (map (λ e. e.1) l.value-iterator) ≡ map reply.bytes (map (λ e. e.1) (entries l.hash))
