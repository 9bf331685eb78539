use Rattle.std.proofs.Common.{◌≡◌}
use Rattle.std.specs.Prelude.{map}
use Rattle.mr_resp.specs.Replies as reply
use Rattle.mr_resp.specs.ReplyView.{view}
use Rattle.mr_cmd_list.specs.Pops.{taken_items}
use Rattle.mr_cmd_list.proofs.pops.taken.Given as goal

abbrev pub invariant-loop-i : goal.invariant-loop-i
invariant-loop-i l = map view l.replies.items ≡ map reply.bytes (taken_items l.end l.i l.list)
