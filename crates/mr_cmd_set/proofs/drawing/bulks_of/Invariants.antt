use Rattle.std.proofs.Common.{◌≡◌, take, map}
use Rattle.mr_resp.specs.Replies as reply
use Rattle.mr_resp.specs.ReplyView.{view}
use Rattle.mr_cmd_set.specs.Grouping.{lent}
use Rattle.mr_cmd_set.proofs.drawing.bulks_of.Given as goal

abbrev pub invariant-loop-member : goal.invariant-loop-member
invariant-loop-member l = map view l.replies.items ≡ map reply.bytes (lent (take l.member-index l.drawn))
