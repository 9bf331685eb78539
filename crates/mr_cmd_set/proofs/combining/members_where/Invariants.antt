use Rattle.std.proofs.Common.{◌≡◌, ◌++◌, map}
use Rattle.std.specs.Prelude.{filter}
use Rattle.std.specs.FinMap.{keys}
use Rattle.mr_resp.specs.Replies as reply
use Rattle.mr_resp.specs.ReplyView.{view}
use Rattle.mr_cmd_set.specs.Grouping.{is_wanted}
use Rattle.mr_cmd_set.proofs.combining.members_where.Given as goal

abbrev pub invariant-loop-member : goal.invariant-loop-member
invariant-loop-member l = map view l.replies.items ++ map reply.bytes (filter (is_wanted l.wanted l.others) l.member-iterator) ≡ map reply.bytes (filter (is_wanted l.wanted l.others) (keys l.set))
