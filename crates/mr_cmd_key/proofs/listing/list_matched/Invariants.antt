use Rattle.std.proofs.Common.{◌≡◌, ◌++◌, map}
use Rattle.std.specs.Prelude.{filter, option_copied}
use Rattle.std.specs.FinMap.{keys}
use Rattle.mr_resp.specs.Replies as reply
use Rattle.mr_resp.specs.ReplyView.{view}
use Rattle.mr_cmd_key.specs.Listing.{is_matched}
use Rattle.mr_cmd_key.proofs.listing.list_matched.Given as goal

abbrev pub invariant-loop-key : goal.invariant-loop-key
invariant-loop-key l = map view l.replies.items ++ map reply.bytes (filter (is_matched (option_copied l.fn.pattern)) l.key-iterator) ≡ map reply.bytes (filter (is_matched (option_copied l.fn.pattern)) (keys l.held))
