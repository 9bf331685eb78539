use Rattle.std.proofs.Common.{◌≡◌, ◌++◌, map}
use Rattle.std.specs.Prelude.{filter, option_copied}
use Rattle.mr_resp.specs.Replies as reply
use Rattle.mr_resp.specs.ReplyView.{view}
use Rattle.mr_cmd_key.specs.Listing.{is_listed_at, listed_at}
use Rattle.mr_cmd_key.proofs.listing.list_seen.Given as goal

abbrev pub invariant-loop-key : goal.invariant-loop-key
invariant-loop-key l = map view l.replies.items ++ map reply.bytes (filter (is_listed_at l.fn.given.now (option_copied l.fn.filter.pattern) l.fn.filter.kind l.held) l.key-iterator) ≡ map reply.bytes (listed_at l.fn.given.now (option_copied l.fn.filter.pattern) l.fn.filter.kind l.held)
