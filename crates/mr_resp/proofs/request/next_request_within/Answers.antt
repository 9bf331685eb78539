use Rattle.mr_resp.proofs.Resuming.{fresh_agrees}
use Rattle.mr_resp.proofs.request.next_request_within.Goals as goal

pub next_request_from-requires : goal.next_request_from-requires
next_request_from-requires c = fresh_agrees c.args.limits.now c.new-progress.result c.args.input.now c.new-progress.ensures
