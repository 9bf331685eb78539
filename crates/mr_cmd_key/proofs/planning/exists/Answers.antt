use Rattle.std.proofs.Common.{rules, ◌≡◌, pos}
use Rattle.mr_resp.specs.Replies as reply
use Rattle.mr_resp.specs.ReplyView.{view}
use Rattle.mr_cmd_key.proofs.PlanLemmas.{exists_plans}
use Rattle.mr_cmd_key.proofs.planning.exists.Goals as goal

pub returns : goal.returns
returns c =
    let replied : view c.count.result ≡ reply.int (pos c.count_present-present.result) = search rules in
    rw replied (exists_plans _ _ _ _ _ _ c.in_ok-push_dels.ensures.dels (search rules))
