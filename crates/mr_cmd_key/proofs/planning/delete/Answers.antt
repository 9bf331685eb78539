use Rattle.std.proofs.Common.{rules, ◌≡◌, ◌∙◌}
use Rattle.mr_resp.specs.Replies as reply
use Rattle.mr_resp.specs.ReplyView.{view}
use Rattle.mr_cmd_key.proofs.PlanLemmas.{del_plans}
use Rattle.mr_cmd_key.proofs.planning.delete.Goals as goal

pub returns : goal.returns
returns c =
    let replied : view c.integer.result ≡ reply.int c.in_ok-count.count = c.integer.ensures ∙ search rules in
    rw replied (del_plans _ _ _ _ _ _ _ c.in_ok-push_dels.ensures.dels c.in_ok-count.ensures.count c.in_ok-count.ensures.dels)
