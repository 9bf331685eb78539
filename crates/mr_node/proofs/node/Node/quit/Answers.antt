use Rattle.std.proofs.Common.{subst, sym}
use Rattle.mr_resp.specs.Replies.{Tree, reply_text}
use Rattle.mr_node_spec.specs.ClientRows.{Ends}
use Rattle.mr_node.proofs.Rows.{quit_ends, quit_lacks}
use Rattle.mr_node.proofs.node.Node.quit.Goals as goal

pub returns-clause-client : goal.returns-clause-client
returns-clause-client c = λ u given fresh at q.
    c.dismiss.ensures.client u given fresh at (quit_lacks u q) (subst (λ (t : Tree). Ends u (reply_text t)) (sym c.done.ensures) (quit_ends u q))

pub returns-clause-open : goal.returns-clause-open
returns-clause-open c = λ t u given at q.
    c.dismiss.ensures.open t u given at (quit_lacks u q) (subst (λ (r : Tree). Ends u (reply_text r)) (sym c.done.ensures) (quit_ends u q))
