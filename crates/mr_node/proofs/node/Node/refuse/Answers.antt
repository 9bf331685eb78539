use Rattle.std.proofs.Common.{refl, subst, sym}
use Rattle.mr_resp.specs.Replies.{Tree, reply_text}
use Rattle.mr_node_spec.specs.ClientRows.{Ends, MayLack}
use Rattle.mr_node.proofs.Rows.{doomed_ends}
use Rattle.mr_node.proofs.node.Node.refuse.Goals as goal

pub returns-in_default-clause-client : goal.returns-in_default-clause-client
returns-in_default-clause-client c = λ u given fresh at d. (MayLack.doomed c.args.fault d, refl)

pub returns-in_default-clause-open : goal.returns-in_default-clause-open
returns-in_default-clause-open c = λ t u given at d. (MayLack.doomed c.args.fault d, refl)

pub returns-clause-client : goal.returns-clause-client
returns-clause-client c = λ u given fresh at d.
    c.dismiss.ensures.client u given fresh at (MayLack.doomed c.args.fault d) (subst (λ (t : Tree). Ends u (reply_text t)) (sym c.in-Ok.ensures.text) (doomed_ends u c.args.fault d))

pub returns-clause-open : goal.returns-clause-open
returns-clause-open c = λ t u given at d.
    c.dismiss.ensures.open t u given at (MayLack.doomed c.args.fault d) (subst (λ (r : Tree). Ends u (reply_text r)) (sym c.in-Ok.ensures.text) (doomed_ends u c.args.fault d))
