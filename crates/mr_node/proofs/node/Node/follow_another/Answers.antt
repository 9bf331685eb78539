use Rattle.std.proofs.Common.{◌≡◌, false, refl, Some, subst, sym, rules}
use Rattle.mr_resp.specs.Replies.{Tree}
use Rattle.mr_cmd_node.specs.declared.node_ask.NodeAsk.TheVariants as node
use Rattle.mr_node_spec.specs.Served.{says}
use Rattle.mr_node.specs.Parts.{Keeps}
use Rattle.mr_node.proofs.Asking.{keeps_replica}
use Rattle.mr_node.proofs.node.Node.follow_another.Goals as goal

pub returns-then-is_followed : goal.returns-then-is_followed
returns-then-is_followed c = λ u given fresh at w.
    let a = c.args.self.now in
    let follows : a.core.master ≡ false = search rules in
    let same : a.core.upstream ≡ Some c.args.address = search rules in
    c.say.ensures u given fresh at
    (subst (λ (t : Tree). Keeps a.core u c.args.used (says t)) (sym c.done.ensures) (keeps_replica a.core u c.args.used (node.ReplicaOf c.args.address.host c.args.address.port) w c.args.address refl follows same))
