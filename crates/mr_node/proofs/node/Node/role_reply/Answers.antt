use Rattle.std.proofs.Common.{◌≡◌, ℕ, None, Some, true, false, length, sym, ap, subst, ◌∙◌, rules}
use Rattle.std.proofs.lemmas.Result.{IfOk-weaker}
use Rattle.mr_info.specs.Roles.{master_reply, replica_reply}
use Rattle.mr_links.specs.Links.{Links}
use Rattle.mr_node_links.specs.State.{EndState}
use Rattle.mr_node_links.specs.Replicas.{Lists}
use Rattle.mr_node_spec.specs.State.{NodeState}
use Rattle.mr_resp.specs.ReplyView.{view}
use Rattle.mr_node.specs.Parts.{ListsReplicas}
use Rattle.mr_node.proofs.Telling.{master_answered, replica_answered}
use Rattle.mr_node.proofs.node.Node.role_reply.Goals as goal

pub returns-then-master : goal.returns-then-master
returns-then-master c =
    let a = c.args.self.now in
    let replicas = c.as_slice.result.now in
    let master : a.core.master ≡ true = search rules in
    let offset : c.stream-stream.result.now.offset ≡ a.core.lineage.stream.offset = search rules in
    let listed : ListsReplicas a (length replicas) = subst (λ z. ListsReplicas a (length z)) (sym c.as_slice.ensures.value) c.in_ok-replicas.ensures in
    IfOk-weaker c.master_role.result _ _ (λ reply told. master_answered a (view reply) replicas master listed (told ∙ ap (λ (n : ℕ). master_reply n replicas) offset)) c.master_role.ensures

pub returns-in-None : goal.returns-in-None
returns-in-None c =
    let a = c.args.self.now in
    let names = c.replicas.result.now in
    let replica : a.core.master ≡ false = search rules in
    let offset : c.stream-stream.result.now.offset ≡ a.core.lineage.stream.offset = search rules in
    let ends : c.ends.result.now ≡ a.ends = c.ends.ensures.ends ∙ ap (λ (z : NodeState). z.ends) c.self.view_is in
    let listed : Lists names a.ends.open_links = subst (λ (z : Links EndState). Lists names z.open_links) ends c.replicas.ensures in
    let nobody : None ≡ a.core.upstream = c.in-None.ensures ∙ ap (λ (z : NodeState). z.core.upstream) c.self.view_is in
    IfOk-weaker c.replica_role.result _ _ (λ reply told. replica_answered a (view reply) names c.stream-stream.result.now.offset None c.master_link.result replica listed offset nobody c.master_link.ensures told) c.replica_role.ensures

pub returns-in-Some : goal.returns-in-Some
returns-in-Some c =
    let a = c.args.self.now in
    let names = c.replicas.result.now in
    let replica : a.core.master ≡ false = search rules in
    let offset : c.stream-stream.result.now.offset ≡ a.core.lineage.stream.offset = search rules in
    let ends : c.ends.result.now ≡ a.ends = c.ends.ensures.ends ∙ ap (λ (z : NodeState). z.ends) c.self.view_is in
    let listed : Lists names a.ends.open_links = subst (λ (z : Links EndState). Lists names z.open_links) ends c.replicas.ensures in
    let somebody : Some c.in-Some.address.now ≡ a.core.upstream = c.in-Some.ensures ∙ ap (λ (z : NodeState). z.core.upstream) c.self.view_is in
    IfOk-weaker c.replica_role-in-Some.result _ _ (λ reply told. replica_answered a (view reply) names c.stream-stream.result.now.offset (Some c.in-Some.address.now) c.master_link-in-Some.result replica listed offset somebody c.master_link-in-Some.ensures
    (told ∙ (λ i. replica_reply c.stream-stream.result.now.offset (c.host.ensures i) (c.port.ensures i) c.master_link-in-Some.result))) c.replica_role-in-Some.ensures
