use Rattle.std.proofs.Common.{◌≡◌, not, length, ap, subst, ◌∙◌}
use Rattle.std.proofs.lemmas.Result.{IfOk-weaker}
use Rattle.mr_info.specs.Info.{info_text}
use Rattle.mr_links.specs.Links.{Links}
use Rattle.mr_node_links.specs.State.{EndState}
use Rattle.mr_node_links.specs.Replicas.{Lists}
use Rattle.mr_node_spec.specs.State.{NodeState}
use Rattle.mr_node.proofs.Telling.{info_told}
use Rattle.mr_node.proofs.node.Node.info_text.Goals as goal

pub returns : goal.returns
returns c =
    let a = c.args.self.now in
    let names = c.replicas.result.now in
    let ends : c.ends.result.now ≡ a.ends = c.ends.ensures.ends ∙ ap (λ (z : NodeState). z.ends) c.self.view_is in
    let master : c.master.result ≡ a.core.master = c.master.ensures ∙ ap (λ (z : NodeState). z.core.master) c.self.view_is in
    let lineage : c.lineage.result.now ≡ a.core.lineage = c.lineage.ensures ∙ ap (λ (z : NodeState). z.core.lineage) c.self.view_is in
    let listed : Lists names a.ends.open_links = subst (λ (z : Links EndState). Lists names z.open_links) ends c.replicas.ensures in
    IfOk-weaker c.info.result _ _ (λ text told. info_told a text.items names listed (told ∙ (λ i. info_text (not (master i)) (length names) (lineage i)))) c.info.ensures
