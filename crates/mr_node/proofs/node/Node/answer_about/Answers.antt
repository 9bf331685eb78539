use Rattle.std.proofs.Common.{◌≡◌, ap, subst, ◌∙◌}
use Rattle.mr_links.specs.Links.{Links}
use Rattle.mr_node_links.specs.State.{EndState}
use Rattle.mr_node_links.specs.Replicas.{Lists}
use Rattle.mr_node_spec.specs.State.{NodeState}
use Rattle.mr_node.proofs.Telling.{info_answered, nothing_answered}
use Rattle.mr_node.proofs.node.Node.answer_about.Goals as goal

pub returns-in_ok-info_text-in-Replication : goal.returns-in_ok-info_text-in-Replication
returns-in_ok-info_text-in-Replication c = info_answered c.args.self.now c.args.question c.in_ok-info_text-in-Replication.field-0 c.in-Replication.is c.in_ok-info_text-in-Replication.ensures

pub returns-in-OtherSection : goal.returns-in-OtherSection
returns-in-OtherSection c =
    let ends : c.ends.result.now ≡ c.args.self.now.ends = c.ends.ensures.ends ∙ ap (λ (z : NodeState). z.ends) c.self.view_is in
    nothing_answered c.args.self.now c.args.question c.new.result c.replicas.result.now c.in-OtherSection.is
    (subst (λ (z : Links EndState). Lists c.replicas.result.now z.open_links) ends c.replicas.ensures) c.new.ensures.items
