use Rattle.std.proofs.Common.{subst, sym}
use Rattle.mr_node_links.specs.Parts.{IsClient}
use Rattle.mr_node_spec.specs.State.{NodeState}
use Rattle.mr_node_state.specs.Parts.{node_of}
use Rattle.mr_node_state.proofs.Waiting.{put_back_node}
use Rattle.mr_node_state.proofs.state.State.put_back.Goals as goal

pub invariant_of-self : goal.invariant_of-self
invariant_of-self c =
    let i = c.self.inside in
    put_back_node (node_of i.up i.port i.upstream i.mark i.course i.held i.ends) c.args.link c.args.transaction c.put_back.new.self c.self.invariant (subst (λ (s : NodeState). IsClient s.ends c.args.link 0) (sym c.self.view_is) c.requires) c.put_back.ensures
