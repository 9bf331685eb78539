use Rattle.std.proofs.Common.{◌∙◌, ap, subst, sym}
use Rattle.mr_node_links.specs.State.{without}
use Rattle.mr_node_spec.specs.State.{IsNode}
use Rattle.mr_node_state.specs.Parts.{node_of}
use Rattle.mr_node_state.specs.Listening.{is_name}
use Rattle.mr_node_state.specs.declared.state.State.TheInside.{Inside}
use Rattle.mr_node_state.proofs.Changes.{leaves_node, stays_node}
use Rattle.mr_node_state.proofs.state.State.close.Goals.{then-is_name, else-is_name}
use Rattle.mr_node_state.proofs.state.State.close.Goals as goal

pub invariant_of-self : goal.invariant_of-self
invariant_of-self c =
    let i = c.self.inside in
    let test = ap (λ n. is_name n c.args.link) (sym c.name.ensures.value) ∙ sym c.is_name.ensures in
    elim c.if-is_name.branch [
      | then-is_name w ↦ subst (λ (s : Inside). IsNode (node_of s.up s.port s.upstream s.mark s.course s.held c.remove.new.self)) (sym w.self-inside-is)
          (leaves_node i.up i.port i.upstream i.mark i.course i.held i.ends c.self.invariant c.args.link w.leave.new.self c.remove.new.self (test ∙ w.if-is_name.true) w.leave.ensures
          (c.remove.ensures ∙ ap (λ (s : Inside). without s.ends c.args.link) w.self-inside-is))
      | else-is_name w ↦ subst (λ (s : Inside). IsNode (node_of s.up s.port s.upstream s.mark s.course s.held c.remove.new.self)) (sym w.self-inside-is)
          (stays_node i.up i.port i.upstream i.mark i.course i.held i.ends c.self.invariant c.args.link c.remove.new.self (test ∙ w.if-is_name.false)
          (c.remove.ensures ∙ ap (λ (s : Inside). without s.ends c.args.link) w.self-inside-is))
    ]
