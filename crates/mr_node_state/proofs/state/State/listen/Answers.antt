use Rattle.std.proofs.Common.{◌∙◌, ap, subst, sym}
use Rattle.std.specs.Prelude.{Err, Ok, Result, Some}
use Rattle.mr_links.specs.declared.link_id.LinkId.{LinkId}
use Rattle.mr_replication.specs.Rows.{Listens}
use Rattle.mr_replication.specs.declared.upstream.UpstreamFault.{UpstreamFault}
use Rattle.mr_replication.specs.declared.upstream.UpstreamStep.{UpstreamStep}
use Rattle.mr_node_links.specs.State.{EndState}
use Rattle.mr_links.specs.Links.{Links}
use Rattle.mr_node_spec.specs.State.{IsNode}
use Rattle.mr_node_spec.specs.UpstreamRows.{ends_behind}
use Rattle.mr_node_state.specs.Listening.{Heard}
use Rattle.mr_node_state.specs.Parts.{node_of}
use Rattle.mr_node_state.proofs.Listening.{heard_of, listened_node, same_name}
use Rattle.mr_node_state.proofs.Nodes.{has_followed}
use Rattle.mr_node_state.proofs.state.State.listen.Goals as goal

pub settle-requires : goal.settle-requires
settle-requires c = has_followed c.self.inside.ends c.self.inside.course.follow (Some c.in-Some.name) c.self.invariant.followed (sym c.in-Some.is ∙ c.name.ensures.value)

pub invariant_of-self-in-Ok : goal.invariant_of-self-in-Ok
invariant_of-self-in-Ok c =
    let i = c.self.inside in
    let l = c.in-Ok.ensures in
    subst (λ (z : Links EndState). IsNode (node_of i.up i.port i.upstream i.mark c.listen.new.course c.listen.new.self z))
    (sym (c.settle.ensures ∙ ap (λ (n : LinkId). ends_behind c.in-Ok.step n i.ends) (same_name i.course c.in-Some.name l.name l.follow (sym c.name.ensures.value ∙ c.in-Some.is) l.found)))
    (listened_node i.up i.port i.upstream i.mark i.course c.listen.new.course i.held c.listen.new.self i.ends c.listen.new.out.items (Ok c.in-Ok.step) c.self.invariant c.name.ensures.course l)

pub returns-in-Err-Memory : goal.returns-in-Err-Memory
returns-in-Err-Memory c =
    let i = c.self.inside in
    let l = subst (λ (r : Result UpstreamStep UpstreamFault). Listens i.course i.held r c.listen.new.course c.listen.new.self c.listen.new.out.items) (c.in-Err-Memory.is ∙ ap Err c.in-Err-Memory.field-0-is) c.listen.ensures in
    heard_of i.up i.port i.upstream i.mark i.course c.listen.new.course i.held c.listen.new.self i.ends c.listen.new.out.items _ c.args.self.now c.self.view_is l

pub returns-in-Err-Stopped : goal.returns-in-Err-Stopped
returns-in-Err-Stopped c =
    let i = c.self.inside in
    let l = subst (λ (r : Result UpstreamStep UpstreamFault). Listens i.course i.held r c.listen.new.course c.listen.new.self c.listen.new.out.items) (c.in-Err-Stopped.is ∙ ap Err c.in-Err-Stopped.field-0-is) c.listen.ensures in
    heard_of i.up i.port i.upstream i.mark i.course c.listen.new.course i.held c.listen.new.self i.ends c.listen.new.out.items _ c.args.self.now c.self.view_is l

pub returns-in-Ok : goal.returns-in-Ok
returns-in-Ok c =
    let i = c.self.inside in
    let l = c.in-Ok.ensures in
    subst (λ (z : Links EndState). Heard c.args.self.now (Ok c.in-Ok.step) (node_of i.up i.port i.upstream i.mark c.listen.new.course c.listen.new.self z) c.listen.new.out.items)
    (sym (c.settle.ensures ∙ ap (λ (n : LinkId). ends_behind c.in-Ok.step n i.ends) (same_name i.course c.in-Some.name l.name l.follow (sym c.name.ensures.value ∙ c.in-Some.is) l.found)))
    (heard_of i.up i.port i.upstream i.mark i.course c.listen.new.course i.held c.listen.new.self i.ends c.listen.new.out.items (Ok c.in-Ok.step) c.args.self.now c.self.view_is l)
