use Rattle.std.proofs.Common.{◌≡◌, ◌≢◌, [], Some, ap, subst, ◌∙◌, rules}
use Rattle.std.specs.Prelude.{Ok, Err}
use Rattle.mr_replication.specs.declared.upstream.UpstreamFault.TheVariants as fault
use Rattle.mr_replication.specs.declared.upstream.UpstreamStep.TheVariants as outcome
use Rattle.mr_node_output.specs.Outs.{OutsState, no_outs}
use Rattle.mr_node_spec.specs.State.{NodeState}
use Rattle.mr_node_state.specs.Listening.{Heard}
use Rattle.mr_node.proofs.Following.{hears_of, lacks_of, spends_of, waits_of}
use Rattle.mr_node.proofs.node.Node.follow.Goals as goal

pub returns-in-Err-Memory : goal.returns-in-Err-Memory
returns-in-Err-Memory c =
    let same : c.self.inside.state ≡ c.args.self.now = c.self.view_is in
    lacks_of c.args.self.now c.listen.new.self c.args.link c.listen.new.out.items c.requires.followed
    (subst (λ (z : NodeState). Heard z (Err fault.Memory) c.listen.new.self c.listen.new.out.items) same (rw c.in-Err-Memory.field-0-is at c.in-Err-Memory.ensures))

pub returns-in-Err-Stopped : goal.returns-in-Err-Stopped
returns-in-Err-Stopped c =
    let same : c.self.inside.state ≡ c.args.self.now = c.self.view_is in
    spends_of c.args.self.now c.listen.new.self c.args.link c.listen.new.out.items c.requires.followed
    (subst (λ (z : NodeState). Heard z (Err fault.Stopped) c.listen.new.self c.listen.new.out.items) same (rw c.in-Err-Stopped.field-0-is at c.in-Err-Stopped.ensures))

pub returns-in-Ok-Idle : goal.returns-in-Ok-Idle
returns-in-Ok-Idle c =
    let same : c.self.inside.state ≡ c.args.self.now = c.self.view_is in
    waits_of c.args.self.now c.listen.new.self c.args.link c.listen.new.out.items c.requires.followed c.requires.up
    (subst (λ (z : NodeState). Heard z (Ok outcome.Idle) c.listen.new.self c.listen.new.out.items) same (rw c.in-Ok-Idle.field-0-is at c.in-Ok-Idle.ensures))

pub returns : goal.returns
returns c =
    let same : c.self.inside.state ≡ c.args.self.now = c.self.view_is in
    let other : c.in-Ok.step ≢ outcome.Idle = search rules in
    let empty : c.take_room-told.new.self ≡ record no_outs { link = Some c.args.link } = c.take_room-told.ensures.rest ∙ ap (λ (z : OutsState). record z { grown = []; appended = [] }) c.requires.begun in (
      c.in-Ok.step,
      other,
      hears_of c.args.self.now c.listen.new.self c.args.link c.listen.new.out.items c.requires.followed c.in-Ok.step c.carry.new.outs c.requires.up
          (subst (λ (z : NodeState). Heard z (Ok c.in-Ok.step) c.listen.new.self c.listen.new.out.items) same c.in-Ok.ensures) (c.carry.ensures c.args.link empty),
    )
