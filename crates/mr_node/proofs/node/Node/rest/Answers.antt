use Rattle.std.proofs.Common.{rules, ◌≡◌, ℤ, Option, Some, refl, sym, subst, ap, to_z, of_z, w64, ◌∙◌}
use Rattle.std.proofs.lemmas.Int.{to_z-of_z}
use Rattle.mr_node_output.specs.Outs.{OutsState, no_outs}
use Rattle.mr_node_spec.specs.State.{NodeState}
use Rattle.mr_node_spec.specs.Acknowledging.{acknowledgement}
use Rattle.mr_node_spec.specs.TimeRows.{HasDue, HasPassed, IsStreaming, IsUnmarked, IsWaiting, Rests, TickRow, acknowledge_after}
use Rattle.mr_node_state.specs.Parts.{marked_at}
use Rattle.mr_node.proofs.node.Node.rest.Goals as goal
use Rattle.mr_node.proofs.node.Node.rest.Goals.{in-Waiting, in-Unmarked, in-Passed+in-Some+else-is_err}

pub returns-in_default : goal.returns-in_default
returns-in_default c =
    let same : c.fresh_outs-outs.new.self ≡ c.args.self.now = c.fresh_outs-outs.ensures.same in
    let mark : c.mark.result ≡ c.args.self.now.core.mark = c.mark.ensures ∙ ap (λ (z : NodeState). z.core.mark) (c.self.view_is ∙ same) in
    let passed : HasPassed c.args.self.now.core.mark c.args.now acknowledge_after =
    subst (λ (m : Option ℤ). HasPassed m c.args.now acknowledge_after) mark (subst (λ (z : ℤ). HasPassed c.mark.result z acknowledge_after) (to_z-of_z w64 c.args.now c.ranges.now) c.in-Passed.ensures) in
    TickRow.rests c.requires.up c.requires.replica c.args.self.now.core.mark
    (Rests.apart (λ l is. c.in_default.ensures.none l (subst (λ (z : NodeState). IsStreaming z l) (sym same) is)) passed refl c.fresh_outs-outs.ensures.outs) same

pub returns-then-is_err : goal.returns-then-is_err
returns-then-is_err c =
    let same : c.fresh_outs-outs.new.self ≡ c.args.self.now = c.fresh_outs-outs.ensures.same in
    let mark : c.mark.result ≡ c.args.self.now.core.mark = c.mark.ensures ∙ ap (λ (z : NodeState). z.core.mark) (c.self.view_is ∙ same) in
    let passed : HasPassed c.args.self.now.core.mark c.args.now acknowledge_after =
    subst (λ (m : Option ℤ). HasPassed m c.args.now acknowledge_after) mark (subst (λ (z : ℤ). HasPassed c.mark.result z acknowledge_after) (to_z-of_z w64 c.args.now c.ranges.now) c.in-Passed.ensures) in
    (c.requires.up, same, HasDue.acknowledges c.requires.replica c.in-Some.link (subst (λ (z : NodeState). IsStreaming z c.in-Some.link) same c.in-Some.ensures.some) passed)

pub returns : goal.returns
returns c =
    let same : c.fresh_outs-outs.new.self ≡ c.args.self.now = c.fresh_outs-outs.ensures.same in
    let mark : c.mark.result ≡ c.args.self.now.core.mark = c.mark.ensures ∙ ap (λ (z : NodeState). z.core.mark) (c.self.view_is ∙ same) in
    let now : to_z w64 (of_z w64 c.args.now) ≡ c.args.now = to_z-of_z w64 c.args.now c.ranges.now in
    let a = c.args.self.now in
    let was : c.self.inside.state ≡ a = c.self.view_is ∙ same in
    elim c.match-since_mark.branch [
      | in-Waiting w ↦
          let waits : IsWaiting a.core.mark c.args.now acknowledge_after =
          subst (λ (m : Option ℤ). IsWaiting m c.args.now acknowledge_after) mark (subst (λ (z : ℤ). IsWaiting c.mark.result z acknowledge_after) now w.in-Waiting.ensures) in
          TickRow.rests c.requires.up c.requires.replica a.core.mark (Rests.waits waits refl (w.outs-is ∙ c.fresh_outs-outs.ensures.outs)) (w.self-is ∙ same)
      | in-Unmarked w ↦
          let unmarked : IsUnmarked a.core.mark c.args.now =
          subst (λ (m : Option ℤ). IsUnmarked m c.args.now) mark (subst (λ (z : ℤ). IsUnmarked c.mark.result z) now w.in-Unmarked.ensures) in
          TickRow.rests c.requires.up c.requires.replica (Some c.args.now) (Rests.marks unmarked refl (w.outs-is ∙ c.fresh_outs-outs.ensures.outs))
          (w.self-is ∙ w.set_mark.ensures ∙ ap (λ (z : ℤ). marked_at z c.self.inside.state) now ∙ ap (λ (z : NodeState). marked_at c.args.now z) was)
      | in-Passed+in-Some+else-is_err w ↦
          let passed : HasPassed a.core.mark c.args.now acknowledge_after =
          subst (λ (m : Option ℤ). HasPassed m c.args.now acknowledge_after) mark (subst (λ (z : ℤ). HasPassed c.mark.result z acknowledge_after) now w.in-Passed.ensures) in
          let l = w.in-Some.link in
          let reply = acknowledgement c.fresh_outs-outs.new.self.core.lineage.stream.offset in
          let told : w.put_acknowledgement.new.outs ≡ record w.bind.new.self { reply = reply } = search rules in
          TickRow.rests c.requires.up c.requires.replica (Some c.args.now)
          (Rests.acknowledges l (subst (λ (z : NodeState). IsStreaming z l) same w.in-Some.ensures.some) passed refl
          (w.outs-is ∙ told ∙ ap (λ (o : OutsState). record o { reply = reply }) (w.bind.ensures ∙ ap (λ (o : OutsState). record o { link = Some l }) c.fresh_outs-outs.ensures.outs)
          ∙ ap (λ (z : NodeState). record no_outs { link = Some l; reply = acknowledgement z.core.lineage.stream.offset }) same))
          (w.self-is ∙ w.set_mark-in-Passed.ensures ∙ ap (λ (z : ℤ). marked_at z c.self.inside.state) now ∙ ap (λ (z : NodeState). marked_at c.args.now z) was)
    ]
