use Rattle.std.proofs.Common.{◌≡◌, ◌≤◌, ℤ, Some, sym, subst, ap, to_z, of_z, w64, ◌∙◌}
use Rattle.std.proofs.lemmas.Int.{to_z-of_z}
use Rattle.mr_repl.specs.Backlog.{offset_limit}
use Rattle.mr_node_spec.specs.State.{NodeState}
use Rattle.mr_node_spec.specs.Growing.{offset_behind}
use Rattle.mr_node_state.specs.Parts.{Commits, marked_at}
use Rattle.mr_node.specs.Ticking.{PutsBeats, marked}
use Rattle.mr_node.proofs.Ticking.{never_lacks, they_are_light, they_lead, ticks}
use Rattle.mr_node.proofs.node.Node.beat.Goals as goal
use Rattle.mr_node.proofs.node.Node.beat.Goals.{then-marks, else-marks}

pub commit-requires-clause-leads : goal.commit-requires-clause-leads
commit-requires-clause-leads c = they_lead c.in-Ok.field-0.effects.items c.self.inside.state.core.held c.in-Ok.ensures.puts.light

pub commit-requires-clause-within : goal.commit-requires-clause-within
commit-requires-clause-within c = subst (λ (z : NodeState). offset_behind c.in-Ok.field-0.effects.items z.core ≤ offset_limit) (sym c.self.view_is) c.in-Ok.ensures.puts.within

pub unreachable-requires : goal.unreachable-requires
unreachable-requires c = never_lacks c.commit.result c.in_default-commit.field-0 c.in_default-commit.is (c.commit.ensures.light (they_are_light c.in-Ok.field-0.effects.items c.in-Ok.ensures.puts.light))

pub returns : goal.returns
returns c =
    let same : c.fresh_outs-outs.new.self ≡ c.args.self.now = c.fresh_outs-outs.ensures.same in
    let now : to_z w64 (of_z w64 c.args.now) ≡ c.args.now = to_z-of_z w64 c.args.now c.ranges.now in
    let puts : PutsBeats c.args.self.now c.args.now c.in-Ok.field-0 c.put_beats.new.outs =
    subst (λ (z : NodeState). PutsBeats z c.args.now c.in-Ok.field-0 c.put_beats.new.outs) same (subst (λ (z : ℤ). PutsBeats c.fresh_outs-outs.new.self z c.in-Ok.field-0 c.put_beats.new.outs) now c.in-Ok.ensures.puts) in
    let commits : Commits c.args.self.now c.in-Ok.field-0.effects.items c.commit.new.self =
    subst (λ (z : NodeState). Commits z c.in-Ok.field-0.effects.items c.commit.new.self) (c.self.view_is ∙ same) c.in-Ok-commit.ensures.ok in
    elim c.if-marks.branch [
      | then-marks w ↦ ticks c.args.self.now c.commit.new.self c.if-marks.self c.args.now c.in-Ok.field-0 c.put_beats.new.outs (Some c.args.now) c.requires.up c.requires.master puts commits
          (w.self-is ∙ w.set_mark.ensures ∙ ap (λ (z : ℤ). marked_at z c.commit.new.self) now) (sym (ap (λ b. marked b c.args.now c.commit.new.self.core.mark) w.if-marks.true))
      | else-marks w ↦ ticks c.args.self.now c.commit.new.self c.if-marks.self c.args.now c.in-Ok.field-0 c.put_beats.new.outs c.commit.new.self.core.mark c.requires.up c.requires.master puts commits
          w.self-is (sym (ap (λ b. marked b c.args.now c.commit.new.self.core.mark) w.if-marks.false))
    ]
