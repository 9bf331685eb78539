use Rattle.std.proofs.Common.{rules, ◌≡◌, ℤ, Option, true, refl, sym, subst, ap, w64, ◌∙◌}
use Rattle.std.proofs.lemmas.Int.{to_z-of_z}
use Rattle.mr_node_spec.specs.State.{NodeState}
use Rattle.mr_node_spec.specs.TimeRows.{HasPassed, beat_after}
use Rattle.mr_node_links.specs.Replicas.{Lists}
use Rattle.mr_node.specs.Ticking.{SinceBeat}
use Rattle.mr_node.proofs.Ticking.{some_listed}
use Rattle.mr_node.proofs.node.Node.since_beat.Goals as goal

pub returns-else-is_empty : goal.returns-else-is_empty
returns-else-is_empty c =
    let all : c.args.whole ≡ true = search rules in
    let listed : Lists c.replicas.result.now c.args.self.now.ends.open_links = search rules in
    let mark : c.mark.result ≡ c.args.self.now.core.mark = c.mark.ensures ∙ ap (λ (z : NodeState). z.core.mark) c.self.view_is in
    SinceBeat.passed all (some_listed c.args.self.now c.replicas.result.now listed (sym c.is_empty.ensures ∙ c.if-is_empty.false))
    (subst (λ (m : Option ℤ). HasPassed m c.args.now beat_after) mark (subst (λ (z : ℤ). HasPassed c.mark.result z beat_after) (to_z-of_z w64 c.args.now c.ranges.now) c.in-Passed.ensures)) refl
