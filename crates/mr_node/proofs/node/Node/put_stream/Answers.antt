use Rattle.std.proofs.Common.{◌≡◌, ℕ, ap, pos, refl, subst, sym, w64, ◌∙◌}
use Rattle.std.proofs.lemmas.Int.{to_z-of_z}
use Rattle.mr_repl.specs.Lineage.{LineageState, standing_of}
use Rattle.mr_repl.specs.Standing.{MayContinue}
use Rattle.mr_repl.specs.declared.standing.Standing.{Standing}
use Rattle.mr_node_spec.specs.State.{NodeState}
use Rattle.mr_node_spec.specs.ClientRows.{IsAnswerToPsync}
use Rattle.mr_node.proofs.Results.{on_ok_both, on_ok_map}
use Rattle.mr_node.proofs.node.Node.put_stream.Goals as goal

pub returns-in-Continue-clause-offers : goal.returns-in-Continue-clause-offers
returns-in-Continue-clause-offers c =
    let stands : c.standing.result ≡ standing_of c.args.self.now.core.lineage = c.standing.ensures ∙ ap (λ (a : LineageState). standing_of a) (c.lineage.ensures ∙ ap (λ (s : NodeState). s.core.lineage) c.self.view_is) in
    let may = subst (λ (s : Standing). MayContinue s c.args.id.now c.in-Continue.from) stands c.in-Continue.ensures.1 in
    let wanted : c.args.wanted ≡ pos c.in-Continue.from = sym (to_z-of_z w64 c.args.wanted c.ranges.wanted) ∙ c.in-Continue.ensures.0 in
    on_ok_map c.put_tail.result _ _ c.put_tail.ensures (λ is. record { text = _; answer = IsAnswerToPsync.continues c.in-Continue.from wanted may refl; outs_are = is })

pub returns-in-Full-clause-offers : goal.returns-in-Full-clause-offers
returns-in-Full-clause-offers c =
    let stands : c.standing.result ≡ standing_of c.args.self.now.core.lineage = c.standing.ensures ∙ ap (λ (a : LineageState). standing_of a) (c.lineage.ensures ∙ ap (λ (s : NodeState). s.core.lineage) c.self.view_is) in
    let never : (from : ℕ) → c.args.wanted ≡ pos from → MayContinue (standing_of c.args.self.now.core.lineage) c.args.id.now from → ⊥ =
    λ from is may. c.in-Full.ensures from (to_z-of_z w64 c.args.wanted c.ranges.wanted ∙ is) (subst (λ (s : Standing). MayContinue s c.args.id.now from) (sym stands) may) in
    on_ok_map c.put_dataset.result _ _ (on_ok_both c.put_dataset.result _ _ c.put_dataset.ensures.remakes (on_ok_both c.put_dataset.result _ _ c.put_dataset.ensures.counted c.put_dataset.ensures.text))
    (λ both. record { text = _; answer = IsAnswerToPsync.resynchronizes never both.0 both.1.0 refl; outs_are = both.1.1 })
