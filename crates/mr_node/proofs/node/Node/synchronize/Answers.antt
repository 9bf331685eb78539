use Rattle.std.proofs.Common.{◌≡◌, FitsSigned, ℕ, ℤ, List, ap, of_z, rules, Some, subst, sym, to_z, w64, ◌∙◌}
use Rattle.std.proofs.lemmas.Int.{to_z-of_z}
use Rattle.mr_node_links.specs.Parts.{TurnsAt}
use Rattle.mr_node_output.specs.Outs.{OutsState, no_outs}
use Rattle.mr_node_spec.specs.State.{NodeState}
use Rattle.mr_node_spec.specs.ClientRows.{ClientRow, IsAnswerToPsync}
use Rattle.mr_node_state.specs.Parts.{OnlyEnds}
use Rattle.mr_node.proofs.Results.{on_err_is, on_ok_is}
use Rattle.mr_node.proofs.Roles.{synchronize_row}
use Rattle.mr_node.proofs.Rows.{lacks_words}
use Rattle.mr_node.proofs.node.Node.synchronize.Goals as goal

pub returns-then-is_err : goal.returns-then-is_err
returns-then-is_err c = λ u given fresh at w. (lacks_words u c.args.used w.words w.reads, c.put_stream.ensures.same)

pub returns-then-is_err-2 : goal.returns-then-is_err-2
returns-then-is_err-2 c = λ u given fresh at w. (
  lacks_words u c.args.used w.words w.reads,
  on_err_is c.stream_to.result _ (sym c.is_err-2.ensures.value ∙ c.if-is_err-2.true) c.stream_to.ensures.err ∙ (c.self.view_is ∙ c.put_stream.ensures.same),
)

pub returns : goal.returns
returns c = λ u given fresh at w.
    let a = c.args.self.now in let b = c.stream_to.new.self in let l = c.args.link in
    let here = c.self.view_is ∙ c.put_stream.ensures.same in
    let offers = on_ok_is c.put_stream.result _ (sym c.is_err.ensures.value ∙ c.if-is_err.false) c.put_stream.ensures.offers in
    let turns = subst (λ (s : NodeState). TurnsAt s.ends l c.args.used b.ends) here (on_ok_is c.stream_to.result _ (sym c.is_err-2.ensures.value ∙ c.if-is_err-2.false) c.stream_to.ensures.ok) in
    let only = subst (λ (s : NodeState). OnlyEnds s b) here c.stream_to.ensures.only in
    let wish = c.args.wish.now in
    let fits : FitsSigned w64 c.wanted.result = search rules in
    let answer = subst (λ (z : ℤ). IsAnswerToPsync a.core.lineage a.core.held wish.id.items z offers.text) (to_z-of_z w64 c.wanted.result fits ∙ c.wanted.ensures)
    (subst (λ (z : List ℕ). IsAnswerToPsync a.core.lineage a.core.held z (to_z w64 (of_z w64 c.wanted.result)) offers.text) c.as_slice.ensures.value offers.answer) in
    let outs : c.put_stream.new.outs ≡ record no_outs { link = Some l; reply = offers.text } = offers.outs_are ∙ ap (λ (o : OutsState). record o { reply = offers.text }) c.requires.begun in
    subst (λ (o : OutsState). ClientRow a l u given fresh b o) (sym outs)
    (synchronize_row a b l u given fresh c.args.used wish.id.items wish.wanted offers.text at c.requires.master w answer turns only)
