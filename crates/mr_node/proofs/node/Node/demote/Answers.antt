use Rattle.std.proofs.Common.{◌≡◌, ap, refl, Some, subst, sym, ◌∙◌}
use Rattle.mr_resp.specs.Replies.{reply_text}
use Rattle.mr_cmd_shared.specs.Answered.{done}
use Rattle.mr_node_output.specs.Outs.{OutsState, no_outs}
use Rattle.mr_node_spec.specs.State.{NodeState}
use Rattle.mr_node_spec.specs.ClientRows.{ClientRow}
use Rattle.mr_node_state.specs.Parts.{Obeys}
use Rattle.mr_node.proofs.Results.{on_ok_is}
use Rattle.mr_node.proofs.Roles.{demote_row}
use Rattle.mr_node.proofs.Rows.{lacks_words}
use Rattle.mr_node.proofs.node.Node.demote.Goals as goal

pub returns-then-is_err : goal.returns-then-is_err
returns-then-is_err c = λ u given fresh at w. (lacks_words u c.args.used w.words w.reads, refl)

pub returns : goal.returns
returns c = λ u given fresh at w.
    let a = c.args.self.now in let b = c.obey.new.self in let mid = c.advance.new.self in let l = c.args.link in
    let shut = on_ok_is c.put_dismissal.result _ (sym c.is_err.ensures.value ∙ c.if-is_err.false) c.put_dismissal.ensures in
    let told = on_ok_is c.put_following.result _ (sym c.is_err-else-is_err.ensures.value ∙ c.if-is_err-2.false) c.put_following.ensures.told in
    let outs : c.put_following.new.outs ≡ record no_outs { link = Some l; reply = reply_text done; closed = shut.0; follows = Some c.args.address } =
    told ∙ ap (λ (o : OutsState). record o { follows = Some c.args.address })
    (shut.2 ∙ ap (λ (o : OutsState). record o { reply = reply_text done; closed = shut.0 }) c.requires.begun) in
    subst (λ (o : OutsState). ClientRow a l u given fresh b o) (sym outs)
    (demote_row a mid b l u given fresh c.args.used c.args.address shut.0 at c.requires.master c.put_following.ensures.port w c.advance.ensures
    (subst (λ (s : NodeState). Obeys s c.args.address b) c.self.view_is c.obey.ensures) shut.1)
