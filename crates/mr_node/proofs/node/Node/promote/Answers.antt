use Rattle.std.proofs.Common.{◌≡◌, ap, refl, Some, subst, sym, ◌∙◌}
use Rattle.mr_resp.specs.Replies.{reply_text}
use Rattle.mr_cmd_shared.specs.Answered.{done}
use Rattle.mr_replication.specs.State.{name_of}
use Rattle.mr_node_output.specs.Outs.{OutsState, no_outs}
use Rattle.mr_node_spec.specs.State.{NodeState}
use Rattle.mr_node_spec.specs.ClientRows.{ClientRow}
use Rattle.mr_node_spec.specs.Ends.{names_of}
use Rattle.mr_node_state.specs.Parts.{promoted_as}
use Rattle.mr_node.proofs.Results.{on_ok_is}
use Rattle.mr_node.proofs.Roles.{promote_row}
use Rattle.mr_node.proofs.Rows.{lacks_words}
use Rattle.mr_node.proofs.node.Node.promote.Goals as goal

pub returns-then-is_err : goal.returns-then-is_err
returns-then-is_err c = λ u given at w. (lacks_words u c.args.used w.words w.reads, refl)

pub returns : goal.returns
returns c = λ u given at w.
    let a = c.args.self.now in let b = c.promote.new.self in let mid = c.advance.new.self in let l = c.args.link in
    let left = on_ok_is c.put_leaving.result _ (sym c.is_err.ensures.value ∙ c.if-is_err.false) c.put_leaving.ensures in
    let outs : c.take_id.new.self ≡ record no_outs { link = Some l; reply = reply_text done; closed = names_of (name_of a.follow); used = Some c.args.fresh } =
    c.take_id.ensures ∙ ap (λ (o : OutsState). record o { used = Some c.args.fresh })
    (left ∙ ap (λ (o : OutsState). record o { reply = reply_text done; closed = names_of (name_of a.follow) }) c.requires.begun) in
    subst (λ (o : OutsState). ClientRow a l u given c.args.fresh b o) (sym outs)
    (promote_row a mid b l u given c.args.fresh c.args.used at c.requires.replica w c.advance.ensures (c.promote.ensures ∙ ap (λ (s : NodeState). promoted_as c.args.fresh s) c.self.view_is))
