use Rattle.std.proofs.Common.{◌≡◌, ◌++◌, ap, refl, Some, subst, sym, ◌∙◌}
use Rattle.mr_resp.specs.Replies.{reply_text}
use Rattle.mr_resp.specs.ReplyView.{view}
use Rattle.mr_node_output.specs.Outs.{OutsState, no_outs}
use Rattle.mr_node_spec.specs.ClientRows.{ClientRow}
use Rattle.mr_node_spec.specs.Served.{says}
use Rattle.mr_node.proofs.Results.{on_ok_is}
use Rattle.mr_node.proofs.Rows.{keep_row, lacks_words}
use Rattle.mr_node.proofs.node.Node.say.Goals as goal

pub returns-then-is_err : goal.returns-then-is_err
returns-then-is_err c = λ u given fresh at k. (lacks_words u c.args.used k.wishes.words k.wishes.reads, refl)

pub returns : goal.returns
returns c = λ u given fresh at k.
    let a = c.args.self.now in let b = c.advance.new.self in
    let outs : c.say.new.self ≡ record no_outs { link = Some c.args.link; reply = reply_text (view c.args.reply.now) } =
    on_ok_is c.say.result _ (sym c.is_err.ensures.value ∙ c.if-is_err.false) c.say.ensures ∙ ap (λ (o : OutsState). record o { reply = o.reply ++ reply_text (view c.args.reply.now) }) c.requires.begun in
    subst (λ (o : OutsState). ClientRow a c.args.link u given fresh b o) (sym outs)
    (keep_row a b c.args.link u given fresh c.args.used (says (view c.args.reply.now)) at k refl c.advance.ensures)
