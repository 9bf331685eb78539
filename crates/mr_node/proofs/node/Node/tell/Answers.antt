use Rattle.std.proofs.Common.{◌≡◌, ◌++◌, Some, refl, ap, subst, sym, ◌∙◌}
use Rattle.mr_node_spec.specs.ClientRows.{ClientRow}
use Rattle.mr_node_spec.specs.Telling.{reply_about}
use Rattle.mr_resp.specs.Replies.{Tree, reply_text}
use Rattle.mr_resp.specs.ReplyView.{view}
use Rattle.mr_node_output.specs.Outs.{OutsState, no_output, outs_with}
use Rattle.mr_node.specs.Parts.{TellsOf}
use Rattle.mr_node.proofs.Linking.{went_well}
use Rattle.mr_node.proofs.Rows.{lacks_words, tell_row}
use Rattle.mr_node.proofs.node.Node.tell.Goals as goal

pub returns-in_default : goal.returns-in_default
returns-in_default c = λ u given fresh at q. (lacks_words u c.args.used q.words q.reads, refl)

pub returns-then-is_err : goal.returns-then-is_err
returns-then-is_err c = λ u given fresh at q. (lacks_words u c.args.used q.words q.reads, refl)

pub returns : goal.returns
returns c = λ u given fresh at q.
    let a = c.args.self.now in
    let told : TellsOf c.args.question a (view c.in-Ok.reply) = c.in-Ok.ensures in
    let said : c.say.new.self ≡ record c.args.outs.now { reply = c.args.outs.now.reply ++ reply_text (view c.in-Ok.reply) } = went_well c.say.result (sym c.is_err.ensures.value ∙ c.if-is_err.false) c.say.ensures in
    let outs : c.say.new.self ≡ outs_with (Some c.args.link) (reply_about c.args.question a.core told.around) =
    said ∙ (ap (λ (z : OutsState). record z { reply = z.reply ++ reply_text (view c.in-Ok.reply) }) c.requires.begun
    ∙ ap (λ (z : Tree). outs_with (Some c.args.link) (record no_output { said = reply_text z })) told.told) in
    subst (λ (z : OutsState). ClientRow a c.args.link u given fresh c.advance.new.self z) (sym outs)
    (tell_row a c.advance.new.self c.args.link u given fresh c.args.used c.args.question told.around at q told.is_around c.advance.ensures)
