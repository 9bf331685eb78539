use Rattle.std.proofs.Common.{◌≡◌, Bool, ap, refl, Some, subst, sym, ◌∙◌}
use Rattle.mr_commands.specs.Transactions.{past_limit}
use Rattle.mr_resp.specs.Replies.{reply_text}
use Rattle.mr_resp.specs.ReplyView.{view}
use Rattle.mr_node_output.specs.Outs.{OutsState, outs_with}
use Rattle.mr_node_spec.specs.ClientRows.{ClientRow}
use Rattle.mr_node_spec.specs.Served.{says}
use Rattle.mr_node.specs.Parts.{Tells}
use Rattle.mr_node.proofs.Rows.{beyond_row, lacks_words}
use Rattle.mr_node.proofs.node.Node.run.Goals as goal

pub returns-in-Err : goal.returns-in-Err
returns-in-Err c = λ u given fresh at r. (lacks_words u c.args.used r.words r.reads, refl)

pub returns-in-Ok-false : goal.returns-in-Ok-false
returns-in-Ok-false c = λ u given fresh at r.
    let a = c.args.self.now in let b = c.advance.new.self in let l = c.args.link in
    let told = subst (λ (fits : Bool). Tells a.core (view c.args.plan.reply) c.args.plan.effects.items c.args.outs.now fits c.put_answer.new.outs) c.in-Ok-false.field-0-test c.in-Ok-false.ensures in
    let outs : c.put_answer.new.outs ≡ outs_with (Some l) (says past_limit) = told.1 ∙ ap (λ (o : OutsState). record o { reply = reply_text past_limit }) c.requires.begun in
    subst (λ (o : OutsState). ClientRow a l u given fresh b o) (sym outs) (beyond_row a b l u given fresh c.args.used c.args.plan at r told.0 c.advance.ensures)
