use Rattle.std.proofs.Common.{◌≡◌, ◌++◌, ap, refl, subst, sym, ◌∙◌}
use Rattle.mr_resp.specs.Replies.{Tree, reply_text}
use Rattle.mr_resp.specs.ReplyView.{view}
use Rattle.mr_node_output.specs.Outs.{OutsState}
use Rattle.mr_commands.specs.Transactions.{nested}
use Rattle.mr_node_spec.specs.Transactions.{WithinRow, only_says}
use Rattle.mr_node.proofs.Ends.{open_ahead}
use Rattle.mr_node.proofs.Results.{on_ok_is}
use Rattle.mr_node.proofs.Transactions.{comes_lack, nest_row}
use Rattle.mr_node.proofs.node.Node.nest.Goals as goal

pub returns-then-is_err : goal.returns-then-is_err
returns-then-is_err c = λ t u given at comes. (comes_lack _ u c.args.used _ comes, refl)

pub advance-requires : goal.advance-requires
advance-requires c = open_ahead c.args.self.now c.args.link c.args.used c.requires.open

pub returns : goal.returns
returns c = λ t u given at comes.
    let a = c.args.self.now in let b = c.advance.new.self in let l = c.args.link in
    let outs : c.say.new.self ≡ only_says l nested =
    on_ok_is c.say.result _ (sym c.is_err.ensures.value ∙ c.if-is_err.false) c.say.ensures ∙ (ap (λ (o : OutsState). record o { reply = o.reply ++ reply_text (view c.nested.result) }) c.requires.begun ∙ ap (λ (r : Tree). only_says l r) c.nested.ensures) in
    subst (λ (o : OutsState). WithinRow a l t u given b o) (sym outs) (nest_row a b l t u given c.args.used at comes c.advance.ensures)
