use Rattle.std.proofs.Common.{◌≡◌, ◌++◌, ap, arith, refl, subst, sym, ◌∙◌}
use Rattle.mr_resp.specs.Replies.{reply_text}
use Rattle.mr_resp.specs.ReplyView.{view}
use Rattle.mr_node_links.specs.Parts.{HasOpen}
use Rattle.mr_node_output.specs.Outs.{OutsState}
use Rattle.mr_node_spec.specs.State.{NodeState}
use Rattle.mr_node_spec.specs.Transactions.{WithinRow, only_says}
use Rattle.mr_node.proofs.Ends.{out_of, out_ahead}
use Rattle.mr_node.proofs.Results.{on_ok_is}
use Rattle.mr_node.proofs.Transactions.{drop_row, ends_lack, taken_out}
use Rattle.mr_node.proofs.node.Node.end_with.Goals as goal

pub returns-then-is_err : goal.returns-then-is_err
returns-then-is_err c = λ t u given at e. (ends_lack _ t u c.args.used _ e, refl)

pub take_out-requires : goal.take_out-requires
take_out-requires c = subst (λ (s : NodeState). HasOpen s.ends c.args.link 0) (sym c.self.view_is) (record { transaction = c.requires.open.transaction; unread = c.requires.open.unread; found = c.requires.open.found; enough = omega arith })

pub advance-requires : goal.advance-requires
advance-requires c = out_ahead c.args.self.now c.take_out.new.self c.args.link c.args.used c.requires.open (out_of c.args.self.now c.self.inside.state c.take_out.new.self c.args.link c.take_out.result c.requires.open c.self.view_is c.take_out.ensures.takes c.take_out.ensures.only).1

pub returns : goal.returns
returns c = λ t u given at e.
    let a = c.args.self.now in let b = c.advance.new.self in let l = c.args.link in let n = c.args.used in
    let out = out_of a c.self.inside.state c.take_out.new.self l c.take_out.result (record { transaction = t; unread = u; found = at.agrees.is; enough = e.reads.enough }) c.self.view_is c.take_out.ensures.takes c.take_out.ensures.only in
    let outs : c.say.new.self ≡ only_says l (view c.args.reply.now) =
    on_ok_is c.say.result _ (sym c.is_err.ensures.value ∙ c.if-is_err.false) c.say.ensures ∙ ap (λ (o : OutsState). record o { reply = o.reply ++ reply_text (view c.args.reply.now) }) c.requires.begun in
    subst (λ (o : OutsState). WithinRow a l t u given b o) (sym outs)
    (drop_row a b l t u given n at (view c.args.reply.now) e (c.advance.ensures.core ∙ ap (λ (z : NodeState). z.core) out.1) (taken_out a c.take_out.new.self b l u n a.core out.1 c.advance.ensures))
