use Rattle.std.proofs.Common.{◌≡◌, ap, refl, rules, Some, subst, sym, true, ◌∙◌}
use Rattle.mr_resp.specs.Replies.{reply_text}
use Rattle.mr_resp.specs.ReplyView.{view}
use Rattle.mr_node_links.specs.State.{put_end}
use Rattle.mr_node_links.specs.State.EndState.{shut}
use Rattle.mr_node_output.specs.Outs.{OutsState, no_outs}
use Rattle.mr_node_spec.specs.State.{NodeState}
use Rattle.mr_node_spec.specs.ClientRows.{ClientRow}
use Rattle.mr_node_spec.specs.Transactions.{WithinRow}
use Rattle.mr_node_state.specs.Parts.{with_ends}
use Rattle.mr_node.proofs.Ends.{put_leaves}
use Rattle.mr_node.proofs.Rows.{last_closes}
use Rattle.mr_node.proofs.node.Node.dismiss.Goals as goal

pub returns-then-is_err-clause-client : goal.returns-then-is_err-clause-client
returns-then-is_err-clause-client c = λ u given fresh at lacks ends. (lacks, refl)

pub returns-then-is_err-clause-open : goal.returns-then-is_err-clause-open
returns-then-is_err-clause-open c = λ t u given at lacks ends. (lacks, refl)

pub returns-clause-client : goal.returns-clause-client
returns-clause-client c = λ u given fresh at lacks ends.
    let a = c.args.self.now in let b = c.shut.new.self in let l = c.args.link in
    let is : b ≡ with_ends a (put_end a.ends l shut) = c.shut.ensures ∙ ap (λ (s : NodeState). with_ends s (put_end s.ends l shut)) c.self.view_is in
    let outs : c.close.new.self ≡ record no_outs { link = Some l; reply = reply_text (view c.args.reply.now); closes = true } = search rules in
    subst (λ (o : OutsState). ClientRow a l u given fresh b o) (sym outs)
    (ClientRow.closes (last_closes a b l u (reply_text (view c.args.reply.now)) at.up ends (ap (λ (s : NodeState). s.core) is) (put_leaves a b l shut is)))

pub returns-clause-open : goal.returns-clause-open
returns-clause-open c = λ t u given at lacks ends.
    let a = c.args.self.now in let b = c.shut.new.self in let l = c.args.link in
    let is : b ≡ with_ends a (put_end a.ends l shut) = c.shut.ensures ∙ ap (λ (s : NodeState). with_ends s (put_end s.ends l shut)) c.self.view_is in
    let outs : c.close.new.self ≡ record no_outs { link = Some l; reply = reply_text (view c.args.reply.now); closes = true } = search rules in
    subst (λ (o : OutsState). WithinRow a l t u given b o) (sym outs)
    (WithinRow.closes (last_closes a b l u (reply_text (view c.args.reply.now)) at.up ends (ap (λ (s : NodeState). s.core) is) (put_leaves a b l shut is)))
