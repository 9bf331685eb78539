use Rattle.std.proofs.Common.{◌≡◌, ◌++◌, ap, drop, refl, subst, sym, ◌∙◌}
use Rattle.mr_resp.specs.Replies.{reply_text}
use Rattle.mr_resp.specs.ReplyView.{view}
use Rattle.mr_node_links.specs.Parts.{HasOpen}
use Rattle.mr_node_links.specs.State.{as_marked, put_end}
use Rattle.mr_node_links.specs.State.EndState.{waiting}
use Rattle.mr_node_output.specs.Outs.{OutsState}
use Rattle.mr_node_spec.specs.State.{NodeState, end_of}
use Rattle.mr_node_spec.specs.Transactions.{WithinRow, only_says}
use Rattle.mr_node_state.specs.Parts.{with_ends}
use Rattle.mr_node.proofs.Results.{on_ok_is}
use Rattle.mr_node.proofs.Transactions.{comes_lack, mark_row}
use Rattle.mr_node.proofs.node.Node.mark.Goals as goal

pub returns-then-is_err : goal.returns-then-is_err
returns-then-is_err c = λ t u given at comes. (comes_lack _ u c.args.used _ comes, refl)

pub mark_open-requires : goal.mark_open-requires
mark_open-requires c = subst (λ (s : NodeState). HasOpen s.ends c.args.link c.args.used) (sym c.self.view_is) c.requires.open

pub returns : goal.returns
returns c = λ t u given at comes.
    let a = c.args.self.now in let b = c.mark_open.new.self in let l = c.args.link in let n = c.args.used in
    let marks = c.mark_open.ensures.marks t u (ap (λ (s : NodeState). end_of s l) c.self.view_is ∙ at.agrees.is) in
    let end = waiting (as_marked t) (drop n u) in
    let is : b ≡ with_ends a (put_end a.ends l end) = c.mark_open.ensures.only ∙ (ap (with_ends c.self.inside.state) marks ∙ ap (λ (s : NodeState). with_ends s (put_end s.ends l end)) c.self.view_is) in
    let outs : c.say.new.self ≡ only_says l (view c.args.reply.now) =
    on_ok_is c.say.result _ (sym c.is_err.ensures.value ∙ c.if-is_err.false) c.say.ensures ∙ ap (λ (o : OutsState). record o { reply = o.reply ++ reply_text (view c.args.reply.now) }) c.requires.begun in
    subst (λ (o : OutsState). WithinRow a l t u given b o) (sym outs) (mark_row a b l t u given n at c.args.reply.now comes is)
