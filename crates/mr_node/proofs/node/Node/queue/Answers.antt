use Rattle.std.proofs.Common.{◌≡◌, ◌++◌, ap, drop, take, refl, subst, sym, ◌∙◌}
use Rattle.mr_resp.specs.Replies.{Tree, reply_text}
use Rattle.mr_resp.specs.ReplyView.{view}
use Rattle.mr_node_links.specs.Parts.{HasOpen}
use Rattle.mr_node_links.specs.State.{put_end, with_text}
use Rattle.mr_node_links.specs.State.EndState.{waiting}
use Rattle.mr_node_output.specs.Outs.{OutsState}
use Rattle.mr_commands.specs.Transactions.{queued}
use Rattle.mr_node_spec.specs.State.{NodeState, end_of}
use Rattle.mr_node_spec.specs.Transactions.{WithinRow, only_says}
use Rattle.mr_node_state.specs.Parts.{with_ends}
use Rattle.mr_node.proofs.Results.{on_err_is, on_ok_is}
use Rattle.mr_node.proofs.Transactions.{comes_lack, queue_row}
use Rattle.mr_node.proofs.node.Node.queue.Goals as goal

pub returns-then-is_err : goal.returns-then-is_err
returns-then-is_err c = λ t u given at comes. (comes_lack _ u c.args.used _ comes, refl)

pub wait-requires-clause-open : goal.wait-requires-clause-open
wait-requires-clause-open c = subst (λ (s : NodeState). HasOpen s.ends c.args.link c.args.used) (sym c.self.view_is) c.requires.open

pub wait-requires-clause-request : goal.wait-requires-clause-request
wait-requires-clause-request c = λ t u found. c.requires.request t u (record { is = ap (λ (s : NodeState). end_of s c.args.link) (sym c.self.view_is) ∙ found })

pub returns-then-is_err-2 : goal.returns-then-is_err-2
returns-then-is_err-2 c = λ t u given at comes.
    (comes_lack _ u c.args.used _ comes, on_err_is c.wait.result _ (sym c.is_err-2.ensures.value ∙ c.if-is_err-2.true) c.wait.ensures.err ∙ c.self.view_is)

pub returns : goal.returns
returns c = λ t u given at comes.
    let a = c.args.self.now in let b = c.wait.new.self in let l = c.args.link in let n = c.args.used in
    let waits = on_ok_is c.wait.result _ (sym c.is_err-2.ensures.value ∙ c.if-is_err-2.false) c.wait.ensures.ok t u (ap (λ (s : NodeState). end_of s l) c.self.view_is ∙ at.agrees.is) in
    let end = waiting (with_text (take n u) t) (drop n u) in
    let is : b ≡ with_ends a (put_end a.ends l end) = c.wait.ensures.only ∙ (ap (with_ends c.self.inside.state) waits ∙ ap (λ (s : NodeState). with_ends s (put_end s.ends l end)) c.self.view_is) in
    let outs : c.say.new.self ≡ only_says l queued =
    on_ok_is c.say.result _ (sym c.is_err.ensures.value ∙ c.if-is_err.false) c.say.ensures ∙ (ap (λ (o : OutsState). record o { reply = o.reply ++ reply_text (view c.queued.result) }) c.requires.begun ∙ ap (λ (r : Tree). only_says l r) c.queued.ensures) in
    subst (λ (o : OutsState). WithinRow a l t u given b o) (sym outs) (queue_row a b l t u given n at comes is)
