use Rattle.std.proofs.Common.{◌≡◌, ◌++◌, ap, drop, refl, subst, sym, ◌∙◌}
use Rattle.mr_resp.specs.Replies.{Tree, reply_text}
use Rattle.mr_resp.specs.ReplyView.{view}
use Rattle.mr_cmd_shared.specs.Answered.{done}
use Rattle.mr_node_links.specs.State.{begun, put_end}
use Rattle.mr_node_links.specs.State.EndState.{waiting}
use Rattle.mr_node_output.specs.Outs.{OutsState}
use Rattle.mr_node_spec.specs.State.{NodeState, end_of}
use Rattle.mr_node_spec.specs.ClientRows.{ClientRow}
use Rattle.mr_node_spec.specs.Transactions.{only_says}
use Rattle.mr_node_state.specs.Parts.{with_ends}
use Rattle.mr_node.proofs.Results.{on_ok_is}
use Rattle.mr_node.proofs.Rows.{lacks_words}
use Rattle.mr_node.proofs.Transactions.{begins_row}
use Rattle.mr_node.proofs.node.Node.begin.Goals as goal

pub returns-then-is_err : goal.returns-then-is_err
returns-then-is_err c = λ u given fresh at w. (lacks_words u c.args.used w.words w.reads, refl)

pub returns : goal.returns
returns c = λ u given fresh at w.
    let a = c.args.self.now in let b = c.begin.new.self in let l = c.args.link in
    let inside = c.self.inside.state in
    let begins = c.begin.ensures.begins u (ap (λ (s : NodeState). end_of s l) c.self.view_is ∙ at.agrees.is) in
    let is : b ≡ with_ends a (put_end a.ends l (waiting begun (drop c.args.used u))) =
    c.begin.ensures.only ∙ (ap (with_ends inside) begins ∙ ap (λ (s : NodeState). with_ends s (put_end s.ends l (waiting begun (drop c.args.used u)))) c.self.view_is) in
    let outs : c.say.new.self ≡ only_says l done =
    on_ok_is c.say.result _ (sym c.is_err.ensures.value ∙ c.if-is_err.false) c.say.ensures ∙ (ap (λ (o : OutsState). record o { reply = o.reply ++ reply_text (view c.done.result) }) c.requires.begun
    ∙ ap (λ (t : Tree). only_says l t) c.done.ensures) in
    subst (λ (o : OutsState). ClientRow a l u given fresh b o) (sym outs) (begins_row a b l u given fresh c.args.used at w is)
