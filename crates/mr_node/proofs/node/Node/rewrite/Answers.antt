use Rattle.std.proofs.Common.{◌≡◌, ◌++◌, ℕ, List, ap, refl, rules, Some, subst, sym, ◌∙◌}
use Rattle.mr_resp.specs.Replies.{Tree, reply_text}
use Rattle.mr_resp.specs.ReplyView.{view}
use Rattle.mr_keyspace.specs.Dataset.{Dataset}
use Rattle.mr_cmd_server.specs.Commands.{rewriting}
use Rattle.mr_data.specs.Rebuilding.{rebuilding}
use Rattle.mr_node_output.specs.Outs.{OutsState, no_outs, outs_with}
use Rattle.mr_node_spec.specs.State.{NodeState}
use Rattle.mr_node_spec.specs.ClientRows.{ClientRow}
use Rattle.mr_node_spec.specs.Growing.{Remakes, rebuilt}
use Rattle.mr_node_spec.specs.Served.{rewritten_as}
use Rattle.mr_node.proofs.Results.{on_ok_is}
use Rattle.mr_node.proofs.Rows.{lacks_words, remakes_of, rewrite_row}
use Rattle.mr_node.proofs.node.Node.rewrite.Goals as goal

pub returns-then-is_err : goal.returns-then-is_err
returns-then-is_err c = λ u given fresh at r. (lacks_words u c.args.used r.words r.reads, refl)

pub returns-in_default : goal.returns-in_default
returns-in_default c = λ u given fresh at r. (lacks_words u c.args.used r.words r.reads, refl)

pub returns : goal.returns
returns c = λ u given fresh at r.
    let a = c.args.self.now in let b = c.advance.new.self in
    let held : c.held.result.now ≡ a.core.held = c.held.ensures ∙ ap (λ (s : NodeState). s.core.held) c.self.view_is in
    let texts : c.in-Ok.texts.items ≡ rebuilt c.held.result.now = search rules in
    let outs : c.replace.new.self ≡ record no_outs { link = Some c.args.link; reply = reply_text (view c.rewriting.result); replaced = Some c.in-Ok.texts.items } =
    c.replace.ensures ∙ ap (λ (o : OutsState). record o { replaced = Some c.in-Ok.texts.items })
    (on_ok_is c.say.result _ (sym c.is_err.ensures.value ∙ c.if-is_err.false) c.say.ensures ∙ ap (λ (o : OutsState). record o { reply = o.reply ++ reply_text (view c.rewriting.result) }) c.requires.begun) in
    let whole : c.replace.new.self ≡ outs_with (Some c.args.link) (rewritten_as a.core.held) =
    outs ∙ (ap (λ (t : Tree). record no_outs { link = Some c.args.link; reply = reply_text t; replaced = Some c.in-Ok.texts.items }) c.rewriting.ensures
    ∙ ap (λ (bs : List ℕ). record no_outs { link = Some c.args.link; reply = reply_text rewriting; replaced = Some bs }) (texts ∙ ap (λ (m : Dataset). rebuilt m) held)) in
    let remakes = subst (λ (m : Dataset). Remakes (rebuilding m) m) held (remakes_of c.held.result.now c.in-Ok.ensures.again c.in-Ok.ensures.short) in
    subst (λ (o : OutsState). ClientRow a c.args.link u given fresh b o) (sym whole)
    (rewrite_row a b c.args.link u given fresh c.args.used at r remakes c.advance.ensures)
