use Rattle.std.proofs.Common.{rules, ◌≡◌, ◌++◌, ◌∷◌, List, ℕ, ap, append-nil, length, map, subst, sym, ◌∙◌}
use Rattle.std.proofs.lemmas.List.{length-map}
use Rattle.mr_resp.specs.Spelling.{number_line}
use Rattle.mr_groups.specs.Groups.{exec, multi}
use Rattle.mr_links.specs.Links.{Links}
use Rattle.mr_node_links.specs.State.{EndState}
use Rattle.mr_node_links.specs.Replicas.{Lists}
use Rattle.mr_node_output.specs.Outs.{OutsState}
use Rattle.mr_node_spec.specs.State.{NodeState}
use Rattle.mr_node.specs.Executing.{DidAll}
use Rattle.mr_node.proofs.Executing.{counts_done, executed, headed}
use Rattle.mr_node.proofs.Results.{on_ok_is}
use Rattle.mr_node.proofs.node.Node.execute_all.Goals as goal

pub close_group-requires : goal.close_group-requires
close_group-requires c = counts_done c.args.self.now c.args.given (map (λ r. r.items) c.args.requests.now) c.say_count.new.self c.execute_each.new.outs c.in-Ok.count c.execute_each.new.self c.in-Ok.ensures

pub returns-in-Ok : goal.returns-in-Ok
returns-in-Ok c =
    let a = c.args.self.now in let old = c.args.outs.now in
    let rs = map (λ r. r.items) c.args.requests.now in
    let names = c.replicas.result.now in
    let listed : Lists names a.ends.open_links = subst (λ (e : Links EndState). Lists names e.open_links) (c.ends.ensures.ends ∙ ap (λ (s : NodeState). s.ends) c.self.view_is) c.replicas.ensures in
    let none = c.requires.empty.3 in
    let begun : c.begin_frame.new.self ≡ record old { grown = exec ++ multi; appended = exec ++ multi } = search rules in
    let fed : c.feed.new.self ≡ record c.begin_frame.new.self { fed = names } = on_ok_is c.feed.result _ (sym c.is_err-2.ensures.value ∙ c.if-is_err-2.false) c.feed.ensures in
    let said : c.say_count.new.self ≡ record c.feed.new.self { reply = c.feed.new.self.reply ++ 42 ∷ number_line (length c.args.requests.now) } =
    on_ok_is c.say_count.result _ (sym c.is_err-3.ensures.value ∙ c.if-is_err-3.false) c.say_count.ensures in
    let first : c.say_count.new.self ≡ headed a c.args.given rs old names listed none (length rs) =
    said ∙ (ap (λ (o : OutsState). record o { reply = o.reply ++ 42 ∷ number_line (length c.args.requests.now) }) (fed ∙ ap (λ (o : OutsState). record o { fed = names }) begun)
    ∙ (ap (λ (z : List ℕ). record old { grown = z; appended = z; fed = names; reply = old.reply ++ 42 ∷ number_line (length c.args.requests.now) }) (sym (append-nil (exec ++ multi)))
    ∙ ap (headed a c.args.given rs old names listed none) (sym (length-map c.args.requests.now (λ r. r.items))))) in
    let d = subst (λ (o : OutsState). DidAll a c.args.given rs o c.in-Ok.count c.execute_each.new.self c.execute_each.new.outs) first c.in-Ok.ensures in
    executed a c.args.given rs old names listed none c.in-Ok.count c.execute_each.new.self c.close_group.new.self c.execute_each.new.outs c.close_group.new.outs d
    (c.close_group.ensures a d.effects d.held d.are_done d.counted)
