use Rattle.std.proofs.Common.{Some, Ok, Err, OnErr, Result, sym, ap, ◌∙◌}
use Rattle.mr_node_links.specs.State.{EndState, streams}
use Rattle.mr_node_links.proofs.Naming.{same_lists, put_lists, heard_streams}
use Rattle.mr_node_links.proofs.Places.{same_links}
use Rattle.mr_node_links.proofs.ends.Ends.hear.Goals as goal

pub invariant_of-self : goal.invariant_of-self
invariant_of-self c =
    let i = c.self.inside in
    same_lists i.replicas.items i.links.open_links c.args.link c.in-Some.end.now c.hear.new.self c.self.invariant (sym c.in-Some.ensures.value) c.in_err-hear.ensures.err

in_any_case : {A E : Type 0} (r : Result A E) (P : Type 0) → P → OnErr r P
in_any_case (Ok x) P p = tt
in_any_case (Err e) P p = p

pub returns-in_err-hear-clause-err : goal.returns-in_err-hear-clause-err
returns-in_err-hear-clause-err c =
    in_any_case c.from_residual.result _ (same_links c.self.inside.links c.args.link c.in-Some.end.now c.hear.new.self (sym c.in-Some.ensures.value) c.in_err-hear.ensures.err ∙ c.self.view_is)

pub invariant_of-self-2 : goal.invariant_of-self-2
invariant_of-self-2 c =
    let i = c.self.inside in
    put_lists i.replicas.items i.links.open_links c.args.link c.hear.new.self c.self.invariant
    (ap (λ (e : EndState). streams (Some e)) c.in_ok-hear.ensures.ok ∙ (heard_streams c.args.bytes.now c.in-Some.end.now ∙ ap streams c.in-Some.ensures.value))
