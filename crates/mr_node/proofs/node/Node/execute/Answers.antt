use Rattle.std.proofs.Common.{◌≡◌, ap, arith, List, ℕ, map, Some, subst, sym, ◌∙◌}
use Rattle.std.specs.Prelude.{Err}
use Rattle.mr_links.specs.Links.{Links}
use Rattle.mr_node_links.specs.Parts.{HasAhead, HasOpen, IsClient}
use Rattle.mr_node_links.specs.State.{EndState, Transaction, put_end}
use Rattle.mr_node_links.specs.State.EndState.{client, waiting}
use Rattle.mr_node_spec.specs.State.{NodeState, end_of}
use Rattle.mr_node_state.specs.Parts.{with_ends}
use Rattle.mr_node.specs.Executing.{Executed, Executes}
use Rattle.mr_node.proofs.Ends.{out_ahead, out_found, out_of}
use Rattle.mr_node.proofs.Executing.{ends_stay, executes_row, gives_back}
use Rattle.mr_node.proofs.node.Node.execute.Goals as goal

pub take_out-transaction-requires : goal.take_out-transaction-requires
take_out-transaction-requires c = subst (λ (s : NodeState). HasOpen s.ends c.args.link 0) (sym c.self.view_is) (record { transaction = c.requires.open.transaction; unread = c.requires.open.unread; found = c.requires.open.found; enough = omega arith })

pub advance-requires : goal.advance-requires
advance-requires c =
    let out = out_of c.args.self.now c.self.inside.state c.take_out-transaction.new.self c.args.link c.take_out-transaction.result c.requires.open c.self.view_is c.take_out-transaction.ensures.takes c.take_out-transaction.ensures.only in
    let x = c.in-Ok.ensures in
    subst (λ (e : Links EndState). HasAhead e c.args.link c.args.used) (sym (ap (λ (s : NodeState). s.ends) x.node)) (out_ahead c.args.self.now c.take_out-transaction.new.self c.args.link c.args.used c.requires.open out.1)

pub put_back-requires : goal.put_back-requires
put_back-requires c =
    let a = c.args.self.now in let b = c.take_out-transaction.new.self in let l = c.args.link in
    let rs = map (λ r. r.items) c.requests.result.now in
    let out = out_of a c.self.inside.state b l c.take_out-transaction.result c.requires.open c.self.view_is c.take_out-transaction.ensures.takes c.take_out-transaction.ensures.only in
    let stay = ends_stay b c.execute_all.new.self c.args.given rs c.args.outs.now c.execute_all.new.outs c.in-Err.fault c.in-Err.ensures in
    let there = out_found a b l c.requires.open.unread out.1 in
    subst (λ (s : NodeState). IsClient s.ends l 0) (sym c.self-in-Err.view_is) (subst (λ (e : Links EndState). IsClient e l 0) (sym stay) (record { unread = c.requires.open.unread; found = there; enough = omega arith }))

pub returns-in-Ok : goal.returns-in-Ok
returns-in-Ok c = λ t u at marked comes.
    let a = c.args.self.now in let l = c.args.link in
    let b = c.take_out-transaction.new.self in
    let rs = map (λ r. r.items) c.requests.result.now in
    let is : HasOpen a.ends l c.args.used = record { transaction = t; unread = u; found = at.agrees.is; enough = comes.reads.enough } in
    let out = out_of a c.self.inside.state b l c.take_out-transaction.result is c.self.view_is c.take_out-transaction.ensures.takes c.take_out-transaction.ensures.only in
    let queued : rs ≡ t.queued = c.requests.ensures.texts ∙ ap (λ (z : Transaction). z.queued) out.0 in
    let x = subst (λ (s : NodeState). Executed s c.args.given t.queued c.args.outs.now c.execute_all.new.self c.execute_all.new.outs) out.1
    (subst (λ (z : List (List ℕ)). Executed b c.args.given z c.args.outs.now c.execute_all.new.self c.execute_all.new.outs) queued c.in-Ok.ensures) in
    executes_row a l t u c.args.given c.args.used at marked comes c.args.outs.now c.execute_all.new.outs c.execute_all.new.self c.advance.new.self c.requires.begun x c.advance.ensures

pub returns-in-Err : goal.returns-in-Err
returns-in-Err c = λ t u at marked comes.
    let a = c.args.self.now in let l = c.args.link in
    let b = c.take_out-transaction.new.self in
    let d = c.execute_all.new.self in
    let rs = map (λ r. r.items) c.requests.result.now in
    let is : HasOpen a.ends l c.args.used = record { transaction = t; unread = u; found = at.agrees.is; enough = comes.reads.enough } in
    let out = out_of a c.self.inside.state b l c.take_out-transaction.result is c.self.view_is c.take_out-transaction.ensures.takes c.take_out-transaction.ensures.only in
    let queued : rs ≡ t.queued = c.requests.ensures.texts ∙ ap (λ (z : Transaction). z.queued) out.0 in
    let e = subst (λ (s : NodeState). Executes s c.args.given t.queued c.args.outs.now (Err c.in-Err.fault) d c.execute_all.new.outs) out.1
    (subst (λ (z : List (List ℕ)). Executes b c.args.given z c.args.outs.now (Err c.in-Err.fault) d c.execute_all.new.outs) queued c.in-Err.ensures) in
    let stay = ends_stay b d c.args.given rs c.args.outs.now c.execute_all.new.outs c.in-Err.fault c.in-Err.ensures in
    let there = out_found a b l u out.1 in
    let i = c.self-in-Err.inside.state in
    let found : end_of i l ≡ Some (client u) = ap (λ (s : NodeState). end_of s l) c.self-in-Err.view_is ∙ (ap (λ (m : Links EndState). end_of (with_ends d m) l) stay ∙ there) in
    let puts = c.put_back.ensures.puts u found in
    let back : c.put_back.new.self ≡ with_ends d (put_end d.ends l (waiting t u)) =
    c.put_back.ensures.only ∙ (ap (with_ends i) puts ∙ (ap (λ (s : NodeState). with_ends s (put_end s.ends l (waiting c.take_out-transaction.result u))) c.self-in-Err.view_is
    ∙ ap (λ (z : Transaction). with_ends d (put_end d.ends l (waiting z u))) out.0)) in
    gives_back a l t u c.args.given c.args.used at marked comes c.args.outs.now c.execute_all.new.outs d c.put_back.new.self c.in-Err.fault e back
