use Rattle.std.proofs.Common.{ap, not, refl, subst, sym, ◌∙◌}
use Rattle.mr_node_links.specs.State.EndState.{waiting}
use Rattle.mr_node_output.specs.Outs.{OutsState}
use Rattle.mr_node_spec.specs.State.{NodeState, end_of}
use Rattle.mr_node_spec.specs.Transactions.{WithinRow}
use Rattle.mr_node.specs.declared.within.TodoWithin.TheVariants as todo
use Rattle.mr_node.proofs.Ends.{open_ahead, open_of}
use Rattle.mr_node.proofs.Transactions.{found_within, pass_row}
use Rattle.mr_node.proofs.node.Node.serve_within.Goals as goal

pub returns-in_default : goal.returns-in_default
returns-in_default c = λ t u at. (c.in_default.ensures t u at, refl)

pub keep-requires : goal.keep-requires
keep-requires c =
    let t = c.requires.at.0 in let u = c.requires.at.1 in let at = c.requires.at.2 in
    let todo = found_within (not c.args.self.now.core.master) u c.in-Ok.todo (todo.Wait c.in-Wait.progress) c.in-Wait.is (c.in-Ok.ensures t u at) in
    record { end = waiting t u; found = ap (λ (s : NodeState). end_of s c.args.link) c.self.view_is ∙ at.agrees.is; agrees = todo.1 }

pub advance-requires : goal.advance-requires
advance-requires c =
    let t = c.requires.at.0 in let u = c.requires.at.1 in let at = c.requires.at.2 in
    let todo = found_within (not c.args.self.now.core.master) u c.in-Ok.todo (todo.Skip c.in-Skip.used) c.in-Skip.is (c.in-Ok.ensures t u at) in
    open_ahead c.args.self.now c.args.link c.in-Skip.used (open_of c.args.self.now c.args.link t u c.in-Skip.used at.agrees todo.0.enough)

pub come-requires-clause-comes : goal.come-requires-clause-comes
come-requires-clause-comes c =
    let t = c.requires.at.0 in let u = c.requires.at.1 in let at = c.requires.at.2 in
    let todo = found_within (not c.args.self.now.core.master) u c.in-Ok.todo (todo.Come c.in-Come.used c.in-Come.within) c.in-Come.is (c.in-Ok.ensures t u at) in
    (t, u, at, todo.0)

pub returns-in-Skip : goal.returns-in-Skip
returns-in-Skip c = λ t u at.
    let a = c.args.self.now in let b = c.advance.new.self in
    let todo = found_within (not a.core.master) u c.in-Ok.todo (todo.Skip c.in-Skip.used) c.in-Skip.is (c.in-Ok.ensures t u at) in
    subst (λ (o : OutsState). WithinRow a c.args.link t u c.args.given b o) (sym c.requires.begun) (pass_row a b c.args.link t u c.args.given c.in-Skip.used at todo.0 c.advance.ensures)

pub returns-in-Refuse : goal.returns-in-Refuse
returns-in-Refuse c = λ t u at.
    let todo = found_within (not c.args.self.now.core.master) u c.in-Ok.todo (todo.Refuse c.in-Refuse.fault) c.in-Refuse.is (c.in-Ok.ensures t u at) in
    c.refuse.ensures.open t u c.args.given at todo.0

pub returns-in-Come : goal.returns-in-Come
returns-in-Come c = λ t u at.
    let todo = found_within (not c.args.self.now.core.master) u c.in-Ok.todo (todo.Come c.in-Come.used c.in-Come.within) c.in-Come.is (c.in-Ok.ensures t u at) in
    c.come.ensures t u at todo.0
