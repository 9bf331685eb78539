use Rattle.std.proofs.Common.{ap, not, refl, subst, sym, ◌∙◌}
use Rattle.std.specs.Prelude.{Ok}
use Rattle.mr_node_links.specs.State.EndState.{client}
use Rattle.mr_node_output.specs.Outs.{OutsState}
use Rattle.mr_node_spec.specs.State.{NodeState, end_of}
use Rattle.mr_node.specs.Steps.{ClientStep, step_of}
use Rattle.mr_commands.specs.declared.requests.Answer.TheVariants as answer
use Rattle.mr_node.specs.declared.todo.Todo.TheVariants as todo
use Rattle.mr_node.proofs.Ends.{ahead_of, client_of}
use Rattle.mr_node.proofs.Reading.{found_as}
use Rattle.mr_node.proofs.node.Node.serve.Goals as goal

pub returns-in_default : goal.returns-in_default
returns-in_default c = λ u at. (c.in_default.ensures u at.agrees, refl)

pub keep-requires : goal.keep-requires
keep-requires c =
    let u = c.requires.at.0 in let at = c.requires.at.1 in
    let todo = found_as (not c.args.self.now.core.master) u c.args.given c.args.self.now.core.held c.in-Ok.todo (todo.Wait c.in-Wait.progress) c.in-Wait.is (c.in-Ok.ensures u at.agrees) in
    record { end = client u; found = ap (λ (s : NodeState). end_of s c.args.link) c.self.view_is ∙ at.agrees.is; agrees = todo.1 }

pub skip-requires : goal.skip-requires
skip-requires c =
    let u = c.requires.at.0 in let at = c.requires.at.1 in
    let todo = found_as (not c.args.self.now.core.master) u c.args.given c.args.self.now.core.held c.in-Ok.todo (todo.Skip c.in-Skip.used) c.in-Skip.is (c.in-Ok.ensures u at.agrees) in
    ahead_of c.args.self.now c.args.link u c.in-Skip.used at.agrees todo.0.enough

pub rewrite-requires-clause-ahead : goal.rewrite-requires-clause-ahead
rewrite-requires-clause-ahead c =
    let u = c.requires.at.0 in let at = c.requires.at.1 in
    let todo = found_as (not c.args.self.now.core.master) u c.args.given c.args.self.now.core.held c.in-Ok.todo (todo.Do c.in-Do.used answer.Rewrite) (c.in-Do.is ∙ ap (todo.Do c.in-Do.used) c.in-Rewrite.is) (c.in-Ok.ensures u at.agrees) in
    ahead_of c.args.self.now c.args.link u c.in-Do.used at.agrees todo.0.reads.enough

pub tell-requires-clause-ahead : goal.tell-requires-clause-ahead
tell-requires-clause-ahead c =
    let u = c.requires.at.0 in let at = c.requires.at.1 in
    let todo = found_as (not c.args.self.now.core.master) u c.args.given c.args.self.now.core.held c.in-Ok.todo (todo.Do c.in-Do.used (answer.Tell c.in-Tell.question)) (c.in-Do.is ∙ ap (todo.Do c.in-Do.used) c.in-Tell.is) (c.in-Ok.ensures u at.agrees) in
    ahead_of c.args.self.now c.args.link u c.in-Do.used at.agrees todo.0.reads.enough

pub halt-requires-clause-ahead : goal.halt-requires-clause-ahead
halt-requires-clause-ahead c =
    let u = c.requires.at.0 in let at = c.requires.at.1 in
    let todo = found_as (not c.args.self.now.core.master) u c.args.given c.args.self.now.core.held c.in-Ok.todo (todo.Do c.in-Do.used answer.Halt) (c.in-Do.is ∙ ap (todo.Do c.in-Do.used) c.in-Halt.is) (c.in-Ok.ensures u at.agrees) in
    ahead_of c.args.self.now c.args.link u c.in-Do.used at.agrees todo.0.reads.enough

pub run-requires-clause-ahead : goal.run-requires-clause-ahead
run-requires-clause-ahead c =
    let u = c.requires.at.0 in let at = c.requires.at.1 in
    let todo = found_as (not c.args.self.now.core.master) u c.args.given c.args.self.now.core.held c.in-Ok.todo (todo.Do c.in-Do.used (answer.Run c.in-Run.plan)) (c.in-Do.is ∙ ap (todo.Do c.in-Do.used) c.in-Run.is) (c.in-Ok.ensures u at.agrees) in
    ahead_of c.args.self.now c.args.link u c.in-Do.used at.agrees todo.0.reads.enough

pub run-requires-clause-leads : goal.run-requires-clause-leads
run-requires-clause-leads c =
    let u = c.requires.at.0 in let at = c.requires.at.1 in
    let todo = found_as (not c.args.self.now.core.master) u c.args.given c.args.self.now.core.held c.in-Ok.todo (todo.Do c.in-Do.used (answer.Run c.in-Run.plan)) (c.in-Do.is ∙ ap (todo.Do c.in-Do.used) c.in-Run.is) (c.in-Ok.ensures u at.agrees) in
    (_, todo.0.plan.leads)

pub ask-requires-clause-client : goal.ask-requires-clause-client
ask-requires-clause-client c =
    let u = c.requires.at.0 in let at = c.requires.at.1 in
    let todo = found_as (not c.args.self.now.core.master) u c.args.given c.args.self.now.core.held c.in-Ok.todo (todo.Ask c.in-Ask.used c.in-Ask.request) c.in-Ask.is (c.in-Ok.ensures u at.agrees) in
    client_of c.args.self.now c.args.link u c.in-Ask.used at.agrees todo.0.1.reads.enough

pub returns-in-Skip : goal.returns-in-Skip
returns-in-Skip c = λ u at.
    let todo = found_as (not c.args.self.now.core.master) u c.args.given c.args.self.now.core.held c.in-Ok.todo (todo.Skip c.in-Skip.used) c.in-Skip.is (c.in-Ok.ensures u at.agrees) in
    subst (λ (o : OutsState). ClientStep c.args.self.now c.args.link u c.args.given c.args.fresh c.skip.new.self (step_of o (Ok c.skip.result))) (sym c.requires.begun)
    (c.skip.ensures u c.args.given c.args.fresh at todo.0)

pub returns-in-Refuse : goal.returns-in-Refuse
returns-in-Refuse c = λ u at.
    let todo = found_as (not c.args.self.now.core.master) u c.args.given c.args.self.now.core.held c.in-Ok.todo (todo.Refuse c.in-Refuse.fault) c.in-Refuse.is (c.in-Ok.ensures u at.agrees) in
    c.refuse.ensures.client u c.args.given c.args.fresh at todo.0

pub returns-in-Quit : goal.returns-in-Quit
returns-in-Quit c = λ u at.
    let todo = found_as (not c.args.self.now.core.master) u c.args.given c.args.self.now.core.held c.in-Ok.todo (todo.Do c.in-Do.used answer.Quit) (c.in-Do.is ∙ ap (todo.Do c.in-Do.used) c.in-Quit.is) (c.in-Ok.ensures u at.agrees) in
    c.quit.ensures.client u c.args.given c.args.fresh at todo.0

pub returns-in-Rewrite : goal.returns-in-Rewrite
returns-in-Rewrite c = λ u at.
    let todo = found_as (not c.args.self.now.core.master) u c.args.given c.args.self.now.core.held c.in-Ok.todo (todo.Do c.in-Do.used answer.Rewrite) (c.in-Do.is ∙ ap (todo.Do c.in-Do.used) c.in-Rewrite.is) (c.in-Ok.ensures u at.agrees) in
    c.rewrite.ensures u c.args.given c.args.fresh at todo.0

pub returns-in-Tell : goal.returns-in-Tell
returns-in-Tell c = λ u at.
    let todo = found_as (not c.args.self.now.core.master) u c.args.given c.args.self.now.core.held c.in-Ok.todo (todo.Do c.in-Do.used (answer.Tell c.in-Tell.question)) (c.in-Do.is ∙ ap (todo.Do c.in-Do.used) c.in-Tell.is) (c.in-Ok.ensures u at.agrees) in
    c.tell.ensures u c.args.given c.args.fresh at todo.0

pub returns-in-Halt : goal.returns-in-Halt
returns-in-Halt c = λ u at.
    let todo = found_as (not c.args.self.now.core.master) u c.args.given c.args.self.now.core.held c.in-Ok.todo (todo.Do c.in-Do.used answer.Halt) (c.in-Do.is ∙ ap (todo.Do c.in-Do.used) c.in-Halt.is) (c.in-Ok.ensures u at.agrees) in
    c.halt.ensures u c.args.given c.args.fresh at todo.0

pub returns-in-Ask : goal.returns-in-Ask
returns-in-Ask c = λ u at.
    let todo = found_as (not c.args.self.now.core.master) u c.args.given c.args.self.now.core.held c.in-Ok.todo (todo.Ask c.in-Ask.used c.in-Ask.request) c.in-Ask.is (c.in-Ok.ensures u at.agrees) in
    c.ask.ensures u c.args.given todo.0.0 at todo.0.1 todo.0.2
