use Rattle.std.proofs.Common.{ap, map, not, subst, ◌∙◌}
use Rattle.std.specs.Cow.{cow_slice_items}
use Rattle.mr_commands.specs.declared.requests.Answer.TheVariants as answer
use Rattle.mr_node.specs.Executing.{IsTold}
use Rattle.mr_node.specs.Reading.{IsDone}
use Rattle.mr_node.specs.declared.todo.Todo.{Todo}
use Rattle.mr_node.specs.declared.todo.Todo.TheVariants as todo
use Rattle.mr_node.proofs.Reading.{answer_may_not_wait, wish_may_not_wait}
use Rattle.mr_node.proofs.node.Node.waited.Goals as goal

pub returns-in-Tell : goal.returns-in-Tell
returns-in-Tell c =
    let words = map cow_slice_items c.args.words.now in
    let d = subst (λ (t : Todo). IsDone (not c.master.result) words 0 c.args.given c.held-held.result.now t) (c.in-Do.is ∙ ap (todo.Do c.in-Do.used) c.in-Tell.is) c.in_ok-answer.ensures in
    IsTold.tells c.in-Tell.question d.1 c.in_ok-answer_about-in-Tell.ensures

pub returns-in-Do : goal.returns-in-Do
returns-in-Do c =
    let words = map cow_slice_items c.args.words.now in
    let d = subst (λ (t : Todo). IsDone (not c.master.result) words 0 c.args.given c.held-held.result.now t) c.in-Do.is c.in_ok-answer.ensures in
    IsTold.refuses (answer_may_not_wait (not c.master.result) words c.args.given c.held-held.result.now c.in-Do.answer c.in_default-answer.not-Run c.in_default-answer.not-Tell d.1) c.not_allowed.ensures

pub returns : goal.returns
returns c =
    let words = map cow_slice_items c.args.words.now in
    IsTold.refuses (wish_may_not_wait (not c.master.result) words 0 c.args.given c.held-held.result.now c.in_ok-answer.field-0 c.in_default.not-Do c.in_ok-answer.ensures) c.not_allowed-in_default.ensures
