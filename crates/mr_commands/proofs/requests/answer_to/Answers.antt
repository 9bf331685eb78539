use Rattle.std.proofs.Common.{sym, ◌∙◌}
use Rattle.mr_commands.proofs.Leading.{leads_on_master, left_by_question, left_by_rewriting, left_by_shutdown, planned_texts}
use Rattle.mr_commands.proofs.requests.answer_to.Goals as goal

pub returns-clause-leads : goal.returns-clause-leads
returns-clause-leads c = λ h. leads_on_master c.args.replica c.args.ask.now c.args.given c.args.held.now _ _ c.if-replica.false c.in_ok-plan.ensures.plan (c.in_ok-plan.ensures.faithful h)

pub returns-clause-texts : goal.returns-clause-texts
returns-clause-texts c = λ h room. planned_texts _ _ _ _ _ c.in_ok-plan.ensures.plan (c.in_ok-plan.ensures.texts h room)

pub returns-then-rewrites-clause-leads : goal.returns-then-rewrites-clause-leads
returns-then-rewrites-clause-leads c = λ h. left_by_rewriting c.args.replica c.args.ask.now c.args.given c.args.held.now (sym c.rewrites.ensures ∙ c.if-rewrites.true)

pub returns-then-halts-clause-leads : goal.returns-then-halts-clause-leads
returns-then-halts-clause-leads c = λ h. left_by_shutdown c.args.replica c.args.ask.now c.args.given c.args.held.now (sym c.halts.ensures ∙ c.if-halts.true)

pub returns-in-Some-clause-leads : goal.returns-in-Some-clause-leads
returns-in-Some-clause-leads c = λ h. left_by_question c.args.replica c.args.ask.now c.args.given c.args.held.now c.in-Some.question (sym c.question_asked.ensures ∙ c.in-Some.is)
