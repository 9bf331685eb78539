use Rattle.std.proofs.Common.{rules, ◌≡◌, ℕ, List, Option, Some, Ok, Err, sym, ap, subst, ◌∙◌}
use Rattle.std.specs.Prelude.{Result}
use Rattle.mr_follower.specs.State.{FollowState}
use Rattle.mr_follower.specs.Lines.{HasAnswer, HearsAnswer}
use Rattle.mr_follower.specs.Rows.{StepsAside}
use Rattle.mr_follower.specs.declared.heard.FollowFault.{FollowFault}
use Rattle.mr_follower.specs.declared.heard.Heard.{Heard}
use Rattle.mr_follower.specs.declared.status.Answered.{Answered}
use Rattle.mr_follower.proofs.Stepping.{answer_fault}
use Rattle.mr_follower.proofs.follower.Follower.hear_answer.Goals as goal

pub returns-in_err-answered : goal.returns-in_err-answered
returns-in_err-answered c = λ out.
    let a : FollowState = c.args.self.now in
    let kept : c.unread.result.now ≡ a.kept = c.unread.ensures ∙ ap (λ (f : FollowState). f.kept) c.self.view_is in
    let fault : FollowFault = c.in_err-answered.field-0.0 in
    let told : c.from_residual.result ≡ Err fault = search rules in
    subst (λ (r : Result Heard FollowFault). StepsAside a r a out out) (sym told)
    (answer_fault a fault c.requires (subst (λ (u : List ℕ). HearsAnswer u (Err fault)) kept c.in_err-answered.ensures) out)

pub obey-requires-clause-answer : goal.obey-requires-clause-answer
obey-requires-clause-answer c =
    let a : FollowState = c.args.self.now in
    let kept : c.unread.result.now ≡ a.kept = c.unread.ensures ∙ ap (λ (f : FollowState). f.kept) c.self.view_is in
    let heard : HearsAnswer c.unread.result.now (Ok (Some c.in-Some.answered)) = subst (λ (o : Option Answered). HearsAnswer c.unread.result.now (Ok o)) c.in-Some.is c.in_ok-answered.ensures in
    subst (λ (u : List ℕ). HasAnswer u c.in-Some.answered.used c.in-Some.answered.reply) kept heard
