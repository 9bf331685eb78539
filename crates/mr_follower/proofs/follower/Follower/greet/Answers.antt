use Rattle.std.proofs.Common.{rules, ◌≡◌, ◌++◌, ℕ, List, drop, Option, Some, None, Ok, Err, sym, ap, subst, ◌∙◌}
use Rattle.mr_follower.specs.Handshake.{line_after, next_of}
use Rattle.mr_follower.specs.State.{FollowState}
use Rattle.mr_follower.specs.Lines.{HearsStatus}
use Rattle.mr_follower.specs.Rows.{StepsAside}
use Rattle.mr_follower.specs.declared.heard.FollowFault.{FollowFault}
use Rattle.mr_follower.specs.declared.heard.Heard.{Heard}
use Rattle.mr_follower.specs.declared.phase.Phase.{Phase}
use Rattle.mr_follower.specs.declared.status.Status.{Status}
use Rattle.std.specs.Prelude.{Result}
use Rattle.mr_follower.proofs.Stepping.{greet_fault, greet_said}
use Rattle.mr_follower.proofs.follower.Follower.greet.Goals as goal

pub returns-in_err-status : goal.returns-in_err-status
returns-in_err-status c =
    let a : FollowState = c.args.self.now in
    let kept : c.unread.result.now ≡ a.kept = c.unread.ensures ∙ ap (λ (f : FollowState). f.kept) c.self.view_is in
    let fault : FollowFault = c.in_err-status.field-0.0 in
    let told : c.from_residual.result ≡ Err fault = search rules in
    subst (λ (r : Result Heard FollowFault). StepsAside a r a c.args.out.now.items c.args.out.now.items) (sym told)
    (greet_fault a fault c.requires (subst (λ (u : List ℕ). HearsStatus u (Err fault)) kept c.in_err-status.ensures) c.args.out.now.items)

pub returns : goal.returns
returns c =
    let a : FollowState = c.args.self.now in
    let before = c.args.out.now.items in
    let used = c.in-Some.status.used in
    let kept : c.unread.result.now ≡ a.kept = c.unread.ensures ∙ ap (λ (f : FollowState). f.kept) c.self.view_is in
    let heard : HearsStatus c.unread.result.now (Ok (Some c.in-Some.status)) = subst (λ (o : Option Status). HearsStatus c.unread.result.now (Ok o)) c.in-Some.is c.in_ok-status.ensures in
    let line : c.push_next.new.out.items ≡ before ++ line_after c.self.inside.phase c.self.inside.port c.self.inside.offer = search rules in
    let put : c.push_next.new.out.items ≡ before ++ line_after a.phase a.port a.offer = line ∙ ap (λ (f : FollowState). before ++ line_after f.phase f.port f.offer) c.self.view_is in
    let next : c.next_phase.result ≡ next_of a.phase = c.next_phase.ensures ∙ ap (λ (f : FollowState). next_of f.phase) c.take.view_is in
    greet_said a c.take-2.new.self used c.in-Some.status.text.now before c.push_next.new.out.items c.requires (subst (λ (u : List ℕ). HearsStatus u (Ok (Some c.in-Some.status))) kept heard) put
    (c.take-2.ensures ∙ ap (λ (p : Phase). record a { phase = p; taking = None; kept = drop used a.kept }) next)
