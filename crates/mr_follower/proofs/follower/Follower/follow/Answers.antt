use Rattle.std.proofs.Common.{rules, ◌≡◌, ℕ, ◌+◌, ◌-◌, List, drop, Option, Some, None, Ok, Err, sym, ap, subst, ◌∙◌, arith}
use Rattle.std.specs.Prelude.{Result}
use Rattle.mr_repl.specs.Backlog.{offset_limit}
use Rattle.mr_follower.specs.State.{FollowState}
use Rattle.mr_follower.specs.Stream.{AppliesFront}
use Rattle.mr_follower.specs.Rows.{Steps}
use Rattle.mr_follower.specs.declared.heard.FollowFault.{FollowFault}
use Rattle.mr_follower.specs.declared.heard.Heard.{Heard}
use Rattle.mr_follower.specs.declared.phase.Phase.TheVariants.{Stream}
use Rattle.mr_follower.proofs.Stepping.{follow_fault, follow_applied}
use Rattle.mr_follower.proofs.follower.Follower.follow.Goals as goal

pub returns-in_err-used : goal.returns-in_err-used
returns-in_err-used c = λ u ag.
    let a : FollowState = c.args.self.now in
    let m = c.args.held.now in let n = c.apply_front.new.held in
    let before = c.args.out.now.items in let after = c.apply_front.new.out.items in
    let kept : c.self.inside.inbox ≡ a.kept = ap (λ (f : FollowState). f.kept) c.self.view_is in
    let fault : FollowFault = c.in_err-used.field-0.0 in
    let told : c.from_residual.result ≡ Err fault = search rules in
    let room = offset_limit - c.args.offset in
    let all : c.args.offset + room ≡ offset_limit = omega (arith, c.requires.countable) in
    subst (λ (r : Result Heard FollowFault). Steps a u m c.args.offset r (holding c.apply_front.new.inbox) n before after) (sym told)
    (subst (λ (b : FollowState). Steps a u m c.args.offset (Err fault) b n before after) (sym (ap holding c.in_err-used.ensures.kept ∙ c.self.view_is))
    (follow_fault a m n c.args.offset room fault before after c.requires.streams all (subst (λ (v : List ℕ). AppliesFront v room m (Err fault) n before after) kept c.in_err-used.ensures.applied) u ag))
  where
    holding : List ℕ → FollowState
    holding kept = record { phase = c.self.inside.phase; offer = c.self.inside.offer; port = c.self.inside.port; taking = c.self.inside.taking; kept = kept }

pub returns : goal.returns
returns c =
    let a : FollowState = c.args.self.now in
    let m = c.args.held.now in let n = c.apply_front.new.held in
    let before = c.args.out.now.items in let after = c.apply_front.new.out.items in
    let kept : c.self.inside.inbox ≡ a.kept = ap (λ (f : FollowState). f.kept) c.self.view_is in
    let room = offset_limit - c.args.offset in
    let all : c.args.offset + room ≡ offset_limit = omega (arith, c.requires.countable) in
    let used = c.in-Some.used in
    let found : AppliesFront c.self.inside.inbox room m (Ok (Some used)) n before after = subst (λ (o : Option ℕ). AppliesFront c.self.inside.inbox room m (Ok o) n before after) c.in-Some.is c.in_ok-used.ensures.applied in
    follow_applied a c.take.new.self m n c.args.offset room used before after c.requires.streams all (subst (λ (v : List ℕ). AppliesFront v room m (Ok (Some used)) n before after) kept found)
    (c.take.ensures ∙ ap (λ (f : FollowState). record f { phase = Stream; taking = None; kept = drop used f.kept }) (ap holding c.in_ok-used.ensures.kept ∙ c.self.view_is))
  where
    holding : List ℕ → FollowState
    holding kept = record { phase = c.self.inside.phase; offer = c.self.inside.offer; port = c.self.inside.port; taking = c.self.inside.taking; kept = kept }
