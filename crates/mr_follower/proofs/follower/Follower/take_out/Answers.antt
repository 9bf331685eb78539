use Rattle.std.proofs.Common.{rules, ◌≡◌, ℕ, List, Option, Some, None, Ok, drop, sym, ap, subst, ◌∙◌}
use Rattle.mr_peer_lines.specs.Lines.{size}
use Rattle.mr_follower.specs.Lines.{IsFront, HearsLength}
use Rattle.mr_follower.specs.State.{FollowState}
use Rattle.mr_follower.specs.declared.status.Announced.{Announced}
use Rattle.mr_follower.specs.declared.taking.Taking.{Taking}
use Rattle.mr_follower.proofs.Stepping.{line_out, retaken}
use Rattle.mr_follower.proofs.follower.Follower.take_out.Goals as goal

pub returns : goal.returns
returns c =
    let a : FollowState = c.args.self.now in
    let t : Taking = c.new-taking.result in
    let announced = c.in-Some-2.announced in
    let kept : c.unread.result.now ≡ a.kept = c.unread.ensures ∙ ap (λ (f : FollowState). f.kept) c.self.view_is in
    let heard : HearsLength c.unread.result.now (Ok (Some announced)) = subst (λ (o : Option Announced). HearsLength c.unread.result.now (Ok o)) c.in-Some-2.is c.in_ok-announced.ensures in
    let front : IsFront a.kept announced.used (size announced.length) = subst (λ (l : List ℕ). IsFront l announced.used (size announced.length)) kept heard in
    let line : IsFront a.kept announced.used (size t.size) = subst (λ (n : ℕ). IsFront a.kept announced.used (size n)) (sym c.new-taking.ensures.size) front in
    let none : c.self.inside.taking ≡ None = search rules in
    let untaken : a.taking ≡ None = ap (λ (f : FollowState). f.taking) (sym c.self.view_is) ∙ none in
    let emptied : c.take.new.self ≡ None = search rules in
    let left : c.take-2.new.self ≡ drop announced.used a.kept = c.take-2.ensures ∙ ap (λ (f : FollowState). drop announced.used f.kept) c.self.view_is in
    let v : FollowState = record { phase = c.self.inside.phase; offer = c.self.inside.offer; port = c.self.inside.port; taking = c.self.inside.taking; kept = c.self.inside.inbox } in
    let b : FollowState = record { phase = c.self.inside.phase; offer = c.self.inside.offer; port = c.self.inside.port; taking = c.take.new.self; kept = c.take-2.new.self } in
    line_out a b t announced.used untaken line c.new-taking.ensures.head c.new-taking.ensures.done c.new-taking.ensures.made (retaken a v c.take.new.self None c.take-2.new.self (drop announced.used a.kept) c.self.view_is emptied left)
