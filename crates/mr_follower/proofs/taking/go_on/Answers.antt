use Rattle.std.proofs.Common.{◌≡◌, ◌+◌, ◌-◌, ℕ, List, eqb, length, take, subst, sym, ap, ◌∙◌}
use Rattle.std.proofs.lemmas.Bool.{eqb-true, eqb-false}
use Rattle.mr_follower.specs.Loading.{GoesOn, pause_of}
use Rattle.mr_follower.specs.declared.taking.Taking.{Taking}
use Rattle.mr_follower.specs.declared.taking.Pause.{Pause}
use Rattle.mr_follower.proofs.Loadings.{gone_on}
use Rattle.mr_follower.proofs.taking.go_on.Goals as goal

pub returns : goal.returns
returns c =
    let t : Taking = c.args.taking in
    let u = c.args.inbox.now in
    let left = t.size - t.done in
    let replayed = c.replay-replayed.result in
    let made = c.replay-replayed.new.made in
    let there : c.at_most.result.now ≡ take left u = c.at_most.ensures ∙ ap (take left) c.unread.ensures in
    let is : c.pause_of-pause.result ≡ pause_of replayed.halt (eqb (length c.at_most.result.now) left) (eqb (t.done + replayed.used) t.size) = c.pause_of-pause.ensures in
    let paused : c.pause_of-pause.result ≡ pause_of replayed.halt (eqb (length (take left u)) left) (eqb (t.done + replayed.used) t.size) =
    is ∙ ap (λ (l : List ℕ). pause_of replayed.halt (eqb (length l) left) (eqb (t.done + replayed.used) t.size)) there in
    let on = subst (λ (p : Pause). GoesOn t u replayed.used p (record { head = t.head; size = t.size; done = t.done + replayed.used; made = made })) (sym paused)
    (gone_on t u replayed.used made replayed.halt (eqb (length (take left u)) left) (eqb (t.done + replayed.used) t.size) c.requires c.replay-replayed.ensures.done
    (eqb-true (length (take left u)) left) (eqb-false (length (take left u)) left) (eqb-true (t.done + replayed.used) t.size) (eqb-false (t.done + replayed.used) t.size)) in
    (replayed.used, on, c.replay-replayed.ensures.left)
