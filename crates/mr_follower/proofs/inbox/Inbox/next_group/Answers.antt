use Rattle.std.proofs.Common.{List, ℕ, ◌++◌, take, drop, sym, subst, ◌∙◌, ap, ◌≡◌}
use Rattle.std.proofs.lemmas.List.{take-append-drop}
use Rattle.mr_groups.specs.Readers.{HasRead}
use Rattle.mr_groups.proofs.Resuming.{reads_on}
use Rattle.mr_follower.proofs.inbox.Inbox.next_group.Goals as goal

pub next-requires : goal.next-requires
next-requires c =
    let u = c.self.inside.input in
    let front : c.at_most.result.now ≡ take c.args.most u = c.at_most.ensures ∙ ap (take c.args.most) c.left.ensures in
    let whole : u ≡ c.at_most.result.now ++ drop c.args.most u = sym (take-append-drop c.args.most u) ∙ ap (λ (l : List ℕ). l ++ drop c.args.most u) (sym front) in
    (drop c.args.most u, subst (λ (l : List ℕ). HasRead c.self.inside.reader l) whole c.self.invariant.0)

-- what was read of the front was read of all
pub invariant_of-self : goal.invariant_of-self
invariant_of-self c =
    let u = c.self.inside.input in
    let rest = drop c.args.most u in
    let front : c.at_most.result.now ≡ take c.args.most u = c.at_most.ensures ∙ ap (take c.args.most) c.left.ensures in
    let whole : c.at_most.result.now ++ rest ≡ u = ap (λ (l : List ℕ). l ++ rest) front ∙ take-append-drop c.args.most u in
    (subst (HasRead c.next.new.self) whole (reads_on c.next.new.self c.at_most.result.now rest c.next.ensures.kept), c.self.invariant.1)
