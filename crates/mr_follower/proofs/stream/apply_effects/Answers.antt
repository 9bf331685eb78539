use Rattle.std.proofs.Common.{rules, ◌≡◌, ℕ, List, sym, subst, Err}
use Rattle.mr_follower.specs.Stream.{AppliesEffects}
use Rattle.mr_follower.proofs.Fronts.{group_lacks}
use Rattle.mr_follower.proofs.stream.apply_effects.Goals as goal

pub returns-then-is_err : goal.returns-then-is_err
returns-then-is_err c =
    let m = c.args.held.now in
    let es = c.args.effects.items in
    let before = c.args.out.now.items in
    let same : c.extend_from_slice.new.self.items ≡ before = search rules in
    subst (λ (l : List ℕ). AppliesEffects c.args.text.now es m (Err c.lack_of.result) m before l) (sym same)
    (group_lacks c.args.text.now es m c.index.result.now c.lack_of.result before c.requires c.index.ensures c.lack_of.ensures)
