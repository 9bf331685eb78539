use Rattle.std.proofs.Common.{rules, ◌≡◌, ℕ, List, sym, subst, Err}
use Rattle.mr_follower.specs.Stream.{AppliesEffect}
use Rattle.mr_follower.proofs.Fronts.{effect_lacks}
use Rattle.mr_follower.proofs.single.apply_effect.Goals as goal

pub returns-then-is_err : goal.returns-then-is_err
returns-then-is_err c =
    let m = c.args.held.now in
    let before = c.args.out.now.items in
    let same : c.extend_from_slice.new.self.items ≡ before = search rules in
    subst (λ (l : List ℕ). AppliesEffect c.args.text.now c.args.effect m (Err c.lack_of.result) m before l) (sym same)
    (effect_lacks c.args.text.now c.args.effect m c.lack_of.result before c.lack_of.ensures)
