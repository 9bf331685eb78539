use Rattle.std.proofs.Common.{rules, ◌≡◌, true, subst}
use Rattle.std.specs.Bool.{⊤, MatchBool}
use Rattle.mr_data.specs.Whole.{names, TakesFirst}
use Rattle.mr_data.proofs.Leaving.{one_more}
use Rattle.mr_data.proofs.dataset.whole.take_all.Goals as goal

pub returns-then-not-takes_first : goal.returns-then-not-takes_first
returns-then-not-takes_first c = tt

pub loop-effect-preserved-whole : goal.loop-effect-preserved-whole
loop-effect-preserved-whole c =
    let takes : c.takes_first.result ≡ true = search rules in
    ((tt, tt), λ rest. c.loop-effect.invariant (one_more c.args.key.now c.args.effects.now _ c.effect-item.result _ _ c.loop-effect-test.true c.effect-item.is (subst (λ b. MatchBool b (TakesFirst c.args.key.now c.effect-item.result (names c.loop-effect.left) (names c.takes_first.new.left)) ⊤) takes c.takes_first.ensures) rest))
