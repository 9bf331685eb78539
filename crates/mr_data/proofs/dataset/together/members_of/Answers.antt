use Rattle.std.proofs.Common.{rules, ◌≡◌, [], true, refl, sym, subst, append-nil}
use Rattle.std.specs.Bool.{⊤, MatchBool}
use Rattle.std.proofs.lemmas.List.{drop_all}
use Rattle.mr_map.specs.Bytes.{lent}
use Rattle.mr_data.specs.Whole.{TakeAll, TakesMore}
use Rattle.mr_data.proofs.Leaving.{more_named}
use Rattle.mr_data.proofs.dataset.together.members_of.Goals as goal

pub loop-effect-preserved : goal.loop-effect-preserved
loop-effect-preserved c =
    let takes : c.takes_more.result ≡ true = search rules in
    more_named c.args.key.now c.args.effects.now c.loop-effect.effect-index c.effect-item.result (lent c.loop-effect.members.items) (lent c.takes_more.new.members.items) c.loop-effect-test.true c.effect-item.is
    (subst (λ b. MatchBool b (TakesMore c.args.key.now c.effect-item.result (lent c.loop-effect.members.items) (lent c.takes_more.new.members.items)) ⊤) takes c.takes_more.ensures) c.loop-effect.invariant

pub returns : goal.returns
returns c =
    let none = drop_all c.loop-effect.effect-index c.args.effects.now c.loop-effect-test.false in
    subst (TakeAll c.args.key.now c.args.effects.now) (append-nil (lent c.loop-effect.members.items)) (c.loop-effect.invariant [] (subst (λ es. TakeAll c.args.key.now es []) (sym none) refl))
