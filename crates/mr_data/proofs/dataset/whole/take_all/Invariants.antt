use Rattle.std.proofs.Common.{drop}
use Rattle.mr_data.specs.Whole.{names, TakeAll}
use Rattle.mr_data.proofs.dataset.whole.take_all.Given as goal

-- where the effects that are left take out what is left, all of them take out all
abbrev pub invariant-loop-effect : goal.invariant-loop-effect
invariant-loop-effect l = TakeAll l.key (drop l.effect-index l.effects) (names l.left) → TakeAll l.key l.effects (names l.fn.members)
