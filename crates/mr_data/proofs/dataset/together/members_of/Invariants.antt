use Rattle.std.proofs.Common.{List, ◌++◌, drop}
use Rattle.mr_map.specs.Bytes.{lent, Bytes}
use Rattle.mr_data.specs.Whole.{TakeAll}
use Rattle.mr_data.proofs.dataset.together.members_of.Given as goal

-- what the effects that are left take out comes behind the members so far
abbrev pub invariant-loop-effect : goal.invariant-loop-effect
invariant-loop-effect l = (rest : List Bytes) → TakeAll l.key (drop l.effect-index l.effects) rest → TakeAll l.key l.effects (lent l.members.items ++ rest)
