use Rattle.std.proofs.Common.{◌≡◌, ◌++◌, ◌-◌, take}
use Rattle.mr_cmd_set.specs.Grouping.{lent}
use Rattle.mr_cmd_set.proofs.drawing.Drawn.extend.Given as goal

abbrev pub invariant-loop : goal.invariant-loop
invariant-loop l = lent l.self.items.items ++ take (l.fn.count - l.counter) l.members ≡ lent l.fn.self.items.items ++ take l.fn.count l.fn.members
