use Rattle.std.proofs.Common.{◌≡◌, drop}
use Rattle.mr_value.proofs.list_value.drop_front.Given as goal

abbrev pub invariant-loop : goal.invariant-loop
invariant-loop l = l.items.items ≡ drop l.counter l.fn.items.items
