use Rattle.std.proofs.Common.{◌-◌, ◌≤◌, ◌^◌}
use Rattle.mr_file.proofs.beside.copy_from.Given as goal

abbrev pub invariant-pieces : goal.invariant-pieces
invariant-pieces l = l.from ≤ l.at

abbrev pub decreases-pieces : goal.decreases-pieces
decreases-pieces l = 2 ^ 64 - l.at
