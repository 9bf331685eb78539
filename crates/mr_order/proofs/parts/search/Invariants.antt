use Rattle.std.proofs.Common.{◌-◌}
use Rattle.std.specs.List.{flat_map}
use Rattle.mr_order.proofs.Narrow.{IsNarrowed}
use Rattle.mr_order.proofs.parts.search.Given as goal

abbrev pub invariant-loop-from : goal.invariant-loop-from
invariant-loop-from g l = IsNarrowed (g.Q.Query.compare l.query) (flat_map g.P.Part.items l.parts) l.low l.high l.fn.steps.count l.from l.to l.steps.count

abbrev pub decreases-loop-from : goal.decreases-loop-from
decreases-loop-from g l = l.to - l.from
