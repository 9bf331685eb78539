use Rattle.std.proofs.Common.{◌-◌}
use Rattle.mr_order.proofs.Ranges.{IsCutTo}
use Rattle.mr_order.proofs.cutting.remove_range_from.Given as goal

abbrev pub invariant-loop-end : goal.invariant-loop-end
invariant-loop-end g l = IsCutTo g.P.Part.items g.P.Part.is_kept l.fn.parts.items l.parts.items l.from l.to l.end

abbrev pub decreases-loop-end : goal.decreases-loop-end
decreases-loop-end g l = l.end - l.from
