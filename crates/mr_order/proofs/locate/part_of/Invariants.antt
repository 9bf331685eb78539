use Rattle.std.proofs.Common.{◌-◌}
use Rattle.mr_order.proofs.Locating.{IsAmong}
use Rattle.mr_order.proofs.locate.part_of.Given as goal

abbrev pub invariant-loop-part : goal.invariant-loop-part
invariant-loop-part g l = IsAmong (g.Q.Query.compare l.query) g.P.Part.items l.parts l.part l.past

abbrev pub decreases-loop-part : goal.decreases-loop-part
decreases-loop-part g l = l.past - l.part
