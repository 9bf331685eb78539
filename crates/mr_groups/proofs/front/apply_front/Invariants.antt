use Rattle.std.proofs.Common.{length, take, drop, ◌-◌, ◌≤◌}
use Rattle.mr_groups.specs.Folding.{LeadsByItems}
use Rattle.mr_groups.specs.Readers.{HasRead}
use Rattle.mr_groups.proofs.front.apply_front.Given as goal

-- the bytes before this place were done
abbrev pub invariant-turns : goal.invariant-turns
invariant-turns l = record {
  within : l.used ≤ length l.bytes;
  led : LeadsByItems (take l.used l.bytes) l.fn.dataset l.dataset;
  kept : HasRead l.reader (drop l.used l.bytes);
}

abbrev pub decreases-turns : goal.decreases-turns
decreases-turns l = length l.bytes - l.used
