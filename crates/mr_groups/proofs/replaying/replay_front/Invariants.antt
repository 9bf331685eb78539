use Rattle.std.proofs.Common.{length, take, drop, ◌-◌, ◌≤◌}
use Rattle.mr_resp.specs.Resumed.{MayAgree}
use Rattle.mr_groups.specs.Effects.{Leads}
use Rattle.mr_groups.proofs.replaying.replay_front.Given as goal

-- the bytes before this place were done
abbrev pub invariant-texts : goal.invariant-texts
invariant-texts l = record {
  within : l.used ≤ length l.bytes;
  led : Leads (take l.used l.bytes) l.fn.dataset l.dataset;
  known : MayAgree l.progress (drop l.used l.bytes);
}

abbrev pub decreases-texts : goal.decreases-texts
decreases-texts l = length l.bytes - l.used
