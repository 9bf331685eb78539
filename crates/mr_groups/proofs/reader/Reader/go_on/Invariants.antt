use Rattle.std.proofs.Common.{length, drop, ◌-◌}
use Rattle.mr_resp.specs.Resumed.{MayAgree}
use Rattle.mr_groups.specs.Readers.{AreRead}
use Rattle.mr_groups.proofs.reader.Reader.go_on.Given as goal

-- a frame's beginning and the effects so far stand before this place
abbrev pub invariant-parts : goal.invariant-parts
invariant-parts l = record {
  read : AreRead l.bytes l.self.used l.self.effects;
  known : MayAgree l.self.known (drop l.self.used l.bytes);
}

abbrev pub decreases-parts : goal.decreases-parts
decreases-parts l = length l.bytes - l.self.used
