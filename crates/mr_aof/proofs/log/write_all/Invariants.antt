use Rattle.std.proofs.Common.{◌≡◌, length, ◌-◌, ◌≤◌}
use Rattle.mr_file.specs.LogFile.{Appends}
use Rattle.mr_aof.proofs.log.write_all.Given as goal

-- the bytes before this place were appended
abbrev pub invariant-loop-at : goal.invariant-loop-at
invariant-loop-at g l = record {
  within : l.at ≤ length l.piece;
  appended : Appends (g.F.LogFile.told l.fn.file) (g.F.LogFile.told l.file) l.piece l.at;
  covered : g.F.LogFile.synced l.file ≡ g.F.LogFile.synced l.fn.file;
  later : g.F.LogFile.failures l.fn.file ≤ g.F.LogFile.failures l.file;
}

abbrev pub decreases-loop-at : goal.decreases-loop-at
decreases-loop-at g l = length l.piece - l.at
