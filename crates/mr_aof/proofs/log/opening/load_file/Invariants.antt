use Rattle.std.proofs.Common.{◌≡◌, ◌≤◌, IfSome}
use Rattle.mr_aof.specs.ReadThrough.{IsKnownEnd}
use Rattle.mr_aof.proofs.Opened.{bound}
use Rattle.mr_aof.proofs.log.opening.load_file.Given as goal

-- no more than what is known to be the longest beginning is read again
abbrev pub invariant-passes : goal.invariant-passes
invariant-passes g l = record {
  known : IfSome (g.F.LogFile.told l.fn.file) (λ xs. IsKnownEnd xs l.end);
  same : g.F.LogFile.told l.file ≡ g.F.LogFile.told l.fn.file;
  beside : g.F.LogFile.aside l.file ≡ g.F.LogFile.aside l.fn.file;
  later : g.F.LogFile.failures l.fn.file ≤ g.F.LogFile.failures l.file;
}

abbrev pub decreases-passes : goal.decreases-passes
decreases-passes g l = bound l.end
