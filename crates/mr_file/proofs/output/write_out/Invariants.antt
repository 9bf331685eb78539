use Rattle.std.proofs.Common.{length, take, ◌≤◌}
use Rattle.std.specs.Io.KnownBytes.{Appends}
use Rattle.mr_file.proofs.output.write_out.Given as goal

-- the bytes before this place were written
abbrev pub invariant-loop-write : goal.invariant-loop-write
invariant-loop-write g l = record {
  within : l.at ≤ length l.bytes;
  written : Appends (g.W.Write.contents l.fn.output) (g.W.Write.contents l.output) (take l.at l.bytes);
}
