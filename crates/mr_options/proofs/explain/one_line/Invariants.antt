use Rattle.std.proofs.Common.{string_bytes}
use Rattle.mr_options.specs.Outcomes.{IsOneLine}
use Rattle.mr_options.proofs.explain.one_line.Given as goal

abbrev pub invariant-loop-c : goal.invariant-loop-c
invariant-loop-c l = IsOneLine (string_bytes l.line)
