use Rattle.std.proofs.Common.{ℕ, List}
use Rattle.mr_pipe.specs.Outside.{outside}
use Rattle.mr_pipe.specs.State.{PipeState, Stands}
use Rattle.mr_pipe.specs.Serving.{Going}
use Rattle.mr_pipe.proofs.serve.drain.Given as goal

abbrev pub invariant-loop-step : goal.invariant-loop-step
invariant-loop-step g l = (s : PipeState) (u : List ℕ) → Stands l.fn.linked s u
    → Going l.given s u (outside g.W.Write.contents g.F.LogFile.told g.F.LogFile.synced g.F.LogFile.failures l.fn.output l.fn.log)
    l.linked (outside g.W.Write.contents g.F.LogFile.told g.F.LogFile.synced g.F.LogFile.failures l.output l.log)
