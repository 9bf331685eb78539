use Rattle.std.proofs.Common.{[]}
use Rattle.mr_pipe.specs.Outside.{outside}
use Rattle.mr_pipe.specs.State.{PipeState, Stands}
use Rattle.mr_pipe.specs.Piped.{Relays}
use Rattle.mr_pipe.proofs.relay.relay.Given as goal

abbrev pub invariant-loop-round : goal.invariant-loop-round
invariant-loop-round g l = (s : PipeState) → Stands l.fn.linked s []
    → Relays l.given s [] (outside g.W.Write.contents g.F.LogFile.told g.F.LogFile.synced g.F.LogFile.failures l.fn.output l.fn.log)
    (g.R.Read.remaining l.fn.input) (g.R.Read.remaining l.input) l.linked (outside g.W.Write.contents g.F.LogFile.told g.F.LogFile.synced g.F.LogFile.failures l.output l.log)
