use Rattle.mr_loop.specs.Counting.{pieces_by}
use Rattle.mr_loop.proofs.Rounds.{InRoundsUpTo}
use Rattle.mr_loop.proofs.host.Host.read_connection.Given as goal

abbrev pub invariant-loop-round : goal.invariant-loop-round
invariant-loop-round g l = InRoundsUpTo g.W.Wire.tells g.W.Wire.links g.W.Wire.failures g.W.Wire.waited g.F.LogFile.failures g.F.LogFile.told g.F.LogFile.synced g.S.Source.drawn (pieces_by l.fn.socket) l.round l.fn.self l.self
