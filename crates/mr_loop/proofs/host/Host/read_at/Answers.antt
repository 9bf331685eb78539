use Rattle.std.proofs.Common.{ap, refl}
use Rattle.mr_loop.specs.Counting.{most_pieces}
use Rattle.mr_loop.specs.Hosts.{moment_in}
use Rattle.mr_loop.specs.Stage.{LoopState, stage}
use Rattle.mr_loop.proofs.Runs.{any_behind, any_of, any_still, stays_still, still_here}
use Rattle.mr_loop.proofs.host.Host.read_at.Goals as goal

pub returns-in_default-clause-went : goal.returns-in_default-clause-went
returns-in_default-clause-went g c = any_still most_pieces (still_here (moment_in g.S.Source.drawn c.args.self.now) _)

pub returns-clause-went : goal.returns-clause-went
returns-clause-went g c =
    let s = c.read_connection.new.self in
    any_behind most_pieces c.in_ok-left.left (any_of most_pieces c.in_ok-left.left c.in-Some.socket c.in_ok-left.ensures.went)
    (stays_still (moment_in g.S.Source.drawn s) (moment_in g.S.Source.drawn s) _ _ (ap (λ (o : LoopState). stage s.node.now o (g.W.Wire.links s.wire.now) (g.W.Wire.failures s.wire.now) (g.F.LogFile.told s.log.now.file) (g.F.LogFile.synced s.log.now.file)) c.note.ensures) refl)
