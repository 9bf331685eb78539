use Rattle.std.proofs.Common.{rules, ◌≡◌, Some, ap, refl}
use Rattle.mr_loop.specs.Stage.{LoopState, connection_at, stage}
use Rattle.mr_loop.specs.Hosts.{moment_in}
use Rattle.mr_loop.specs.Counting.{pieces_by}
use Rattle.mr_loop.proofs.Runs.{reaches_still, stays_still, still_here}
use Rattle.mr_loop.proofs.host.Host.read_piece.Goals as goal

pub returns-in_default-clause-went : goal.returns-in_default-clause-went
returns-in_default-clause-went g c = reaches_still (pieces_by c.args.socket) 1 (still_here _ _)

pub returns-in_default-link-clause-went : goal.returns-in_default-link-clause-went
returns-in_default-link-clause-went g c = reaches_still (pieces_by c.args.socket) 1 (still_here _ _)

pub returns-then-is_full-clause-went : goal.returns-then-is_full-clause-went
returns-then-is_full-clause-went g c =
    let s = c.args.self.now in
    reaches_still (pieces_by c.args.socket) 1 (stays_still (moment_in g.S.Source.drawn s) (moment_in g.S.Source.drawn s) _ _ (ap (λ (o : LoopState). stage s.node.now o (g.W.Wire.links s.wire.now) (g.W.Wire.failures s.wire.now) (g.F.LogFile.told s.log.now.file) (g.F.LogFile.synced s.log.now.file)) c.narrow.ensures) refl)

pub returns-in_default-room-clause-went : goal.returns-in_default-room-clause-went
returns-in_default-room-clause-went g c = reaches_still (pieces_by c.args.socket) 1 (still_here _ _)

pub returns-then-most-eq0-clause-went : goal.returns-then-most-eq0-clause-went
returns-then-most-eq0-clause-went g c = reaches_still (pieces_by c.args.socket) 1 (still_here _ _)

pub read_into-requires-clause-read : goal.read_into-requires-clause-read
read_into-requires-clause-read g c =
    let connection = c.in-Some.connection.now in
    let is : connection_at c.args.self.now.own.now c.args.socket ≡ Some connection = search rules in
    let linked : connection.link ≡ Some c.in-Some-link.link = search rules in
    record { connection = connection; is = is; linked = linked; few = c.is_full.ensures c.if-is_full.false }
