use Rattle.std.proofs.Common.{rules, ◌≡◌, ◌+◌, Err, arith, refl, true}
use Rattle.mr_loop.specs.Counting.{most_pieces, pieces_by}
use Rattle.mr_loop.specs.Hosts.{moment_in}
use Rattle.mr_loop.proofs.Rounds.{goes_broke, goes_on, up_to_begins}
use Rattle.mr_loop.proofs.Same.{same_on}
use Rattle.mr_loop.proofs.Runs.{reaches_as, reaches_behind, reaches_moded, reaches_next, reaches_still, still_moded, up_to_broke}
use Rattle.mr_loop.proofs.host.Host.read_connection.Goals as goal

pub loop-round-init : goal.loop-round-init
loop-round-init g c = up_to_begins g.W.Wire.tells g.W.Wire.links g.W.Wire.failures g.W.Wire.waited g.F.LogFile.failures g.F.LogFile.told g.F.LogFile.synced g.S.Source.drawn (pieces_by c.args.socket) c.args.self.now

pub returns-in_default-clause-went : goal.returns-in_default-clause-went
returns-in_default-clause-went g c = reaches_still (pieces_by c.args.socket) most_pieces
    (goes_on g.W.Wire.tells g.W.Wire.links g.W.Wire.failures g.W.Wire.waited g.F.LogFile.failures g.F.LogFile.told g.F.LogFile.synced g.S.Source.drawn c.args.self.now c.loop-round.self c.read_piece.new.self c.loop-round.invariant.same c.loop-round.invariant.went.still c.read_piece.ensures.went.still)

pub returns-in_err-step_all-clause-went : goal.returns-in_err-step_all-clause-went
returns-in_err-step_all-clause-went g c =
    let why = c.in_err-step_all.field-0.0 in
    let told : c.from_residual.result ≡ Err why = search rules in
    let same = same_on c.args.self.now c.loop-round.self c.read_piece.new.self c.loop-round.invariant.same c.read_piece.ensures.same in
    let went = goes_on g.W.Wire.tells g.W.Wire.links g.W.Wire.failures g.W.Wire.waited g.F.LogFile.failures g.F.LogFile.told g.F.LogFile.synced g.S.Source.drawn c.args.self.now c.loop-round.self c.read_piece.new.self c.loop-round.invariant.same c.loop-round.invariant.went.still c.read_piece.ensures.went.still in
    up_to_broke (pieces_by c.args.socket) most_pieces (moment_in g.S.Source.drawn c.args.self.now) (moment_in g.S.Source.drawn c.step_all.new.self) c.from_residual.result why told (goes_broke g.W.Wire.tells g.W.Wire.links g.W.Wire.failures g.W.Wire.waited g.F.LogFile.failures g.F.LogFile.told g.F.LogFile.synced g.S.Source.drawn c.args.self.now c.read_piece.new.self c.step_all.new.self why same went c.in_err-step_all.ensures.went)

pub loop-round-preserved : goal.loop-round-preserved
loop-round-preserved g c =
    let mode = c.args.self.now.log.now.mode in
    let same = same_on c.args.self.now c.loop-round.self c.read_piece.new.self c.loop-round.invariant.same c.read_piece.ensures.same in
    record {
      went = reaches_behind (pieces_by c.args.socket) (c.loop-round.round + 1) true
          (reaches_next (pieces_by c.args.socket) c.loop-round.round true refl c.loop-round.invariant.went (reaches_moded c.loop-round.self.log.now.mode mode c.loop-round.invariant.same.mode c.in-Some.ensures.went))
          (still_moded c.read_piece.new.self.log.now.mode mode same.mode c.in_ok-step_all.ensures.went);
      same = same_on c.args.self.now c.read_piece.new.self c.step_all.new.self same c.step_all.ensures.same;
      quiet = λ q. c.in_ok-step_all.ensures.quiet (c.in-Some.ensures.quiet (c.loop-round.invariant.quiet q));
    }

pub returns-clause-went : goal.returns-clause-went
returns-clause-went g c = let all : c.loop-round.round ≡ most_pieces = omega arith in reaches_as (pieces_by c.args.socket) c.loop-round.round most_pieces true all c.loop-round.invariant.went
