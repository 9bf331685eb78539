use Rattle.std.proofs.Common.{rules, ◌≡◌, Err, arith, true}
use Rattle.mr_loop.specs.Hosts.{moment_in}
use Rattle.mr_loop.proofs.Same.{same_here, same_on}
use Rattle.mr_loop.specs.Counting.{accepts_by, most_accepted}
use Rattle.mr_loop.proofs.Runs.{broke_moded, reaches_as, reaches_moded, reaches_next, reaches_none, reaches_still, still_broke, still_here, still_moded, still_on, up_to_broke}
use Rattle.mr_loop.proofs.host.Host.accept_all.Goals as goal

pub loop-init : goal.loop-init
loop-init g c = (reaches_none accepts_by true (still_here _ _), same_here _, λ q. q)

pub returns-in_err-accept_next-clause-went : goal.returns-in_err-accept_next-clause-went
returns-in_err-accept_next-clause-went g c =
    let why = c.in_err-accept_next.field-0.0 in
    let told : c.from_residual.result ≡ Err why = search rules in
    up_to_broke accepts_by most_accepted (moment_in g.S.Source.drawn c.args.self.now) (moment_in g.S.Source.drawn c.accept_next.new.self) c.from_residual.result why told
    (still_broke c.loop.invariant.0.still (broke_moded c.loop.self.log.now.mode c.args.self.now.log.now.mode c.loop.invariant.1.mode c.in_err-accept_next.ensures.went))

pub returns-in_err-accept_next-clause-same : goal.returns-in_err-accept_next-clause-same
returns-in_err-accept_next-clause-same g c = same_on c.args.self.now c.loop.self c.accept_next.new.self c.loop.invariant.1 c.accept_next.ensures.same

pub returns-then-not-branch-clause-went : goal.returns-then-not-branch-clause-went
returns-then-not-branch-clause-went g c = reaches_still accepts_by most_accepted (still_on c.loop.invariant.0.still (still_moded c.loop.self.log.now.mode c.args.self.now.log.now.mode c.loop.invariant.1.mode c.in_ok-accept_next.ensures.went.still))

pub returns-then-not-branch-clause-same : goal.returns-then-not-branch-clause-same
returns-then-not-branch-clause-same g c = same_on c.args.self.now c.loop.self c.accept_next.new.self c.loop.invariant.1 c.accept_next.ensures.same

pub returns-then-not-branch-clause-quiet : goal.returns-then-not-branch-clause-quiet
returns-then-not-branch-clause-quiet g c = λ q. c.in_ok-accept_next.ensures.quiet (c.loop.invariant.2 q)

pub loop-preserved : goal.loop-preserved
loop-preserved g c = (
  reaches_next accepts_by c.loop.counter c.in_ok-accept_next.field-0 c.if-not-branch.false c.loop.invariant.0 (reaches_moded c.loop.self.log.now.mode c.args.self.now.log.now.mode c.loop.invariant.1.mode c.in_ok-accept_next.ensures.went),
  same_on c.args.self.now c.loop.self c.accept_next.new.self c.loop.invariant.1 c.accept_next.ensures.same,
  λ q. c.in_ok-accept_next.ensures.quiet (c.loop.invariant.2 q),
)

pub returns-clause-went : goal.returns-clause-went
returns-clause-went g c = let all : c.loop.counter ≡ most_accepted = omega arith in reaches_as accepts_by c.loop.counter most_accepted true all c.loop.invariant.0

pub returns-clause-same : goal.returns-clause-same
returns-clause-same g c = c.loop.invariant.1

pub returns-clause-quiet : goal.returns-clause-quiet
returns-clause-quiet g c = c.loop.invariant.2
