use Rattle.std.proofs.Common.{rules, ◌≡◌, Err, subst}
use Rattle.mr_loop.specs.Hosts.{moment_in, stage_in}
use Rattle.mr_loop.specs.Quiet.{WaitsUnless}
use Rattle.mr_loop.proofs.Same.{same_here, same_on}
use Rattle.mr_loop.proofs.Runs.{breaks, broke_moded, still_broke, still_here, still_moded, still_on}
use Rattle.mr_loop.proofs.host.Host.step_all.Goals as goal

pub loop-init : goal.loop-init
loop-init g c = (still_here (moment_in g.S.Source.drawn c.args.self.now) (stage_in g.W.Wire.links g.W.Wire.failures g.F.LogFile.told g.F.LogFile.synced c.args.self.now), same_here c.args.self.now, λ q. q, c.requires)

pub step_next-requires : goal.step_next-requires
step_next-requires g c = c.loop.invariant.3

pub returns-in_err-step_next-clause-went : goal.returns-in_err-step_next-clause-went
returns-in_err-step_next-clause-went g c =
    let a = c.args.self.now in
    let why = c.in_err-step_next.field-0.0 in
    let told : c.from_residual.result ≡ Err why = search rules in
    breaks (moment_in g.S.Source.drawn a) (moment_in g.S.Source.drawn c.step_next.new.self) c.from_residual.result why told (still_broke c.loop.invariant.0 (broke_moded c.loop.self.log.now.mode a.log.now.mode c.loop.invariant.1.mode c.in_err-step_next.ensures.went))

pub returns-in_err-step_next-clause-same : goal.returns-in_err-step_next-clause-same
returns-in_err-step_next-clause-same g c = same_on c.args.self.now c.loop.self c.step_next.new.self c.loop.invariant.1 c.step_next.ensures.same

pub loop-smaller : goal.loop-smaller
loop-smaller g c = c.in_ok-step_next.ensures.uses c.if-branch.true

pub loop-preserved : goal.loop-preserved
loop-preserved g c = (
  still_on c.loop.invariant.0 (still_moded c.loop.self.log.now.mode c.args.self.now.log.now.mode c.loop.invariant.1.mode c.in_ok-step_next.ensures.went),
  same_on c.args.self.now c.loop.self c.step_next.new.self c.loop.invariant.1 c.step_next.ensures.same,
  λ q. subst (λ used. WaitsUnless used c.args.link c.step_next.new.self.node.now) c.if-branch.true (c.in_ok-step_next.ensures.quiet (c.loop.invariant.2 q)),
  c.in_ok-step_next.ensures.linked c.if-branch.true,
)

pub returns-clause-went : goal.returns-clause-went
returns-clause-went g c = still_on c.loop.invariant.0 (still_moded c.loop.self.log.now.mode c.args.self.now.log.now.mode c.loop.invariant.1.mode c.in_ok-step_next.ensures.went)

pub returns-clause-same : goal.returns-clause-same
returns-clause-same g c = same_on c.args.self.now c.loop.self c.step_next.new.self c.loop.invariant.1 c.step_next.ensures.same

pub returns-clause-quiet : goal.returns-clause-quiet
returns-clause-quiet g c = λ q. subst (λ used. WaitsUnless used c.args.link c.step_next.new.self.node.now) c.if-branch.false (c.in_ok-step_next.ensures.quiet (c.loop.invariant.2 q))
