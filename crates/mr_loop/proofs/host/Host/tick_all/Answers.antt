use Rattle.std.proofs.Common.{rules, ◌≡◌, ◌∙◌, ◌+◌, ◌-◌, arith, ap, subst, Err}
use Rattle.mr_loop.specs.Counting.{Passes, most_ticks}
use Rattle.mr_loop.specs.Hosts.{moment_in, stage_in}
use Rattle.mr_loop.proofs.Same.{same_here, same_on}
use Rattle.mr_loop.proofs.Ticks.{all_passed, breaks_passing, enough_passed, none_passed, one_passed, passes_moded}
use Rattle.mr_loop.proofs.host.Host.tick_all.Goals as goal

pub loop-left-init : goal.loop-left-init
loop-left-init g c =
    let a = c.args.self.now in (
      none_passed (most_ticks a.moment.turn.done) c.most_ticks-left.result (moment_in g.S.Source.drawn a) (stage_in g.W.Wire.links g.W.Wire.failures g.F.LogFile.told g.F.LogFile.synced a) (c.most_ticks-left.ensures ∙ ap (λ turn. most_ticks turn.done) c.turn.ensures),
      same_here a,
      λ q. q,
    )

pub loop-left-preserved : goal.loop-left-preserved
loop-left-preserved g c =
    let a = c.args.self.now in
    let m = c.loop-left.self in
    let on = stage_in g.W.Wire.links g.W.Wire.failures g.F.LogFile.told g.F.LogFile.synced in
    let one : c.loop-left.left ≡ (c.loop-left.left - 1) + 1 = omega (arith, c.loop-left-test.true) in (
      one_passed c.loop-left.left (c.loop-left.left - 1) one c.loop-left.invariant.0 (passes_moded m.log.now.mode a.log.now.mode c.loop-left.invariant.1.mode (subst (λ k. Passes g.W.Wire.tells m.log.now.mode 1 k (moment_in g.S.Source.drawn m) (moment_in g.S.Source.drawn c.tick.new.self) (on m) (on c.tick.new.self)) (c.in_ok-tick.ensures.went.goes_on c.if-not-branch.false) c.in_ok-tick.ensures.went.went)),
      same_on a m c.tick.new.self c.loop-left.invariant.1 c.tick.ensures.same,
      λ q. c.in_ok-tick.ensures.quiet (c.loop-left.invariant.2 q),
    )

pub returns-in_err-tick-clause-went : goal.returns-in_err-tick-clause-went
returns-in_err-tick-clause-went g c =
    let a = c.args.self.now in
    let m = c.loop-left.self in
    let why = c.in_err-tick.field-0.0 in
    let told : c.from_residual.result ≡ Err why = search rules in
    breaks_passing g.W.Wire.tells g.W.Wire.links g.W.Wire.failures g.F.LogFile.told g.F.LogFile.synced g.S.Source.drawn a c.tick.new.self c.loop-left.left (most_ticks a.moment.turn.done) (moment_in g.S.Source.drawn m) (stage_in g.W.Wire.links g.W.Wire.failures g.F.LogFile.told g.F.LogFile.synced m) m.log.now.mode c.from_residual.result why told
    c.loop-left.invariant.1.mode c.loop-left.invariant.0 c.in_err-tick.ensures.went

pub returns-in_err-tick-clause-same : goal.returns-in_err-tick-clause-same
returns-in_err-tick-clause-same g c = same_on c.args.self.now c.loop-left.self c.tick.new.self c.loop-left.invariant.1 c.tick.ensures.same

pub returns-then-not-branch-clause-went : goal.returns-then-not-branch-clause-went
returns-then-not-branch-clause-went g c =
    let a = c.args.self.now in
    let m = c.loop-left.self in
    let one : c.loop-left.left ≡ (c.loop-left.left - 1) + 1 = omega (arith, c.loop-left-test.true) in
    enough_passed g.W.Wire.tells g.W.Wire.links g.W.Wire.failures g.F.LogFile.told g.F.LogFile.synced g.S.Source.drawn a c.tick.new.self c.loop-left.left (c.loop-left.left - 1) (most_ticks a.moment.turn.done) c.in_ok-tick.ensures.went.missed (moment_in g.S.Source.drawn m) (stage_in g.W.Wire.links g.W.Wire.failures g.F.LogFile.told g.F.LogFile.synced m) c.in_ok-tick.field-0 one
    c.loop-left.invariant.0 (passes_moded m.log.now.mode a.log.now.mode c.loop-left.invariant.1.mode c.in_ok-tick.ensures.went.went)
    c.in_ok-tick.ensures.went.keeps_up c.if-not-branch.true

pub returns-then-not-branch-clause-same : goal.returns-then-not-branch-clause-same
returns-then-not-branch-clause-same g c = same_on c.args.self.now c.loop-left.self c.tick.new.self c.loop-left.invariant.1 c.tick.ensures.same

pub returns-then-not-branch-clause-quiet : goal.returns-then-not-branch-clause-quiet
returns-then-not-branch-clause-quiet g c = λ q. c.in_ok-tick.ensures.quiet (c.loop-left.invariant.2 q)

pub returns-clause-went : goal.returns-clause-went
returns-clause-went g c =
    let none : c.loop-left.left ≡ 0 = omega (arith, c.loop-left-test.false) in
    all_passed g.W.Wire.tells g.W.Wire.links g.W.Wire.failures g.F.LogFile.told g.F.LogFile.synced g.S.Source.drawn c.args.self.now c.loop-left.self c.loop-left.left c.args.self.now.moment.turn.done none c.loop-left.invariant.0

pub returns-clause-same : goal.returns-clause-same
returns-clause-same g c = c.loop-left.invariant.1

pub returns-clause-quiet : goal.returns-clause-quiet
returns-clause-quiet g c = c.loop-left.invariant.2
