use Rattle.std.proofs.Common.{rules, ◌≡◌, Ok, Err, refl, sym, subst}
use Rattle.mr_pipe.specs.Outside.{outside}
use Rattle.mr_pipe.specs.Serving.{Going, IsStepped, IsDrained}
use Rattle.mr_pipe.proofs.Goings.{starts, drained, ended, goes_on}
use Rattle.mr_pipe.proofs.Deliveries.{breaks}
use Rattle.mr_pipe.specs.declared.fault.PipeFault.TheVariants as fault
use Rattle.mr_pipe.proofs.serve.drain.Goals as goal

pub loop-step-init : goal.loop-step-init
loop-step-init g c = λ s u h.
    let out = outside g.W.Write.contents g.F.LogFile.told g.F.LogFile.synced g.F.LogFile.failures in
    starts c.args.given s u (out c.args.output.now c.args.log.now) c.args.linked.now h

pub returns-in_err-step_once : goal.returns-in_err-step_once
returns-in_err-step_once g c = λ s u h.
    let out = outside g.W.Write.contents g.F.LogFile.told g.F.LogFile.synced g.F.LogFile.failures in
    let p = c.loop-step.linked in let q = c.step_once.new.linked in
    let x = out c.args.output.now c.args.log.now in let y = out c.loop-step.output c.loop-step.log in let z = out c.step_once.new.output c.step_once.new.log in
    let w : Going c.args.given s u x p y = c.loop-step.invariant s u h in
    let why = c.in_err-step_once.field-0.0 in
    let told : c.from_residual.result ≡ Err why = search rules in
    let step : IsStepped c.args.given w.at w.done.rest y q z (Err why) = c.in_err-step_once.ensures w.at w.done.rest w.stands in
    subst (λ r. IsDrained c.args.given s u x q z r) (sym told) (breaks c.args.given s u x p y why z w step)

pub returns-in-Waits : goal.returns-in-Waits
returns-in-Waits g c = λ s u h.
    let out = outside g.W.Write.contents g.F.LogFile.told g.F.LogFile.synced g.F.LogFile.failures in
    let p = c.loop-step.linked in let q = c.step_once.new.linked in
    let x = out c.args.output.now c.args.log.now in let y = out c.loop-step.output c.loop-step.log in let z = out c.step_once.new.output c.step_once.new.log in
    let w : Going c.args.given s u x p y = c.loop-step.invariant s u h in
    drained c.args.given s u x p y q z w
    (subst (λ r. IsStepped c.args.given w.at w.done.rest y q z (Ok r)) c.in-Waits.is (c.in_ok-step_once.ensures w.at w.done.rest w.stands))

pub returns-in-Shut : goal.returns-in-Shut
returns-in-Shut g c = λ s u h.
    let out = outside g.W.Write.contents g.F.LogFile.told g.F.LogFile.synced g.F.LogFile.failures in
    let p = c.loop-step.linked in let q = c.step_once.new.linked in
    let x = out c.args.output.now c.args.log.now in let y = out c.loop-step.output c.loop-step.log in let z = out c.step_once.new.output c.step_once.new.log in
    let w : Going c.args.given s u x p y = c.loop-step.invariant s u h in
    ended c.args.given s u x p y z w
    (subst (λ r. IsStepped c.args.given w.at w.done.rest y q z (Ok r)) c.in-Shut.is (c.in_ok-step_once.ensures w.at w.done.rest w.stands))

pub loop-step-preserved : goal.loop-step-preserved
loop-step-preserved g c = λ s u h.
    let out = outside g.W.Write.contents g.F.LogFile.told g.F.LogFile.synced g.F.LogFile.failures in
    let p = c.loop-step.linked in let q = c.step_once.new.linked in
    let x = out c.args.output.now c.args.log.now in let y = out c.loop-step.output c.loop-step.log in let z = out c.step_once.new.output c.step_once.new.log in
    let w : Going c.args.given s u x p y = c.loop-step.invariant s u h in
    goes_on c.args.given s u x p y q z w
    (subst (λ r. IsStepped c.args.given w.at w.done.rest y q z (Ok r)) c.in-On.is (c.in_ok-step_once.ensures w.at w.done.rest w.stands))

pub returns : goal.returns
returns g c = λ s u h.
    let out = outside g.W.Write.contents g.F.LogFile.told g.F.LogFile.synced g.F.LogFile.failures in
    let x = out c.args.output.now c.args.log.now in let y = out c.loop-step.output c.loop-step.log in
    breaks c.args.given s u x c.loop-step.linked y fault.Read y (c.loop-step.invariant s u h) refl
