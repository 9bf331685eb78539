use Rattle.std.proofs.Common.{rules, ◌≡◌, sym, subst, ◌∙◌}
use Rattle.std.specs.Prelude.{Ok, Err, true, false}
use Rattle.mr_node.specs.Steps.{Steps}
use Rattle.mr_node.specs.declared.step.Step.TheVariants as step
use Rattle.mr_pipe.specs.Outside.{outside}
use Rattle.mr_pipe.specs.State.{fresh_id}
use Rattle.mr_pipe.specs.Sessions.{is_last, output_of}
use Rattle.mr_pipe.specs.Serving.{IsStepped, IsCarriedOut}
use Rattle.mr_pipe.specs.declared.linked_node.LinkedNode.{LinkedNode}
use Rattle.mr_pipe.proofs.Steps.{behind, gives, goes, idles, step_waits, steps_last, steps_on}
use Rattle.mr_pipe.proofs.Goings.{left_out}
use Rattle.mr_pipe.proofs.Refusals.{step_refused}
use Rattle.mr_pipe.specs.Faults.{fault_of}
use Rattle.mr_pipe.proofs.serve.step_once.Goals as goal

pub returns-in_err-step : goal.returns-in_err-step
returns-in_err-step g c = λ s u h.
    let x = outside g.W.Write.contents g.F.LogFile.told g.F.LogFile.synced g.F.LogFile.failures c.args.output.now c.args.log.now in
    let p = c.args.linked.now in let b = c.step.new.self in
    let e = c.in_err-step.field-0.0 in
    let steps : Steps p.node p.link c.args.given (fresh_id p.used) b (Err e) = subst (λ f. Steps p.node p.link c.args.given f b (Err e)) c.fresh-fresh.ensures c.in_err-step.ensures in
    let told : c.from_residual.result ≡ Err (fault_of e) = search rules in
    subst (λ r. IsStepped c.args.given s u x (record p { node = b }) x r) (sym told) (step_refused c.args.given s u x p b h e steps)

pub returns-in_err-carry_out-in-Done : goal.returns-in_err-carry_out-in-Done
returns-in_err-carry_out-in-Done g c = λ s u h.
    let out = outside g.W.Write.contents g.F.LogFile.told g.F.LogFile.synced g.F.LogFile.failures in
    let x = out c.args.output.now c.args.log.now in let y = out c.carry_out.new.output c.carry_out.new.log in
    let p = c.args.linked.now in let b = c.step.new.self in let outs = c.in-Done.outs in
    let steps : Steps p.node p.link c.args.given (fresh_id p.used) b (Ok (step.Done outs)) =
    subst (λ f. Steps p.node p.link c.args.given f b (Ok (step.Done outs))) c.fresh-fresh.ensures
    (subst (λ r. Steps p.node p.link c.args.given c.fresh-fresh.result b (Ok r)) c.in-Done.is c.in_ok-step.ensures) in
    let why = c.in_err-carry_out-in-Done.field-0.0 in
    let told : c.from_residual-in_err-carry_out-in-Done.result ≡ Err why = search rules in
    let came : IsCarriedOut (output_of outs) x y (Err why) = c.in_err-carry_out-in-Done.ensures in
    subst (λ r. IsStepped c.args.given s u x (record p { node = b }) y r) (sym told)
    (left_out why c.args.given s u x y (output_of outs) (gives c.args.given s u (behind p b outs) outs (goes c.args.given s u p b outs h steps)) came)

pub returns-then-last : goal.returns-then-last
returns-then-last g c = λ s u h.
    let out = outside g.W.Write.contents g.F.LogFile.told g.F.LogFile.synced g.F.LogFile.failures in
    let x = out c.args.output.now c.args.log.now in let y = out c.carry_out.new.output c.carry_out.new.log in
    let p = c.args.linked.now in let b = c.step.new.self in let outs = c.in-Done.outs in
    let steps : Steps p.node p.link c.args.given (fresh_id p.used) b (Ok (step.Done outs)) =
    subst (λ f. Steps p.node p.link c.args.given f b (Ok (step.Done outs))) c.fresh-fresh.ensures
    (subst (λ r. Steps p.node p.link c.args.given c.fresh-fresh.result b (Ok r)) c.in-Done.is c.in_ok-step.ensures) in
    let last : is_last outs ≡ true = sym c.is_last-last.ensures ∙ c.if-last.true in
    steps_last c.args.given s u (behind p b outs) outs x y (goes c.args.given s u p b outs h steps) last c.in_ok-carry_out-in-Done.ensures

pub returns-in-Idle : goal.returns-in-Idle
returns-in-Idle g c = λ s u h.
    let out = outside g.W.Write.contents g.F.LogFile.told g.F.LogFile.synced g.F.LogFile.failures in
    let x = out c.args.output.now c.args.log.now in
    let p = c.args.linked.now in let b = c.step.new.self in
    let steps : Steps p.node p.link c.args.given (fresh_id p.used) b (Ok step.Idle) =
    subst (λ f. Steps p.node p.link c.args.given f b (Ok step.Idle)) c.fresh-fresh.ensures
    (subst (λ r. Steps p.node p.link c.args.given c.fresh-fresh.result b (Ok r)) c.in-Idle.is c.in_ok-step.ensures) in
    step_waits s u p b x h (idles c.args.given s u p b h steps)

pub returns-else-last : goal.returns-else-last
returns-else-last g c = λ s u h.
    let out = outside g.W.Write.contents g.F.LogFile.told g.F.LogFile.synced g.F.LogFile.failures in
    let x = out c.args.output.now c.args.log.now in let y = out c.carry_out.new.output c.carry_out.new.log in
    let p = c.args.linked.now in let b = c.step.new.self in let outs = c.in-Done.outs in
    let steps : Steps p.node p.link c.args.given (fresh_id p.used) b (Ok (step.Done outs)) =
    subst (λ f. Steps p.node p.link c.args.given f b (Ok (step.Done outs))) c.fresh-fresh.ensures
    (subst (λ r. Steps p.node p.link c.args.given c.fresh-fresh.result b (Ok r)) c.in-Done.is c.in_ok-step.ensures) in
    let more : is_last outs ≡ false = sym c.is_last-last.ensures ∙ c.if-last.false in
    let q : LinkedNode = c.count.new.self in
    let counted : q ≡ behind p b outs = c.count.ensures in
    let r : LinkedNode = record { node = c.reuse.new.self; link = q.link; used = q.used } in
    let reused : r ≡ q = λ i. record { node = c.reuse.ensures i; link = q.link; used = q.used } in
    steps_on c.args.given s u (behind p b outs) r outs x y (goes c.args.given s u p b outs h steps) more (reused ∙ counted) c.in_ok-carry_out-in-Done.ensures
