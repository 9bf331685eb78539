use Rattle.std.proofs.Common.{rules, ◌≡◌, Err, refl, sym, subst}
use Rattle.mr_pipe.specs.Outside.{outside}
use Rattle.mr_pipe.specs.Piped.{IsPiped, begun_with}
use Rattle.mr_pipe.specs.declared.fault.PipeFault.TheVariants as fault
use Rattle.mr_pipe.proofs.Relaying.{no_session}
use Rattle.mr_pipe.proofs.relay.pipe_with.Goals as goal

pub returns-in_default : goal.returns-in_default
returns-in_default g c =
    let out = outside g.W.Write.contents g.F.LogFile.told g.F.LogFile.synced g.F.LogFile.failures in
    no_session c.args.config.now.given (begun_with c.args.config.now.id c.args.dataset) (out c.args.output.now c.args.log.now) (g.R.Read.remaining c.args.input.now) fault.Memory refl

pub returns-in_err-linked : goal.returns-in_err-linked
returns-in_err-linked g c =
    let out = outside g.W.Write.contents g.F.LogFile.told g.F.LogFile.synced g.F.LogFile.failures in
    let x = out c.args.output.now c.args.log.now in let p = g.R.Read.remaining c.args.input.now in
    let why = c.in_err-linked.field-0.0 in
    let told : c.from_residual.result ≡ Err why = search rules in
    subst (λ r. IsPiped c.args.config.now.given (begun_with c.args.config.now.id c.args.dataset) p p x x r) (sym told)
    (no_session c.args.config.now.given (begun_with c.args.config.now.id c.args.dataset) x p why c.in_err-linked.ensures.fault)

pub returns : goal.returns
returns g c = c.relay.ensures (begun_with c.args.config.now.id c.args.dataset) c.in_ok-linked.ensures.stands
