use Rattle.std.proofs.Common.{Option, Some, None}
use Rattle.std.specs.Prelude.{IfNone}
use Rattle.mr_options.specs.declared.line.Master.{Master}
use Rattle.mr_options.proofs.Colons.{none_named, other_named}
use Rattle.mr_options.proofs.named_master.master_named.Goals as goal

whatever : {P : Type 0} (r : Option Master) → P → IfNone r P
whatever None p = p
whatever (Some x) p = tt

pub returns-in_err-host-clause-none : goal.returns-in_err-host-clause-none
returns-in_err-host-clause-none c = whatever c.from_residual.result (none_named c.args.text.now c.in_err-host.ensures.cases)

pub returns-in_err-port-clause-none : goal.returns-in_err-port-clause-none
returns-in_err-port-clause-none c =
    whatever c.from_residual-in_err-port.result (other_named c.args.text.now c.in_ok-host.host.now c.in_ok-host.digits.now c.in_ok-host.ensures.cases c.in_err-port.ensures.none)
