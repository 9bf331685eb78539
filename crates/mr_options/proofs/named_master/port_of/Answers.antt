use Rattle.std.proofs.Common.{ℕ, Option, Some, None}
use Rattle.std.specs.Prelude.{IfNone}
use Rattle.mr_options.proofs.Ports.{none_spelled, not_above, not_below}
use Rattle.mr_options.proofs.named_master.port_of.Goals.{then-number-lt1-via-then-number-lt1, then-number-lt1-via-else-number-lt1+then-number-gt65535}
use Rattle.mr_options.proofs.named_master.port_of.Goals as goal

whatever : {P : Type 0} (r : Option ℕ) → P → IfNone r P
whatever None p = p
whatever (Some x) p = tt

pub returns-in_err-number-clause-none : goal.returns-in_err-number-clause-none
returns-in_err-number-clause-none c =
    whatever c.from_residual.result (none_spelled c.args.text.now c.as_bytes.result.now c.as_bytes.ensures.value c.in_err-number.ensures.other)

pub returns-then-number-lt1-clause-none : goal.returns-then-number-lt1-clause-none
returns-then-number-lt1-clause-none c = λ port is e.
    let read = c.in_ok-number.ensures.number in
    elim c.then-number-lt1.branch [
      | then-number-lt1-via-then-number-lt1 w ↦ not_below c.args.text.now c.as_bytes.result.now c.in_ok-number.number read c.as_bytes.ensures.value port is e w.if-number-lt1.true
      | then-number-lt1-via-else-number-lt1+then-number-gt65535 w ↦
          not_above c.args.text.now c.as_bytes.result.now c.in_ok-number.number read c.as_bytes.ensures.value port is e w.if-number-gt65535.true
    ]
