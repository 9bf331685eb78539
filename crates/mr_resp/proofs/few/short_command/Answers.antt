use Rattle.std.proofs.Common.{length, subst, arith}
use Rattle.mr_resp.specs.Parts.{Measures}
use Rattle.mr_resp.specs.declared.limits.Limits.{Limits}
use Rattle.mr_resp.specs.declared.scan.Measured.{Measured}
use Rattle.mr_resp.proofs.Measures.{IsOf, measured_whole, only_whole}
use Rattle.mr_resp.proofs.few.short_command.Goals as goal
use Rattle.mr_resp.proofs.few.short_command.Goals.{in_default-via-in-Whole+else-count-le-FEW, in_default-via-in_default}

pub returns-in_default-clause-many : goal.returns-in_default-clause-many
returns-in_default-clause-many c = λ none found.
    let of = measured_whole c.args.input.now found c.measure.result (subst (λ (l : Limits). Measures l c.args.input.now c.measure.result) c.commands-limits.ensures c.measure.ensures.found) in
    elim c.in_default.branch [
      | in_default-via-in-Whole+else-count-le-FEW w ↦
          let counted = subst (λ (s : Measured). IsOf (length found.words) s) w.in-Whole.is of in
          omega (arith, counted, w.if-count-le-FEW.false)
      | in_default-via-in_default w ↦ absurd (only_whole (length found.words) c.measure.result of w.in_default.not-Whole)
    ]
