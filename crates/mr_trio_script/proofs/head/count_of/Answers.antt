use Rattle.std.proofs.Common.{subst, sym, ℕ, Option, w64, FitsSigned, rules, ◌<◌, ◌^◌, ◌≢◌, decimal}
use Rattle.std.specs.Prelude.{IfNone}
use Rattle.std.proofs.lemmas.Int.{to_z-of_z}
use Rattle.mr_trio_script.proofs.Counts.{counted, none_counted}
use Rattle.mr_trio_script.proofs.head.count_of.Goals as goal

pub returns-in_err-read_i64-clause-none : goal.returns-in_err-read_i64-clause-none
returns-in_err-read_i64-clause-none c =
    let P : Option ℕ → Type 0 = λ o. IfNone o ((n : ℕ) → n < 2 ^ 63 → c.args.text.now ≢ decimal n) in
    subst P (sym c.from_residual.ensures) (none_counted c.args.text.now c.in_err-read_i64.ensures.other)

pub returns-clause-none : goal.returns-clause-none
returns-clause-none c =
    let number = c.in_ok-read_i64.field-0 in
    let fits : FitsSigned w64 number = search rules in
    counted c.args.text.now number _ c.try_from.result c.ok.result c.in_ok-read_i64.ensures.spelled fits (to_z-of_z w64 number fits) c.try_from.ensures c.ok.ensures.value
