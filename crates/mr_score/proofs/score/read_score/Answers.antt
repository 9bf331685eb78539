use Rattle.std.proofs.Common.{Some, None, sym, ap, ◌∙◌, rules, w64, FitsSigned}
use Rattle.std.specs.Prelude.{option_copied, option_and_then}
use Rattle.std.proofs.lemmas.Int.{to_z-of_z}
use Rattle.mr_score.specs.Texts.{within_limit}
use Rattle.mr_score.proofs.TextLemmas.{score_found}
use Rattle.mr_score.proofs.score.read_score.Goals as goal

pub returns-in_err-whole_part : goal.returns-in_err-whole_part
returns-in_err-whole_part c = c.from_residual.ensures ∙ score_found c.args.text.now None (ap option_copied (sym c.in_err-whole_part.was) ∙ c.whole_part.ensures)

pub returns-in_err-read_i64 : goal.returns-in_err-read_i64
returns-in_err-read_i64 c =
    let whole = c.in_ok-whole_part.field-0.now in
    c.from_residual-in_err-read_i64.ensures
    ∙ ap (option_and_then within_limit) (sym c.in_err-read_i64.was ∙ c.read_i64.ensures.number)
    ∙ score_found c.args.text.now (Some whole) (ap option_copied (sym c.in_ok-whole_part.was) ∙ c.whole_part.ensures)

pub returns : goal.returns
returns c =
    let whole = c.in_ok-whole_part.field-0.now in
    let number = c.in_ok-read_i64.field-0 in
    let fits : FitsSigned w64 number = search rules in
    c.within_limit.ensures ∙ ap within_limit (to_z-of_z w64 number fits)
    ∙ ap (option_and_then within_limit) (sym c.in_ok-read_i64.was ∙ c.read_i64.ensures.number)
    ∙ score_found c.args.text.now (Some whole) (ap option_copied (sym c.in_ok-whole_part.was) ∙ c.whole_part.ensures)
