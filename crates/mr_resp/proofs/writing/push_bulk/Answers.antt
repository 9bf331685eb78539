use Rattle.std.proofs.Common.{◌∷◌, ◌++◌, length, subst}
use Rattle.mr_inline.proofs.MeasureSteps.{on_err}
use Rattle.mr_resp.specs.Appends.{ExtendsByFront}
use Rattle.mr_resp.specs.Spelling.{line_end, number_line}
use Rattle.mr_resp.proofs.AppendsLemmas.{front_longer}
use Rattle.mr_resp.proofs.writing.push_bulk.Goals as goal

pub returns-in_err-push_count-clause-begun : goal.returns-in_err-push_count-clause-begun
returns-in_err-push_count-clause-begun c =
    let out = c.args.out.now.items in
    let count = 36 ∷ number_line (length c.args.word.now) in
    on_err c.from_residual-in_err-push_count.result _
    (front_longer out count (c.args.word.now ++ line_end) c.push_count.new.out.items (subst (λ old. ExtendsByFront old count c.push_count.new.out.items) c.reserve.ensures.items c.in_err-push_count.ensures.begun))
