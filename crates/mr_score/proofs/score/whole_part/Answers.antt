use Rattle.std.proofs.Common.{◌≡◌, ◌+◌, true, false, cond, Some, None, take, drop, sym, ap, ◌∙◌}
use Rattle.mr_score.specs.Texts.{are_zeros}
use Rattle.mr_score.proofs.TextLemmas.{tail_is, whole_found}
use Rattle.mr_score.proofs.score.whole_part.Goals as goal

pub returns-in_default : goal.returns-in_default
returns-in_default c = whole_found c.args.text.now None (sym c.in_default.is ∙ c.first_point.ensures.place)

pub returns-then-are_zeros : goal.returns-then-are_zeros
returns-then-are_zeros c =
    let text = c.args.text.now in
    let point = c.in-Some.point in
    let zeros : are_zeros (drop (point + 1) text) ≡ true = ap are_zeros (sym (tail_is text (point + 1))) ∙ sym c.are_zeros.ensures ∙ c.if-are_zeros.true in
    sym (ap (λ b. cond b (Some (take point text)) None) zeros) ∙ whole_found text (Some point) (sym c.in-Some.is ∙ c.first_point.ensures.place)

pub returns-else-are_zeros : goal.returns-else-are_zeros
returns-else-are_zeros c =
    let text = c.args.text.now in
    let point = c.in-Some.point in
    let zeros : are_zeros (drop (point + 1) text) ≡ false = ap are_zeros (sym (tail_is text (point + 1))) ∙ sym c.are_zeros.ensures ∙ c.if-are_zeros.false in
    sym (ap (λ b. cond b (Some (take point text)) None) zeros) ∙ whole_found text (Some point) (sym c.in-Some.is ∙ c.first_point.ensures.place)
