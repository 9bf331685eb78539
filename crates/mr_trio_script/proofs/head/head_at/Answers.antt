use Rattle.std.proofs.Common.{sym, ◌∙◌}
use Rattle.mr_trio_script.proofs.Parts.{part_begins}
use Rattle.mr_trio_script.proofs.Tops.{no_word_first, no_list_first, no_other_first, first_of_form, first_of_list, first_of_word}
use Rattle.mr_trio_script.proofs.head.head_at.Goals as goal

pub returns-in_default-clause-none : goal.returns-in_default-clause-none
returns-in_default-clause-none c = λ part rest is begins. c.in_default.ensures.none _ _ _ (part_begins part c.args.bytes.now rest is begins)

pub returns-then-is_text_form-clause-some : goal.returns-then-is_text_form-clause-some
returns-then-is_text_form-clause-some c =
    first_of_form c.args.bytes.now c.in-Some.line.form c.in-Some.line.text.now c.in-Some.line.rest.now c.in-Some.ensures.some (sym c.is_text_form.ensures ∙ c.if-is_text_form.true)

pub returns-in-Some-word_len-clause-some : goal.returns-in-Some-word_len-clause-some
returns-in-Some-word_len-clause-some c =
    first_of_word c.args.bytes.now c.in-Some.line.form c.in-Some.line.text.now c.in-Some.line.rest.now c.in-Some.ensures.some c.in-Some-word_len.more c.if-line-eq36.true c.in-Some-word_len.ensures.some

pub returns-in-None-clause-none : goal.returns-in-None-clause-none
returns-in-None-clause-none c =
    no_word_first c.args.bytes.now c.in-Some.line.form c.in-Some.line.text.now c.in-Some.line.rest.now c.in-Some.ensures.some c.if-line-eq36.true c.in-None.ensures.none

pub returns-in-Some-list_len-clause-some : goal.returns-in-Some-list_len-clause-some
returns-in-Some-list_len-clause-some c =
    first_of_list c.args.bytes.now c.in-Some.line.form c.in-Some.line.text.now c.in-Some.line.rest.now c.in-Some.ensures.some c.in-Some-list_len.opens c.if-line-eq42.true c.in-Some-list_len.ensures.some

pub returns-in-None-list_len-clause-none : goal.returns-in-None-list_len-clause-none
returns-in-None-list_len-clause-none c =
    no_list_first c.args.bytes.now c.in-Some.line.form c.in-Some.line.text.now c.in-Some.line.rest.now c.in-Some.ensures.some c.if-line-eq42.true c.in-None-list_len.ensures.none

pub returns-clause-none : goal.returns-clause-none
returns-clause-none c =
    no_other_first c.args.bytes.now c.in-Some.line.form c.in-Some.line.text.now c.in-Some.line.rest.now c.in-Some.ensures.some (sym c.is_text_form.ensures ∙ c.if-is_text_form.false) c.if-line-eq36.false c.if-line-eq42.false
