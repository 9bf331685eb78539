use Rattle.std.proofs.Common.{◌≡◌, ◌-◌, [], ◌++◌, length, take, map, vec_len, sym, ap, ◌∙◌, arith}
use Rattle.std.specs.Cow.{cow_slice_items}
use Rattle.std.proofs.lemmas.Bool.{eqb-true, eqb-false}
use Rattle.std.proofs.lemmas.List.{nil_from_length}
use Rattle.mr_inline.specs.Places.{starts_from}
use Rattle.mr_inline.specs.declared.place.Place.TheVariants.{Between}
use Rattle.mr_inline.proofs.MeasureSteps.{whole_line, some_words, words_read, borrows_unquoted, begins_with_line, on_err}
use Rattle.mr_inline.proofs.scan.next_line_from.Goals as goal

pub returns-then-is_empty-clause-found : goal.returns-then-is_empty-clause-found
returns-then-is_empty-clause-found c =
    let line = c.in-Whole.ensures.found in
    let words = c.in_ok-words-in-Whole.words in
    let none = eqb-true (vec_len words) 0 (sym c.is_empty.ensures ∙ c.if-is_empty.true) in
    let nil : words.items ≡ [] = nil_from_length words.items (omega (arith, words.ok.0, none)) in
    (line.inside, whole_line c.args.limit c.args.input.now c.in-Whole.used (c.in-Whole.used - 1) [] c.requires.no_array line (omega (arith, line.some)) (sym (ap (map cow_slice_items) nil) ∙ (words_read (starts_from Between (take (c.in-Whole.used - 1) c.args.input.now)) c.in_ok-words-in-Whole.words.items c.in_ok-words-in-Whole.ensures.words)))

pub returns-then-is_empty-clause-more : goal.returns-then-is_empty-clause-more
returns-then-is_empty-clause-more c = λ more. c.new.ensures c.args.limit (c.args.input.now ++ more)

pub returns-in-Whole-clause-found : goal.returns-in-Whole-clause-found
returns-in-Whole-clause-found c =
    let line = c.in-Whole.ensures.found in
    let words = c.in_ok-words-in-Whole.words in
    let some = eqb-false (vec_len words) 0 (sym c.is_empty.ensures ∙ c.if-is_empty.false) in (
      line.inside,
      (some_words words.items (λ nil. some (omega (arith, words.ok.0, ap length nil))), whole_line c.args.limit c.args.input.now c.in-Whole.used (c.in-Whole.used - 1) (map cow_slice_items words.items) c.requires.no_array line (omega (arith, line.some)) (words_read (starts_from Between (take (c.in-Whole.used - 1) c.args.input.now)) c.in_ok-words-in-Whole.words.items c.in_ok-words-in-Whole.ensures.words)),
    )

pub returns-in-Whole-clause-borrowed : goal.returns-in-Whole-clause-borrowed
returns-in-Whole-clause-borrowed c =
    let line = c.in-Whole.ensures.found in
    borrows_unquoted c.args.limit c.args.input.now c.in-Whole.used (c.in-Whole.used - 1) c.in_ok-words-in-Whole.words.items line (omega (arith, line.some)) c.in_ok-words-in-Whole.ensures.words

pub returns-in-Whole-clause-more : goal.returns-in-Whole-clause-more
returns-in-Whole-clause-more c = λ more. c.new.ensures c.args.limit (c.args.input.now ++ more)

pub returns-clause-more : goal.returns-clause-more
returns-clause-more c = λ more. c.new-in-Bad.ensures c.args.limit (c.args.input.now ++ more)

pub returns-in_err-words-in-Whole-clause-refused : goal.returns-in_err-words-in-Whole-clause-refused
returns-in_err-words-in-Whole-clause-refused c =
    let line = c.in-Whole.ensures.found in
    on_err c.from_residual.result _ (begins_with_line c.args.limit c.args.input.now c.in-Whole.used (c.in-Whole.used - 1) c.requires.no_array line (omega (arith, line.some)) c.in_err-words-in-Whole.ensures.refused)
