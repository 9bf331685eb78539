use Rattle.std.proofs.Common.{ℕ, List, ◌++◌, ◌+◌, length, map, drop, sym, ap, ◌∙◌}
use Rattle.std.specs.List.{flat_map}
use Rattle.std.proofs.lemmas.List.{drop_more, length-map}
use Rattle.mr_inline.proofs.MeasureSteps.{on_err}
use Rattle.mr_resp.specs.Spelling.{array, bulk}
use Rattle.mr_resp.proofs.AppendsLemmas.{count_longer, front_behind}
use Rattle.mr_resp.proofs.writing.push_request.Goals as goal

pub returns-in_err-push_count-clause-begun : goal.returns-in_err-push_count-clause-begun
returns-in_err-push_count-clause-begun c =
    let words : List (List ℕ) = map (λ w. w.now) c.args.words.now in
    on_err c.from_residual.result _ (count_longer c.args.out.now.items (flat_map bulk words) c.push_count.new.out.items (length c.args.words.now) (length words) (sym (length-map c.args.words.now (λ w. w.now))) c.in_err-push_count.ensures.begun)

pub returns-in_err-push_bulk-clause-begun : goal.returns-in_err-push_bulk-clause-begun
returns-in_err-push_bulk-clause-begun c =
    let words = c.args.words.now in
    let i = c.loop-word.word-index in
    let first = drop_more words i _ c.loop-word-test.true in
    on_err c.from_residual-in_err-push_bulk.result _
    (front_behind c.args.out.now.items c.loop-word.out.items (array (map (λ w. w.now) words)) _ (flat_map bulk (map (λ w. w.now) (drop (i + 1) words))) c.push_bulk.new.out.items c.loop-word.invariant.kept
    (ap (λ ws. c.loop-word.out.items ++ flat_map bulk (map (λ w. w.now) ws)) (sym first) ∙ c.loop-word.invariant.text) c.in_err-push_bulk.ensures.begun)
