use Rattle.std.proofs.Common.{◌≤◌, ◌∙◌, length, reverse, sym, arith}
use Rattle.std.proofs.lemmas.List.{length-reverse}
use Rattle.mr_value.proofs.Backwards.{none_more, found_at, found_nowhere}
use Rattle.mr_value.proofs.matching.place_from_back.Goals as goal

pub loop-behind-preserved : goal.loop-behind-preserved
loop-behind-preserved c = none_more c.args.item.now (reverse c.args.items.now.items) c.loop-behind.behind c.loop-behind.invariant (sym c.matches_behind.ensures ∙ c.if-matches_behind.false)

pub returns-then-matches_behind-clause-place : goal.returns-then-matches_behind-clause-place
returns-then-matches_behind-clause-place c =
    let size : c.args.len ≤ length (reverse c.args.items.now.items) = omega (arith, length-reverse c.args.items.now.items, c.requires) in
    found_at c.args.item.now (reverse c.args.items.now.items) c.args.len c.loop-behind.behind size c.loop-behind-test.true c.loop-behind.invariant (sym c.matches_behind.ensures ∙ c.if-matches_behind.true)

pub returns-clause-place : goal.returns-clause-place
returns-clause-place c =
    let size : c.args.len ≤ length (reverse c.args.items.now.items) = omega (arith, length-reverse c.args.items.now.items, c.requires) in
    found_nowhere c.args.item.now (reverse c.args.items.now.items) c.args.len c.loop-behind.behind size c.loop-behind-test.false (omega arith) c.loop-behind.invariant
