use Rattle.std.proofs.Common.{◌<◌, ◌∙◌, length, sym, arith}
use Rattle.mr_value.proofs.Backwards.{counts_start, counts_full, counts_all, counts_same, counts_other}
use Rattle.mr_value.proofs.matching.count_last.Goals as goal
use Rattle.mr_value.proofs.matching.count_last.Goals.{then-matches_behind, else-matches_behind}

pub loop-behind-init : goal.loop-behind-init
loop-behind-init c = counts_start c.args.items.now.items c.args.item.now c.args.most

pub loop-behind-preserved : goal.loop-behind-preserved
loop-behind-preserved c =
    let here : c.loop-behind.behind < length c.args.items.now.items = omega arith in
    elim c.if-matches_behind.branch [
      | then-matches_behind w ↦ counts_same _ _ _ _ _ c.loop-behind.invariant here _ (omega arith) (sym c.matches_behind.ensures ∙ w.if-matches_behind.true) w.counted-is
      | else-matches_behind w ↦ counts_other _ _ _ _ _ c.loop-behind.invariant here _ (sym c.matches_behind.ensures ∙ w.if-matches_behind.false) w.counted-is
    ]

pub returns-then-counted-most : goal.returns-then-counted-most
returns-then-counted-most c = counts_full _ _ _ _ _ c.loop-behind.invariant c.if-counted-most.true

pub returns : goal.returns
returns c = counts_all _ _ _ _ _ c.loop-behind.invariant (omega arith)
