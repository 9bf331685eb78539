use Rattle.std.proofs.Common.{sym, ◌∙◌, add-zero, true, false}
use Rattle.std.specs.Cow.{cow_slice_items}
use Rattle.mr_cmd_key.proofs.PlanLemmas.{counts_word}
use Rattle.mr_cmd_key.proofs.counting.count_present.Goals as goal
use Rattle.mr_cmd_key.proofs.counting.count_present.Goals.{then-is_present, else-is_present}

pub loop-key-preserved : goal.loop-key-preserved
loop-key-preserved c =
    let m = c.args.held.now in let ks = c.args.keys.now in let i = c.loop-key.key-index in let n = c.loop-key.count in
    elim c.if-is_present.branch [
      | then-is_present w ↦ rw w.count-is (counts_word cow_slice_items c.args.given.now m ks i _ c.as_slice.result.now n true c.loop-key-test.true c.key-item.is c.as_slice.ensures.value (sym c.is_present.ensures ∙ w.if-is_present.true) c.loop-key.invariant)
      | else-is_present w ↦ rw (w.count-is, sym (add-zero n)) (counts_word cow_slice_items c.args.given.now m ks i _ c.as_slice.result.now n false c.loop-key-test.true c.key-item.is c.as_slice.ensures.value (sym c.is_present.ensures ∙ w.if-is_present.false) c.loop-key.invariant)
    ]
