use Rattle.std.proofs.Common.{◌∙◌, sym}
use Rattle.std.specs.Cow.{cow_slice_items}
use Rattle.mr_cmd_set.specs.Grouping.{changes}
use Rattle.mr_cmd_set.proofs.Sets.{retain_empty, word_chosen, word_left}
use Rattle.mr_cmd_set.proofs.grouping.changed_by.Goals as goal
use Rattle.mr_cmd_set.proofs.grouping.changed_by.Goals.{then-changes+in_ok-insert, else-changes}

pub loop-word-init : goal.loop-word-init
loop-word-init c = c.new-changed.ensures ∙ sym (retain_empty (changes c.args.write c.args.set.now))

pub loop-word-preserved : goal.loop-word-preserved
loop-word-preserved c = elim c.if-changes.branch [
  | then-changes+in_ok-insert w ↦ rw w.changed-is (word_chosen cow_slice_items _ _ _ c.loop-word-test.true c.word-item.is _ c.as_slice-member.ensures.value (changes c.args.write c.args.set.now) _ c.loop-word.invariant _ (sym c.changes.ensures ∙ w.if-changes.true) w.in_ok-insert.ensures.ok)
  | else-changes w ↦ rw w.changed-is (word_left cow_slice_items _ _ _ c.loop-word-test.true c.word-item.is _ c.as_slice-member.ensures.value (changes c.args.write c.args.set.now) _ c.loop-word.invariant (sym c.changes.ensures ∙ w.if-changes.false))
]
