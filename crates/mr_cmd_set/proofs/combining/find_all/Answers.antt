use Rattle.std.proofs.Common.{refl}
use Rattle.std.specs.Cow.{cow_slice_items}
use Rattle.mr_cmd_set.proofs.Combinations.{set_found, other_found}
use Rattle.mr_cmd_set.proofs.combining.find_all.Goals as goal
use Rattle.mr_cmd_set.proofs.combining.find_all.Goals.{in-Some+in_ok-push-in-Some, in-None}

pub loop-word-preserved : goal.loop-word-preserved
loop-word-preserved c = elim c.match-set_at.branch [
  | in-Some+in_ok-push-in-Some w ↦ rw w.found-is (set_found cow_slice_items c.as_slice-words.result.now _ _ c.loop-word-test.true c.word-item.is _ c.as_slice.ensures.value
      c.args.given.now c.args.held.now c.loop-word.found.sets.items c.loop-word.found.other c.loop-word.found.expired c.loop-word.invariant _ _ c.see-expired.ensures.expired refl _ c.see-expired.ensures.live_entry
      w.in-Some.set _ w.in-Some.ensures w.in_ok-push-in-Some.ensures.items)
  | in-None w ↦ rw w.found-is (other_found cow_slice_items c.as_slice-words.result.now _ _ c.loop-word-test.true c.word-item.is _ c.as_slice.ensures.value
      c.args.given.now c.args.held.now c.loop-word.found.sets.items c.loop-word.found.other c.loop-word.found.expired c.loop-word.invariant _ _ c.see-expired.ensures.expired refl _ c.see-expired.ensures.live_entry
      w.in-None.ensures)
]
