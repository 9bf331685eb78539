use Rattle.std.proofs.Common.{◌∙◌, refl}
use Rattle.mr_cmd_list.proofs.PushLemmas.{pushed_more}
use Rattle.mr_cmd_list.proofs.pushes.push_groups.Goals as goal

pub loop-start-preserved : goal.loop-start-preserved
loop-start-preserved c = pushed_more _ _ _ _ _ _ _ _ _ _ _ _ c.loop-start.invariant c.loop-start-test.true c.min-next.ensures refl (c.in_ok-copied.ensures ∙ c.as_slice.ensures) c.in_ok-copied-2.ensures c.in_ok-push.ensures
