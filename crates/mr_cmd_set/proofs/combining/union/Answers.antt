use Rattle.std.proofs.Common.{◌∙◌, ap}
use Rattle.mr_cmd_set.specs.Members.{joined}
use Rattle.mr_cmd_set.proofs.Sets.{as_set_keys}
use Rattle.mr_cmd_set.proofs.Combinations.{union_next}
use Rattle.mr_cmd_set.proofs.combining.union.Goals as goal

pub loop-set-init : goal.loop-set-init
loop-set-init c = c.in_ok-join.ensures ∙ ap (λ m. joined m c.args.first.now) c.new.ensures ∙ as_set_keys c.args.first.now

pub loop-set-preserved : goal.loop-set-preserved
loop-set-preserved c = union_next c.args.first.now c.args.others.now _ _ c.loop-set-test.true c.set-item.is _ _ c.loop-set.invariant c.in_ok-join-2.ensures
