use Rattle.std.proofs.Common.{ℕ, List, refl}
use Rattle.std.specs.Borrow.{Bor}
use Rattle.std.proofs.lemmas.List.{get_or_default}
use Rattle.mr_cmd_set.proofs.Sets.{word_put}
use Rattle.mr_cmd_set.proofs.drawing.in_order.Goals as goal

pub loop-member-preserved : goal.loop-member-preserved
loop-member-preserved c = word_put (λ (x : Bor (List ℕ)). x.now) c.args.drawn.now _ _ c.loop-member-test.true (get_or_default c.args.drawn.now _ _ _ c.loop-member-test.true) _ refl _ _ c.loop-member.invariant c.in_ok-insert.ensures.ok
