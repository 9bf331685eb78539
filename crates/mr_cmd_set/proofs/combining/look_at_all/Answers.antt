use Rattle.std.proofs.Common.{◌∙◌, sym}
use Rattle.mr_cmd_set.proofs.Combinations.{no_dels}
use Rattle.mr_cmd_set.proofs.combining.look_at_all.Goals as goal
use Rattle.mr_cmd_set.proofs.combining.look_at_all.Goals.{then-found+in_ok-push_dels, else-found}

pub returns-then-found-2-clause-expired : goal.returns-then-found-2-clause-expired
returns-then-found-2-clause-expired c = elim c.if-found.branch [
  | then-found+in_ok-push_dels w ↦ w.effects-is ∙ w.in_ok-push_dels.ensures.dels
  | else-found w ↦ w.effects-is ∙ no_dels c.args.given.now c.args.keys.now c.args.held.now _ (sym c.in_ok-found.ensures.expired_is ∙ w.if-found.false)
]

pub returns-clause-expired : goal.returns-clause-expired
returns-clause-expired c = elim c.if-found.branch [
  | then-found+in_ok-push_dels w ↦ w.effects-is ∙ w.in_ok-push_dels.ensures.dels
  | else-found w ↦ w.effects-is ∙ no_dels c.args.given.now c.args.keys.now c.args.held.now _ (sym c.in_ok-found.ensures.expired_is ∙ w.if-found.false)
]
