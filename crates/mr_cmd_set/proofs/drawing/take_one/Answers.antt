use Rattle.std.proofs.Common.{◌∙◌}
use Rattle.mr_cmd_set.specs.declared.grouping.Write.TheVariants as write
use Rattle.mr_cmd_set.proofs.Pushing.{no_group, one_group}
use Rattle.mr_cmd_set.proofs.drawing.take_one.Goals as goal

pub returns-in_default-clause-effects : goal.returns-in_default-clause-effects
returns-in_default-clause-effects c = no_group write.Remove c.args.key.now c.args.effects.now _ c.in_default.ensures.none

pub returns-clause-effects : goal.returns-clause-effects
returns-clause-effects c =
    c.in_ok-push_member.ensures
    ∙ one_group write.Remove c.args.key.now c.args.effects.now _ _ c.in-Some.ensures.some
