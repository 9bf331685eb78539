use Rattle.std.proofs.Common.{◌∙◌, ap, ◌∷◌, [], ◌++◌}
use Rattle.mr_cmd_set.specs.Grouping.{group_effect}
use Rattle.mr_cmd_set.proofs.grouping.push_member.Goals as goal

pub returns : goal.returns
returns c =
    c.in_ok-push-2.ensures ∙ ap (λ e. c.args.effects.now ++ e ∷ []) c.in_ok-group_effect.ensures
    ∙ ap (λ ms. c.args.effects.now ++ group_effect c.args.write c.args.key.now ms ∷ []) (c.in_ok-push.ensures.ok ∙ ap (λ ms. ms ++ c.in_ok-copied.field-0 ∷ []) c.new-members.ensures ∙ ap (λ w. w ∷ []) c.in_ok-copied.ensures)
