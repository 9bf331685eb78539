use Rattle.std.proofs.Common.{rules, ◌∙◌, ap, sym, length, ◌∷◌, ◌++◌, []}
use Rattle.mr_cmd_set.specs.Grouping.{group_effect}
use Rattle.mr_cmd_set.proofs.Pushing.{names, group_full, group_last, some_items}
use Rattle.mr_cmd_set.proofs.grouping.push_groups.Goals as goal

pub loop-member-preserved-then-len-eq-MOST_ITEMS : goal.loop-member-preserved-then-len-eq-MOST_ITEMS
loop-member-preserved-then-len-eq-MOST_ITEMS c =
    let pushed = c.in_ok-push.ensures.ok ∙ ap (λ w. c.loop-member.group ++ w ∷ []) c.in_ok-copied.ensures in
    rw c.new-group-then-len-eq-MOST_ITEMS.ensures
    (group_full (group_effect c.args.write c.args.key.now) _ _ _ _ _ _ _ _ c.loop-member.invariant (ap names c.in-Some.ensures.steps)
    (ap length (sym pushed) ∙ sym c.len.ensures.len ∙ c.if-len-eq-MOST_ITEMS.true)
    (c.in_ok-push-2.ensures ∙ ap (λ e. c.loop-member.effects ++ e ∷ []) (c.in_ok-group_effect.ensures ∙ ap (group_effect c.args.write c.args.key.now) pushed)))

pub returns-in_ok-push-3 : goal.returns-in_ok-push-3
returns-in_ok-push-3 c =
    group_last (group_effect c.args.write c.args.key.now) _ _ _ _ _ _ c.loop-member.invariant c.in-None.ensures.steps.0 (some_items _ _ c.is_empty.ensures (search rules)) (c.in_ok-push-3.ensures ∙ ap (λ e. c.loop-member.effects ++ e ∷ []) c.in_ok-group_effect-2.ensures)
