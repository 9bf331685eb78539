use Rattle.std.proofs.Common.{rules, ◌≡◌, ◌∙◌, ap, sym, Some, None, option_copied}
use Rattle.mr_resp.specs.ReplyView.{view}
use Rattle.mr_keyspace.specs.Steps.{lists, held}
use Rattle.mr_cmd_shared.proofs.PlanLemmas.{key_plan}
use Rattle.mr_cmd_list.specs.declared.list_ask.ListAsk.TheVariants.{LMove}
use Rattle.mr_cmd_list.specs.Lists.{found}
use Rattle.mr_cmd_list.specs.Moves.{rotate_answer}
use Rattle.mr_cmd_list.proofs.FoundLemmas.{takes_wrong, takes_found}
use Rattle.mr_cmd_list.proofs.MoveLemmas.{turned_plan, carried_plan}
use Rattle.mr_cmd_list.proofs.moves.move_item.Goals as goal

pub returns-in_default-clause-plan : goal.returns-in_default-clause-plan
returns-in_default-clause-plan c =
    let none : held lists (option_copied c.in_ok-source.source) ≡ None = search rules in
    turned_plan _ _ _ _ (sym c.is_same_key.ensures ∙ c.if-is_same_key.true) _ _ _ _ (key_plan _ (rotate_answer c.args.asked.now.from.now c.args.asked.now.taken c.args.asked.now.put) _ _ (option_copied c.in_ok-source.source) _ _ _ _ _ c.in_ok-source.ensures.live_entry c.new-effects.ensures c.in_ok-source.ensures.expired c.into_plan.ensures.effects
    (takes_wrong (LMove c.args.asked.now.from.now c.args.asked.now.to.now c.args.asked.now.taken c.args.asked.now.put) _ _ _ none (ap view c.into_plan.ensures.reply ∙ c.wrong_kind.ensures)))

pub returns-then-is_same_key-clause-plan : goal.returns-then-is_same_key-clause-plan
returns-then-is_same_key-clause-plan c =
    let is : found (option_copied c.in_ok-source.source) ≡ Some (option_copied c.in-Ok.list) = search rules in
    turned_plan _ _ _ _ (sym c.is_same_key.ensures ∙ c.if-is_same_key.true) _ _ _ _ (key_plan _ (rotate_answer c.args.asked.now.from.now c.args.asked.now.taken c.args.asked.now.put) _ _ (option_copied c.in_ok-source.source) _ _ _ _ _ c.in_ok-source.ensures.live_entry c.new-effects.ensures c.in_ok-source.ensures.expired c.into_plan-then-is_same_key.ensures.effects
    (takes_found (LMove c.args.asked.now.from.now c.args.asked.now.to.now c.args.asked.now.taken c.args.asked.now.put) (option_copied c.in-Ok.list) _ _ _ (record { reply_is = ap view c.into_plan-then-is_same_key.ensures.reply ∙ c.in_ok-reply.ensures.reply_is; effects_are = c.in_ok-reply.ensures.effects_are }) _ is))

pub returns-clause-plan : goal.returns-clause-plan
returns-clause-plan c = carried_plan _ _ _ _ (sym c.is_same_key.ensures ∙ c.if-is_same_key.false) _ _ _ _ _ _ _ _ _ c.in_ok-source.ensures.live_entry c.in_ok-target.ensures.live_entry c.new-effects.ensures c.in_ok-source.ensures.expired c.in_ok-target.ensures.expired
    (ap view c.into_plan-2.ensures.reply ∙ c.in_ok-reply-2.ensures.reply) (c.into_plan-2.ensures.effects ∙ c.in_ok-reply-2.ensures.effects)
