use Rattle.std.proofs.Common.{rules, ◌≡◌, ◌∙◌, ap, Some, None, option_copied}
use Rattle.mr_resp.specs.ReplyView.{view}
use Rattle.mr_keyspace.specs.Steps.{lists, held}
use Rattle.mr_cmd_shared.proofs.PlanLemmas.{key_plan}
use Rattle.mr_cmd_list.specs.Lists.{found}
use Rattle.mr_cmd_list.specs.Commands.{answer_of}
use Rattle.mr_cmd_list.proofs.FoundLemmas.{takes_wrong, takes_found}
use Rattle.mr_cmd_list.proofs.NumberLemmas.{no_live_entry, short_entry}
use Rattle.mr_cmd_list.proofs.planning.at_key.Goals as goal

pub returns-in_default-clause-plan : goal.returns-in_default-clause-plan
returns-in_default-clause-plan c =
    let none : held lists (option_copied c.in_ok-live_entry.live_entry) ≡ None = search rules in
    key_plan _ (answer_of c.args.ask.now) _ _ (option_copied c.in_ok-live_entry.live_entry) _ _ _ _ _ c.in_ok-live_entry.ensures.live_entry c.new-effects.ensures c.in_ok-live_entry.ensures.expired c.into_plan.ensures.effects
    (takes_wrong c.args.ask.now _ _ _ none (ap view c.into_plan.ensures.reply ∙ c.wrong_kind.ensures))

pub returns-in_default-clause-numbers : goal.returns-in_default-clause-numbers
returns-in_default-clause-numbers c = short_entry c.args.ask.now _ _ c.in_ok-live_entry.ensures.live_entry c.list_at.ensures.short c.number_is_limited.ensures

pub returns-clause-plan : goal.returns-clause-plan
returns-clause-plan c =
    let is : found (option_copied c.in_ok-live_entry.live_entry) ≡ Some (option_copied c.in-Ok.list) = search rules in
    key_plan _ (answer_of c.args.ask.now) _ _ (option_copied c.in_ok-live_entry.live_entry) _ _ _ _ _ c.in_ok-live_entry.ensures.live_entry c.new-effects.ensures c.in_ok-live_entry.ensures.expired c.into_plan-2.ensures.effects
    (takes_found c.args.ask.now (option_copied c.in-Ok.list) _ _ _ (record { reply_is = ap view c.into_plan-2.ensures.reply ∙ c.in_ok-reply.ensures.reply_is; effects_are = c.in_ok-reply.ensures.effects_are }) _ is)

pub returns-clause-numbers : goal.returns-clause-numbers
returns-clause-numbers c = short_entry c.args.ask.now _ _ c.in_ok-live_entry.ensures.live_entry c.list_at.ensures.short c.number_is_limited.ensures

pub returns-in_err-reply-clause-numbers : goal.returns-in_err-reply-clause-numbers
returns-in_err-reply-clause-numbers c = short_entry c.args.ask.now _ _ c.in_ok-live_entry.ensures.live_entry c.list_at.ensures.short c.number_is_limited.ensures

pub returns-in_err-live_entry-clause-numbers : goal.returns-in_err-live_entry-clause-numbers
returns-in_err-live_entry-clause-numbers c = no_live_entry c.args.ask.now _ c.in_err-live_entry.ensures.err
