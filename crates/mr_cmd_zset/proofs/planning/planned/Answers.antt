use Rattle.std.proofs.Common.{rules, ◌≡◌, ◌∷◌, [], ◌++◌, ◌∙◌, ap, Some, None, option_copied}
use Rattle.std.specs.FinMap.{get}
use Rattle.mr_resp.specs.ReplyView.{view}
use Rattle.mr_data.specs.Dataset.{live}
use Rattle.mr_keyspace.specs.Steps.{sorted_sets, held}
use Rattle.mr_cmd_shared.specs.Keys.{dels, expired}
use Rattle.mr_cmd_shared.proofs.PlanLemmas.{key_plan}
use Rattle.mr_cmd_zset.specs.Commands.{key_of, answer_of}
use Rattle.mr_cmd_zset.proofs.AnswerLemmas.{takes_wrong, takes_made}
use Rattle.mr_cmd_zset.proofs.planning.planned.Goals as goal

pub returns-in_default-clause-plan : goal.returns-in_default-clause-plan
returns-in_default-clause-plan c =
    let k = key_of c.args.ask.now in
    let live_entry : option_copied c.in_ok-live_entry.live_entry ≡ live c.args.given.now (get c.args.held.now k) = rw c.key_of.ensures at c.in_ok-live_entry.ensures.live_entry in
    let expired : c.look.new.effects ≡ c.new-effects.result ++ dels (expired c.args.given.now (k ∷ []) c.args.held.now) = rw c.key_of.ensures at c.in_ok-live_entry.ensures.expired in
    let none : held sorted_sets (option_copied c.in_ok-live_entry.live_entry) ≡ None = search rules in
    key_plan k (answer_of c.args.ask.now) _ _ (option_copied c.in_ok-live_entry.live_entry) _ _ _ _ _ live_entry c.new-effects.ensures expired c.into_plan.ensures.effects
    (takes_wrong c.args.ask.now _ _ _ none (ap view c.into_plan.ensures.reply ∙ c.wrong_kind.ensures))

pub returns-clause-plan : goal.returns-clause-plan
returns-clause-plan c =
    let k = key_of c.args.ask.now in
    let live_entry : option_copied c.in_ok-live_entry.live_entry ≡ live c.args.given.now (get c.args.held.now k) = rw c.key_of.ensures at c.in_ok-live_entry.ensures.live_entry in
    let expired : c.look.new.effects ≡ c.new-effects.result ++ dels (expired c.args.given.now (k ∷ []) c.args.held.now) = rw c.key_of.ensures at c.in_ok-live_entry.ensures.expired in
    let some : held sorted_sets (option_copied c.in_ok-live_entry.live_entry) ≡ Some c.in-Some.set.now = search rules in
    key_plan k (answer_of c.args.ask.now) _ _ (option_copied c.in_ok-live_entry.live_entry) _ _ _ _ _ live_entry c.new-effects.ensures expired c.into_plan-2.ensures.effects
    (takes_made c.args.ask.now _ c.in-Some.set.now _ _ _ some (rw c.into_plan-2.ensures.reply c.in_ok-reply.ensures))
