use Rattle.std.proofs.Common.{rules, option_copied}
use Rattle.mr_cmd_shared.proofs.PlanLemmas.{if_ok}
use Rattle.mr_cmd_set.specs.SetCommands.{change}
use Rattle.mr_cmd_set.proofs.AnswerLemmas.{plans_wrong, plans_made}
use Rattle.mr_cmd_set.proofs.planning.at_key.Goals as goal

pub returns-in_default-clause-reply : goal.returns-in_default-clause-reply
returns-in_default-clause-reply c = plans_wrong c.args.key.now (change c.args.ask.now c.args.given.word) (option_copied c.in_ok-live_entry.live_entry) c.in_ok-live_entry.ensures.live_entry c.in_ok-live_entry.ensures.expired (search rules) c.wrong_kind.ensures

pub returns-clause-reply : goal.returns-clause-reply
returns-clause-reply c =
    if_ok c.change.result (λ r made. plans_made c.args.key.now (change c.args.ask.now c.args.given.word) (option_copied c.in_ok-live_entry.live_entry) c.in_ok-live_entry.ensures.live_entry c.in_ok-live_entry.ensures.expired c.in-Some.set.now (search rules) made)
    (rw c.word.ensures at c.change.ensures)
