use Rattle.std.proofs.Common.{rules, ◌≡◌, ◌∙◌, ap, refl, option_copied, FitsSigned, w64}
use Rattle.std.proofs.lemmas.Int.{to_z-of_z}
use Rattle.mr_resp.specs.Replies as reply
use Rattle.mr_cmd_shared.proofs.PlanLemmas.{on_key_plans, takes_reply}
use Rattle.mr_cmd_key.specs.Expiring.{deadline_answer, answered_in}
use Rattle.mr_cmd_key.proofs.Deadlines.{live_lifetime}
use Rattle.mr_cmd_key.proofs.planning.deadline.Goals as goal

pub answered_in-number-requires : goal.answered_in-number-requires
answered_in-number-requires c = live_lifetime c.args.given.now c.args.held.now c.args.key.now _ c.in_ok-live_entry.ensures.kept c.in_ok-live_entry.ensures.live_entry

pub returns : goal.returns
returns c =
    let number_fits : FitsSigned w64 c.answered_in-number.result = search rules in
    let number : c.answered_in-number.result ≡ answered_in c.args.form c.args.given.now (option_copied c.in_ok-live_entry.live_entry) = c.answered_in-number.ensures in
    on_key_plans c.args.key.now (deadline_answer c.args.form c.args.given.now) _ _ _ _ _ _ _ c.in_ok-live_entry.ensures.live_entry c.in_ok-live_entry.ensures.expired
    (takes_reply _ _ refl (c.integer.ensures ∙ ap reply.int (to_z-of_z w64 _ number_fits ∙ number)))
