use Rattle.std.proofs.Common.{refl}
use Rattle.mr_cmd_shared.proofs.PlanLemmas.{on_key_plans, takes_reply}
use Rattle.mr_cmd_key.specs.Kinds.{type_answer}
use Rattle.mr_cmd_key.proofs.planning.key_type.Goals as goal

pub returns : goal.returns
returns c = on_key_plans c.args.key.now type_answer _ _ _ _ _ _ _ c.in_ok-live_entry.ensures.live_entry c.in_ok-live_entry.ensures.expired (takes_reply _ _ refl c.key_type.ensures)
