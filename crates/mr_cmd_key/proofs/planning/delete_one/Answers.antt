use Rattle.std.proofs.Common.{◌∙◌, ap}
use Rattle.std.specs.Prelude.{not}
use Rattle.mr_cmd_key.proofs.PlanLemmas.{none_deleted, one_deleted}
use Rattle.mr_cmd_key.proofs.planning.delete_one.Goals as goal

pub returns-then-is_none : goal.returns-then-is_none
returns-then-is_none c = none_deleted _ _ _ c.in_ok-live_entry.live_entry _ _ _ c.in_ok-live_entry.ensures.live_entry (c.is_none.ensures ∙ ap not c.if-is_none.true) c.in_ok-live_entry.ensures.expired c.integer.ensures

pub returns : goal.returns
returns c =
    one_deleted _ _ _ _ c.in_ok-live_entry.live_entry _ _ _ _ c.in_ok-live_entry.ensures.live_entry (c.is_none.ensures ∙ ap not c.if-is_none.false) c.in_ok-live_entry.ensures.expired
    c.in_ok-push.ensures (c.in_ok-copied.ensures ∙ c.as_slice.ensures) c.integer-2.ensures
