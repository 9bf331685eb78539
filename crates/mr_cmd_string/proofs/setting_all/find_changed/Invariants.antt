use Rattle.std.proofs.Common.{◌≡◌, ◌++◌}
use Rattle.std.specs.Prelude.{◌||◌}
use Rattle.std.specs.FinMap.{entries}
use Rattle.mr_cmd_string.specs.Finding.{changed_at, is_any_expired}
use Rattle.mr_cmd_string.proofs.setting_all.find_changed.Given as goal

abbrev pub invariant-loop-key : goal.invariant-loop-key
invariant-loop-key l = record {
  texts : l.changed.texts ++ changed_at l.fn.given.now l.key-iterator l.held ≡ changed_at l.fn.given.now (entries l.values) l.held;
  expired : (l.changed.expired || is_any_expired l.fn.given.now l.key-iterator l.held) ≡ is_any_expired l.fn.given.now (entries l.values) l.held;
}
