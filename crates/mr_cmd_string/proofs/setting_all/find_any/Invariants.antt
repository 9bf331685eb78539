use Rattle.std.proofs.Common.{◌≡◌}
use Rattle.std.specs.Prelude.{◌||◌}
use Rattle.mr_cmd_string.specs.Finding.{is_any_live, is_any_expired}
use Rattle.mr_cmd_string.proofs.setting_all.find_any.Given as goal

abbrev pub invariant-loop-key : goal.invariant-loop-key
invariant-loop-key l = record {
  there : (l.any_there || is_any_live l.fn.given.now l.key-iterator l.held) ≡ is_any_live l.fn.given.now l.pairs l.held;
  expired : (l.any_expired || is_any_expired l.fn.given.now l.key-iterator l.held) ≡ is_any_expired l.fn.given.now l.pairs l.held;
}
