use Rattle.std.proofs.Common.{◌≡◌}
use Rattle.std.specs.FinMap.{empty}
use Rattle.mr_keyspace.specs.Collections.{with_fields}
use Rattle.mr_cmd_string.proofs.setting_all.last_texts.Given as goal

abbrev pub invariant-loop-key : goal.invariant-loop-key
invariant-loop-key l = with_fields l.key-iterator l.values ≡ with_fields l.pairs empty
