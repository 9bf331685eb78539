use Rattle.std.proofs.Common.{◌≡◌}
use Rattle.std.specs.FinMap.{empty}
use Rattle.mr_keyspace.specs.Collections.{with_fields}
use Rattle.mr_cmd_hash.proofs.setting.last_values.Given as goal

abbrev pub invariant-loop-field : goal.invariant-loop-field
invariant-loop-field l = with_fields l.field-iterator l.values ≡ with_fields l.pairs empty
