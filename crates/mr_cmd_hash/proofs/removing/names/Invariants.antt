use Rattle.std.proofs.Common.{◌≡◌, map, drop}
use Rattle.std.specs.Cow.{cow_slice_items}
use Rattle.std.specs.FinMap.{empty}
use Rattle.mr_keyspace.specs.Collections.{with_members}
use Rattle.mr_cmd_hash.proofs.removing.names.Given as goal

abbrev pub invariant-loop-field : goal.invariant-loop-field
invariant-loop-field l = with_members (map cow_slice_items (drop l.field-index l.field-items)) l.names ≡ with_members l.fields empty
