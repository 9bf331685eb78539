use Rattle.std.proofs.Common.{◌≡◌}
use Rattle.mr_keyspace.specs.Collections.{with_fields}
use Rattle.mr_keyspace.proofs.entries.hashes.put_fields.Given as goal

abbrev pub invariant-loop-field : goal.invariant-loop-field
invariant-loop-field l = with_fields l.field-iterator.rest.items l.hash ≡ with_fields l.fn.pairs l.fn.hash
