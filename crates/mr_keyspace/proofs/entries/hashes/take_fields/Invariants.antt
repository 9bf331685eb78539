use Rattle.std.proofs.Common.{◌≡◌, drop}
use Rattle.mr_keyspace.specs.Collections.{without_fields}
use Rattle.mr_keyspace.proofs.entries.hashes.take_fields.Given as goal

abbrev pub invariant-loop-field : goal.invariant-loop-field
invariant-loop-field l = without_fields (drop l.field-index l.fields) l.hash ≡ without_fields l.fn.fields l.fn.hash
