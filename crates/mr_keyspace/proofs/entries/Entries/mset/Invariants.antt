use Rattle.std.proofs.Common.{◌≡◌}
use Rattle.mr_keyspace.specs.Changes.{with_texts}
use Rattle.mr_keyspace.proofs.entries.Entries.mset.Given as goal

abbrev pub invariant-loop-key : goal.invariant-loop-key
invariant-loop-key l = with_texts l.key-iterator.rest.items l.self ≡ with_texts l.fn.pairs l.fn.self
