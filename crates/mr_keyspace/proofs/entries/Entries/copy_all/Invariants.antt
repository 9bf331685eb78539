use Rattle.std.proofs.Common.{◌≡◌, drop}
use Rattle.mr_keyspace.specs.Changes.{with_texts}
use Rattle.mr_keyspace.proofs.entries.Entries.copy_all.Given as goal

abbrev pub invariant-loop-pair : goal.invariant-loop-pair
invariant-loop-pair l = with_texts (drop l.pair-index l.pairs) l.self ≡ with_texts l.fn.pairs l.fn.self
