use Rattle.std.proofs.Common.{◌≡◌, drop}
use Rattle.law_refinement.specs.Books.{entry_of}
use Rattle.mr_world_parts.proofs.entry.find.Given as goal

abbrev pub invariant-loop-entry : goal.invariant-loop-entry
invariant-loop-entry l = entry_of (drop l.entry-index l.book) l.id ≡ entry_of l.book l.id
