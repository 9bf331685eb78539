use Rattle.std.proofs.Common.{◌≡◌, drop}
use Rattle.std.specs.Prelude.{is_some}
use Rattle.law_refinement.specs.Books.{entry_of}
use Rattle.mr_world_parts.proofs.entry.is_drawn.Given as goal

abbrev pub invariant-loop-entry : goal.invariant-loop-entry
invariant-loop-entry l = is_some (entry_of (drop l.entry-index l.book) l.id) ≡ is_some (entry_of l.book l.id)
