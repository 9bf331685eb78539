use Rattle.std.proofs.Common.{◌≡◌, ◌++◌, take, drop}
use Rattle.law_refinement.specs.Books.{extended}
use Rattle.mr_world_parts.proofs.entry.lengthen.Given as goal

abbrev pub invariant-loop-entry : goal.invariant-loop-entry
invariant-loop-entry l = (l.book ≡ l.fn.book) × (extended l.fn.book l.id l.bytes ≡ take l.entry-index l.fn.book ++ extended (drop l.entry-index l.fn.book) l.id l.bytes)
