use Rattle.law_protocol.proofs.Refusals.{book_changes}
use Rattle.law_protocol.proofs.laws.book_changes_by_three_ways.Goals as goal

pub returns : goal.returns
returns g c = book_changes
