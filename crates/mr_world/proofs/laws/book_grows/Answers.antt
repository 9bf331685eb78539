use Rattle.mr_world.proofs.Passing.{book_grows}
use Rattle.mr_world.proofs.laws.book_grows.Goals as goal

pub returns : goal.returns
returns c = book_grows
