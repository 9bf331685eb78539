use Rattle.mr_packed.proofs.Pairing.{spread_is, reached_at, passed_at}
use Rattle.mr_packed.proofs.pairs.PackedPairs.seek.Goals as goal

pub returns-in-Ok-clause-found : goal.returns-in-Ok-clause-found
returns-in-Ok-clause-found c = reached_at c.self.inside.strings c.args.self.now c.args.first.now c.in-Ok.at (spread_is _ _ c.self.invariant c.self.view_is) c.in-Ok.ensures.found

pub returns-in-Err-clause-before : goal.returns-in-Err-clause-before
returns-in-Err-clause-before c = passed_at c.self.inside.strings c.args.self.now c.args.first.now c.in-Err.at (spread_is _ _ c.self.invariant c.self.view_is) c.in-Err.ensures.before
