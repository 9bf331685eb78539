use Rattle.mr_world.proofs.Happening.{lacks_unseen, follows_happen}
use Rattle.mr_world.proofs.laws.follows_are_events.Goals as goal

pub returns-clause-taken : goal.returns-clause-taken
returns-clause-taken c = follows_happen

pub returns-clause-lacked : goal.returns-clause-lacked
returns-clause-lacked c = lacks_unseen
