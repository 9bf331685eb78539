use Rattle.mr_follower.proofs.Honest.{taken, whole}
use Rattle.mr_follower.proofs.laws.snapshot_is_taken.Goals as goal

pub returns-clause-taken : goal.returns-clause-taken
returns-clause-taken c = taken

pub returns-clause-whole : goal.returns-clause-whole
returns-clause-whole c = whole
