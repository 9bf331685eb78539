use Rattle.mr_data.proofs.Dues.{Taking}
use Rattle.mr_data.proofs.dataset.Dataset.due_keys.Given as goal

-- the expired keys so far, and the timed keys that are still to come
abbrev pub invariant-loop-timed : goal.invariant-loop-timed
invariant-loop-timed l = Taking l.now l.most l.self l.keys.items l.timed-iterator
