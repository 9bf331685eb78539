use Rattle.mr_keyspace.proofs.entries.sorted_sets.take_many.Goals as goal

pub returns : goal.returns
returns c = c.remove_all.ensures
