use Rattle.mr_keyspace.proofs.Ends.{popped_back}
use Rattle.mr_keyspace.proofs.entries.lists.pop_item.Goals as goal

pub returns-in-Right : goal.returns-in-Right
returns-in-Right c = rw c.in-Right.is (popped_back c.args.list.now _ c.pop_back.result c.pop_back.ensures)
