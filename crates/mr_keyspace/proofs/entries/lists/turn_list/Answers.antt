use Rattle.std.proofs.Common.{ap, ◌∙◌, sym, Some}
use Rattle.mr_bytes.specs.declared.ends.End.TheVariants.{Left, Right}
use Rattle.mr_keyspace.proofs.Ends.{turned_same, turned_right_left}
use Rattle.mr_keyspace.proofs.entries.lists.turn_list.Goals as goal

pub returns-in-Right-Left : goal.returns-in-Right-Left
returns-in-Right-Left c = rw (c.in-Right-Left.is-0, c.in-Right-Left.is-1) (turned_right_left c.args.list.now c.requires ∙ ap Some (sym c.rotate_right.ensures))

pub returns-in-Left-Left : goal.returns-in-Left-Left
returns-in-Left-Left c = rw (c.in-Left-Left.is-0, c.in-Left-Left.is-1) (turned_same Left c.args.list.now c.requires)

pub returns-in-Right-Right : goal.returns-in-Right-Right
returns-in-Right-Right c = rw (c.in-Right-Right.is-0, c.in-Right-Right.is-1) (turned_same Right c.args.list.now c.requires)
