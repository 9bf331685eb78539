use Rattle.mr_groups.proofs.Notes.{none_open}
use Rattle.mr_groups.proofs.note.note_at.Goals as goal

pub returns-in_default : goal.returns-in_default
returns-in_default c = none_open c.args.bytes.now c.in_default.ensures.cases
