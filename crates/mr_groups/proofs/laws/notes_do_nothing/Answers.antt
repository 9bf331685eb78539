use Rattle.mr_groups.proofs.Notes.{one_note}
use Rattle.mr_groups.proofs.Marks.{note_no_group}
use Rattle.mr_groups.proofs.Noted.{passed, counted, not_inside}
use Rattle.mr_groups.proofs.laws.notes_do_nothing.Goals as goal

pub returns-clause-passed : goal.returns-clause-passed
returns-clause-passed c = passed

pub returns-clause-counted : goal.returns-clause-counted
returns-clause-counted c = counted

pub returns-clause-inside : goal.returns-clause-inside
returns-clause-inside c = not_inside

pub returns-clause-one : goal.returns-clause-one
returns-clause-one c = one_note

pub returns-clause-apart : goal.returns-clause-apart
returns-clause-apart c = note_no_group
