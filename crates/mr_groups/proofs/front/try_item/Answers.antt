use Rattle.std.proofs.Common.{subst}
use Rattle.mr_groups.specs.Notes.{ReadsNote}
use Rattle.mr_groups.specs.declared.note.Note.{Note}
use Rattle.mr_groups.proofs.Going.{note_passed, waits_for_note}
use Rattle.mr_groups.proofs.front.try_item.Goals as goal

pub returns-in-Whole-clause-done : goal.returns-in-Whole-clause-done
returns-in-Whole-clause-done c =
    let bytes = c.args.bytes.now in
    note_passed bytes c.in-Whole.used c.args.dataset.now (subst (λ (n : Note). ReadsNote bytes n) c.in-Whole.is c.note_at.ensures)

pub returns-in-Open-clause-done : goal.returns-in-Open-clause-done
returns-in-Open-clause-done c =
    let bytes = c.args.bytes.now in
    waits_for_note bytes c.args.dataset.now (subst (λ (n : Note). ReadsNote bytes n) c.in-Open.is c.note_at.ensures)
