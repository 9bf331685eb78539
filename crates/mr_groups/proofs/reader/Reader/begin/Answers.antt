use Rattle.std.proofs.Common.{subst}
use Rattle.mr_groups.specs.Readers.HasRead.{nothing, partly}
use Rattle.mr_groups.proofs.KnownTexts.{fresh_may}
use Rattle.mr_groups.specs.Parts.{IsKnownAfter, ReadsPart}
use Rattle.mr_groups.specs.declared.part.Part.{Part}
use Rattle.mr_groups.proofs.Openings.{open_start}
use Rattle.mr_groups.proofs.Readings.{end_start, bad_at_start}
use Rattle.mr_groups.proofs.Resuming.{known_here}
use Rattle.mr_groups.proofs.reader.Reader.begin.Goals as goal

pub returns-in-Ok-End-clause-found : goal.returns-in-Ok-End-clause-found
returns-in-Ok-End-clause-found c =
    let bytes = c.args.bytes.now in
    let read = subst (λ (p : Part). ReadsPart bytes c.new-effects.result p c.next_part.new.effects) c.in-Ok-End.field-0-is c.in-Ok-End.ensures.found in
    end_start bytes _ read.0

pub returns-in-Ok-More-clause-found : goal.returns-in-Ok-More-clause-found
returns-in-Ok-More-clause-found c =
    let bytes = c.args.bytes.now in
    let read = subst (λ (p : Part). ReadsPart bytes c.new-effects.result p c.next_part.new.effects) c.in-Ok-More.field-0-is c.in-Ok-More.ensures.found in
    open_start bytes read.0

pub returns-in-Ok-Bad-clause-found : goal.returns-in-Ok-Bad-clause-found
returns-in-Ok-Bad-clause-found c =
    let bytes = c.args.bytes.now in
    bad_at_start bytes (subst (λ (p : Part). ReadsPart bytes c.new-effects.result p c.next_part.new.effects) c.in-Ok-Bad.field-0-is c.in-Ok-Bad.ensures.found)

pub returns-in-Ok-More-clause-kept : goal.returns-in-Ok-More-clause-kept
returns-in-Ok-More-clause-kept c = partly c.requires.start (known_here c.next_part.new.progress c.args.bytes.now c.in-Ok-More.ensures.known)

pub returns-in-Err-clause-kept : goal.returns-in-Err-clause-kept
returns-in-Err-clause-kept c = partly c.requires.start (known_here c.next_part.new.progress c.args.bytes.now c.in-Err.ensures.known)

pub go_on-requires-clause-known : goal.go_on-requires-clause-known
go_on-requires-clause-known c = fresh_may c.next_part.new.progress _ (subst (IsKnownAfter c.next_part.new.progress) c.in-Ok-Begin.field-0-is c.in-Ok-Begin.ensures.after)

pub returns-in-Ok-Effect-clause-left : goal.returns-in-Ok-Effect-clause-left
returns-in-Ok-Effect-clause-left c = (c.requires.start, subst (IsKnownAfter c.next_part.new.progress) c.in-Ok-Effect.field-0-is c.in-Ok-Effect.ensures.after)

pub returns-in-Ok-Effect-clause-kept : goal.returns-in-Ok-Effect-clause-kept
returns-in-Ok-Effect-clause-kept c = nothing (c.requires.start, subst (IsKnownAfter c.next_part.new.progress) c.in-Ok-Effect.field-0-is c.in-Ok-Effect.ensures.after)

pub returns-in-Ok-End-clause-left : goal.returns-in-Ok-End-clause-left
returns-in-Ok-End-clause-left c = (c.requires.start, subst (IsKnownAfter c.next_part.new.progress) c.in-Ok-End.field-0-is c.in-Ok-End.ensures.after)

pub returns-in-Ok-End-clause-kept : goal.returns-in-Ok-End-clause-kept
returns-in-Ok-End-clause-kept c = nothing (c.requires.start, subst (IsKnownAfter c.next_part.new.progress) c.in-Ok-End.field-0-is c.in-Ok-End.ensures.after)

pub returns-in-Ok-Bad-clause-left : goal.returns-in-Ok-Bad-clause-left
returns-in-Ok-Bad-clause-left c = (c.requires.start, subst (IsKnownAfter c.next_part.new.progress) c.in-Ok-Bad.field-0-is c.in-Ok-Bad.ensures.after)

pub returns-in-Ok-Bad-clause-kept : goal.returns-in-Ok-Bad-clause-kept
returns-in-Ok-Bad-clause-kept c = nothing (c.requires.start, subst (IsKnownAfter c.next_part.new.progress) c.in-Ok-Bad.field-0-is c.in-Ok-Bad.ensures.after)
