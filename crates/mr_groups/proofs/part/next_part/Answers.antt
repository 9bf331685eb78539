use Rattle.std.proofs.Common.{rules, ◌<◌, ◌^◌, map, subst, IfOk}
use Rattle.std.specs.Cow.{cow_slice_items}
use Rattle.mr_resp.specs.Command.{ReadsCommand}
use Rattle.mr_resp.specs.Usual.{commands}
use Rattle.mr_resp.specs.declared.request.Scan.{Scan}
use Rattle.mr_groups.specs.Parts.{ReadsWords}
use Rattle.mr_groups.proofs.Readings.{parts_read, doomed_read}
use Rattle.mr_groups.proofs.KnownTexts.{spent_by}
use Rattle.mr_groups.proofs.Knowing.{fresh_part}
use Rattle.mr_groups.proofs.part.next_part.Goals as goal

pub returns-in-Ok-Whole-clause-found : goal.returns-in-Ok-Whole-clause-found
returns-in-Ok-Whole-clause-found c =
    let found = subst (λ (s : Scan). ReadsCommand commands c.args.bytes.now s) c.in-Ok-Whole.field-0-is c.in-Ok-Whole.ensures.found in
    let read : IfOk c.part_of.result (λ p. ReadsWords (map cow_slice_items c.in-Ok-Whole.words.items) c.in-Ok-Whole.used c.args.effects.now p c.part_of.new.effects) = search rules in
    let small : c.in-Ok-Whole.used < 2 ^ 64 = search rules in
    parts_read c.args.bytes.now c.in-Ok-Whole.used (map cow_slice_items c.in-Ok-Whole.words.items) c.args.effects.now c.part_of.new.effects c.part_of.result found.0 small found.1 read

pub returns-in-Ok-Bad-clause-found : goal.returns-in-Ok-Bad-clause-found
returns-in-Ok-Bad-clause-found c =
    doomed_read c.args.bytes.now _ c.args.effects.now c.args.effects.now (subst (λ (s : Scan). ReadsCommand commands c.args.bytes.now s) c.in-Ok-Bad.field-0-is c.in-Ok-Bad.ensures.found)

pub returns-in-Ok-Whole-clause-after : goal.returns-in-Ok-Whole-clause-after
returns-in-Ok-Whole-clause-after c =
    let progress = c.next_command_from.new.progress in
    fresh_part progress c.part_of.result (spent_by progress c.in-Ok-Whole.field-0 _ c.in-Ok-Whole.field-0-is (λ never. never) c.in-Ok-Whole.ensures.spent)

pub returns-in-Ok-Bad-clause-after : goal.returns-in-Ok-Bad-clause-after
returns-in-Ok-Bad-clause-after c =
    let progress = c.next_command_from.new.progress in
    spent_by progress c.in-Ok-Bad.field-0 _ c.in-Ok-Bad.field-0-is (λ never. never) c.in-Ok-Bad.ensures.spent
