use Rattle.std.proofs.Common.{refl, subst}
use Rattle.mr_groups.specs.Reading.{ReadsGroup}
use Rattle.mr_groups.specs.declared.reading.Next.{Next}
use Rattle.mr_groups.proofs.Going.{group_tried, lacks, rests_open, rests_bad}
use Rattle.mr_groups.proofs.front.try_group.Goals as goal

pub returns-in-Err-clause-done : goal.returns-in-Err-clause-done
returns-in-Err-clause-done c = lacks c.args.bytes.now c.args.dataset.now c.args.dataset.now

pub returns-in-Ok-Whole-clause-done : goal.returns-in-Ok-Whole-clause-done
returns-in-Ok-Whole-clause-done c =
    let bytes = c.args.bytes.now in
    let first = subst (λ (n : Next). ReadsGroup bytes n) c.in-Ok-Whole.field-0-is c.in-Ok-Whole.ensures.found in
    group_tried bytes c.in-Ok-Whole.effects.items c.in-Ok-Whole.used c.args.dataset.now c.try_whole.new.dataset c.try_whole.result.used c.try_whole.result.end first c.try_whole.ensures

pub returns-in-Ok-More-clause-done : goal.returns-in-Ok-More-clause-done
returns-in-Ok-More-clause-done c =
    let bytes = c.args.bytes.now in
    rests_open bytes c.args.dataset.now c.args.dataset.now refl (subst (λ (n : Next). ReadsGroup bytes n) c.in-Ok-More.field-0-is c.in-Ok-More.ensures.found)

pub returns-in-Ok-Bad-clause-done : goal.returns-in-Ok-Bad-clause-done
returns-in-Ok-Bad-clause-done c =
    let bytes = c.args.bytes.now in
    rests_bad bytes c.args.dataset.now c.args.dataset.now refl (subst (λ (n : Next). ReadsGroup bytes n) c.in-Ok-Bad.field-0-is c.in-Ok-Bad.ensures.found) c.requires.no_note
