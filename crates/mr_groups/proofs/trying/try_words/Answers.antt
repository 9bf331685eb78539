use Rattle.std.proofs.Common.{Option, Some, map, subst}
use Rattle.std.specs.Cow.{cow_slice_items}
use Rattle.mr_effect.specs.Spelling.{Spells, FindsEach}
use Rattle.mr_effect.specs.declared.effect.Effect.{Effect}
use Rattle.mr_groups.proofs.Commands.{words_tried}
use Rattle.mr_groups.proofs.trying.try_words.Goals as goal

pub returns-in-Ok-Some : goal.returns-in-Ok-Some
returns-in-Ok-Some c =
    let ws = map cow_slice_items c.args.words.now in
    let spelled : Spells ws (Some c.in-Ok-Some.effect) = subst (λ (o : Option Effect). Spells ws o) c.in-Ok-Some.field-0-is c.in-Ok-Some.ensures.found in
    let each : FindsEach ws (Some c.in-Ok-Some.effect) = subst (λ (o : Option Effect). FindsEach ws o) c.in-Ok-Some.field-0-is c.in-Ok-Some.ensures.each in
    words_tried c.in-Ok-Some.effect ws c.args.dataset.now c.try_effect.new.dataset c.try_effect.result c.try_effect.ensures spelled each
