use Rattle.std.proofs.Common.{rules, Some, map}
use Rattle.std.specs.Cow.{cow_slice_items}
use Rattle.mr_effect.specs.Spelling.{IsSpelled, FindsEach}
use Rattle.mr_follower.proofs.Fronts.{effect_of_words}
use Rattle.mr_follower.proofs.single.apply_text.Goals as goal

pub returns-in-Ok-Some : goal.returns-in-Ok-Some
returns-in-Ok-Some c =
    let ws = map cow_slice_items c.args.words.now in
    let spelled : IsSpelled ws c.in-Ok-Some.effect = search rules in
    let each : FindsEach ws (Some c.in-Ok-Some.effect) = search rules in
    effect_of_words c.args.text.now ws c.in-Ok-Some.effect c.args.held.now c.apply_effect.new.held c.apply_effect.result c.args.out.now.items c.apply_effect.new.out.items spelled each c.apply_effect.ensures
