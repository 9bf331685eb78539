use Rattle.std.proofs.Common.{◌≡◌, ℕ, List, take, refl, subst, ◌∙◌}
use Rattle.mr_data.specs.Meaning.{apply_all}
use Rattle.mr_groups.specs.Reading.{ReadsGroup, IsFirstGroup, IsOpen, IsBad}
use Rattle.mr_groups.specs.declared.reading.Next.{Next}
use Rattle.mr_follower.specs.Stream.{AppliesEffects, AppliesFront, WaitsWithin}
use Rattle.mr_follower.proofs.Fronts.{bad_refused, frame_lacks, waits_front, effects_in_front}
use Rattle.mr_follower.proofs.stream.apply_framed.Goals as goal

pub returns-in-Err-clause-applied : goal.returns-in-Err-clause-applied
returns-in-Err-clause-applied c = (frame_lacks c.args.inbox.now c.args.room c.args.held.now c.requires, (refl, refl))

pub returns-in-Ok-More-clause-applied : goal.returns-in-Ok-More-clause-applied
returns-in-Ok-More-clause-applied c =
    let u = c.args.inbox.now in
    let opened : IsOpen (take c.args.room u) = subst (λ (x : Next). ReadsGroup (take c.args.room u) x) c.in-Ok-More.field-0-is c.in-Ok-More.ensures.found in
    let same : c.unread.result.now ≡ u = c.unread.ensures ∙ c.in-Ok-More.ensures.kept in
    waits_front u c.args.room c.args.held.now c.waits.result c.args.out.now.items opened (subst (λ (l : List ℕ). WaitsWithin l c.args.room c.waits.result) same c.waits.ensures)

pub returns-in-Ok-Bad-clause-applied : goal.returns-in-Ok-Bad-clause-applied
returns-in-Ok-Bad-clause-applied c =
    let u = c.args.inbox.now in
    let bad : IsBad (take c.args.room u) = subst (λ (x : Next). ReadsGroup (take c.args.room u) x) c.in-Ok-Bad.field-0-is c.in-Ok-Bad.ensures.found in
    (bad_refused u c.args.room c.args.held.now bad, (refl, refl))

pub returns-in-Ok-Whole-clause-applied : goal.returns-in-Ok-Whole-clause-applied
returns-in-Ok-Whole-clause-applied c =
    let u = c.args.inbox.now in
    let es = c.in-Ok-Whole.effects.items in
    let used = c.in-Ok-Whole.used in
    let first : IsFirstGroup (take c.args.room u) es used = subst (λ (x : Next). ReadsGroup (take c.args.room u) x) c.in-Ok-Whole.field-0-is c.in-Ok-Whole.ensures.found in
    let same : c.unread-in-Ok-Whole.result.now ≡ u = c.unread-in-Ok-Whole.ensures ∙ c.in-Ok-Whole.ensures.kept in
    let done = subst (λ (l : List ℕ). AppliesEffects (take used l) es c.args.held.now c.apply_effects.result c.apply_effects.new.held c.args.out.now.items c.apply_effects.new.out.items) same c.apply_effects.ensures in
    effects_in_front u c.args.room used es c.args.held.now c.apply_effects.new.held c.apply_effects.result c.args.out.now.items c.apply_effects.new.out.items c.requires first done
