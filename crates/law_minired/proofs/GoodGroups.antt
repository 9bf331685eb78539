-- Effects that can be applied and may stand beside one another are one group, with a text of its own.
use Rattle.std.proofs.Common.{◌≡◌, List, [], ◌∷◌, true, Some, refl, ap, All, append-nil}
use Rattle.std.specs.Option.{option_and_then}
use Rattle.std.specs.List.{list_all}
use Rattle.std.proofs.lemmas.List.Elements.{All-nil, All-cons, All-head, All-tail}
use Rattle.mr_effect.specs.Spelling.{IsShort}
use Rattle.mr_effect.specs.declared.effect.Effect.{Effect}
use Rattle.mr_keyspace.specs.Dataset.{Dataset}
use Rattle.mr_data.specs.Meaning.{apply, apply_all}
use Rattle.mr_groups.specs.Effects.{IsGoodEffect}
use Rattle.mr_groups.specs.Groups.{IsGoodGroup, IsGroup, as_group, can_join, grown_text, group_texts}
use Rattle.mr_groups.specs.Folding.{apply_groups}
use Rattle.mr_groups.proofs.Runs.{first_done}
use Rattle.mr_groups.proofs.Commands.{applied_fits}

-- effects that lead on are good
pub good_effects : (es : List Effect) (m n : Dataset) → apply_all es m ≡ Some n → All IsShort es → All IsGoodEffect es
good_effects [] m n h short = All-nil IsGoodEffect
good_effects (e ∷ es) m n h short =
    let one = first_done (apply_all es) (apply e m) n h in
    let fit = applied_fits e m one.0 one.1 in
    All-cons IsGoodEffect e es (record { spelled = fit.0; fits = fit.1; short = All-head IsShort e es short }) (good_effects es one.0 n one.2 (All-tail IsShort e es short))

is_one : (e : Effect) (es : List Effect) → list_all can_join (e ∷ es) ≡ true → IsGroup (e ∷ es)
is_one e [] h = refl
is_one e (f ∷ es) h = h

-- they are one group, or none
pub good_as_group : (es : List Effect) → list_all can_join es ≡ true → All IsGoodEffect es → All IsGoodGroup (as_group es)
good_as_group [] join good = All-nil IsGoodGroup
good_as_group (e ∷ es) join good = All-cons IsGoodGroup (e ∷ es) [] (record { group = is_one e es join; good = good }) (All-nil IsGoodGroup)

-- .. which leads where they do
pub as_group_applied : (es : List Effect) (m n : Dataset) → apply_all es m ≡ Some n → apply_groups (as_group es) m ≡ Some n
as_group_applied [] m n h = h
as_group_applied (e ∷ es) m n h = ap (option_and_then Some) h

-- .. and whose text the stream grows by
pub as_group_texts : (es : List Effect) → group_texts (as_group es) ≡ grown_text es
as_group_texts [] = refl
as_group_texts (e ∷ es) = append-nil _
