-- Effects are groups of one each.
use Rattle.std.proofs.Common.{◌≡◌, ℕ, Some, List, [], ◌∷◌, sym, ◌∙◌, refl, All}
use Rattle.std.proofs.lemmas.List.Elements.{All-nil, All-cons, All-head, All-tail}
use Rattle.std.specs.FinMap.{empty}
use Rattle.mr_effect.specs.Spelling.{texts, IsShort}
use Rattle.mr_effect.specs.declared.effect.Effect.{Effect}
use Rattle.mr_keyspace.specs.Dataset.{Dataset}
use Rattle.mr_data.specs.Meaning.{apply, apply_all}
use Rattle.mr_groups.specs.Effects.{IsGoodEffect, Leads, Makes}
use Rattle.mr_groups.specs.Groups.{IsGoodGroup, singles}
use Rattle.mr_groups.specs.Folding.{LeadsByGroups, MakesByGroups}
use Rattle.mr_groups.proofs.Runs.{first_done, single_texts, single_applied, by_items}
use Rattle.mr_groups.proofs.Commands.{applied_fits}

pub one_good : (e : Effect) → IsGoodEffect e → IsGoodGroup (e ∷ [])
one_good e good = record { group = refl; good = All-cons IsGoodEffect e [] good (All-nil IsGoodEffect) }

pub good_singles : (es : List Effect) → All IsGoodEffect es → All IsGoodGroup (singles es)
good_singles [] good = All-nil IsGoodGroup
good_singles (e ∷ es) good = All-cons IsGoodGroup (e ∷ []) (singles es) (one_good e (All-head IsGoodEffect e es good)) (good_singles es (All-tail IsGoodEffect e es good))

-- what leads on by effects leads on by groups
pub leads_by_singles : (bytes : List ℕ) (old new : Dataset) → Leads bytes old new → LeadsByGroups bytes old new
leads_by_singles bytes old new led = record {
  groups = singles led.effects;
  good = good_singles led.effects led.good;
  are_texts = led.are_texts ∙ sym (single_texts led.effects);
  applied = single_applied led.effects old ∙ led.applied;
}

pub makes_by_singles : (bytes : List ℕ) (m : Dataset) → Makes bytes m → MakesByGroups bytes m
makes_by_singles bytes m made = by_items bytes empty m (leads_by_singles bytes empty m made)

-- ---- effects that can be applied

good_applied : (es : List Effect) (m n : Dataset) → apply_all es m ≡ Some n → All IsShort es → All IsGoodEffect es
good_applied [] m n h short = All-nil IsGoodEffect
good_applied (e ∷ es) m n h short =
    let one = first_done (apply_all es) (apply e m) n h in
    let fit = applied_fits e m one.0 one.1 in
    All-cons IsGoodEffect e es (record { spelled = fit.0; fits = fit.1; short = All-head IsShort e es short }) (good_applied es one.0 n one.2 (All-tail IsShort e es short))

-- their texts lead on by groups, where none has too many words
pub leads_applied : (es : List Effect) (m n : Dataset) → apply_all es m ≡ Some n → All IsShort es → LeadsByGroups (texts es) m n
leads_applied es m n applied short = leads_by_singles (texts es) m n (record { effects = es; good = good_applied es m n applied short; are_texts = refl; applied = applied })

pub makes_applied : (es : List Effect) (m : Dataset) → apply_all es empty ≡ Some m → All IsShort es → MakesByGroups (texts es) m
makes_applied es m applied short = by_items (texts es) empty m (leads_applied es empty m applied short)
