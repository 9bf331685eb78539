-- Options that stand side by side may change places.
use Rattle.std.proofs.Common.{ℕ, ◌≡◌, List, [], ◌∷◌, ◌++◌, Option, Some, None, refl, sym, ap}
use Rattle.std.specs.Option.{is_some, ok_or}
use Rattle.mr_arguments.specs.Options.{added}
use Rattle.mr_arguments.specs.Parts.{with}
use Rattle.mr_arguments.proofs.OrderLemmas.{exchanged, OnlySyntax, words_alike, two_alike, twice_refused, unless, only_found, only_with}
use Rattle.mr_arguments.specs.declared.fault.AskFault.TheVariants.{Syntax}
use Rattle.mr_zset_options.specs.AddOptions.{add_also, add_option, add_options, add_word, agreeing, changed_also, disagree, no_add_options}
use Rattle.mr_zset_options.specs.declared.add_options.AddOption.{AddOption}
use Rattle.mr_zset_options.specs.declared.add_options.AddOption.TheVariants as add
use Rattle.mr_zset_options.specs.declared.add_options.AddOptions.{AddOptions}
use Rattle.mr_zset_options.specs.declared.choices.ScoreCondition.{ScoreCondition}
use Rattle.mr_zset_options.specs.declared.choices.Comparison.{Comparison}
use Rattle.mr_zset_options.specs.declared.choices.ScoresReply.{ScoresReply}
use Rattle.mr_zset_options.specs.declared.choices.ScoresReply.TheVariants.{Added, Changed}

changed_only : (c : Option ScoreCondition) (d : Option Comparison) (r : ScoresReply) → OnlySyntax (changed_also c d r)
unfolding OnlySyntax
changed_only c d Added = tt
changed_only c d Changed = refl

also_only : (s : AddOptions) (o : AddOption) → OnlySyntax (add_also s o)
also_only s (add.Condition c) = unless (is_some s.condition) (record { condition = Some c; comparison = s.comparison; reply = s.reply })
also_only s (add.Comparison c) = unless (is_some s.comparison) (record { condition = s.condition; comparison = Some c; reply = s.reply })
also_only s add.Changed = changed_only s.condition s.comparison s.reply

abbrev options : Option ScoreCondition → Option Comparison → ScoresReply → AddOptions
options c d r = record { condition = c; comparison = d; reply = r }

-- an option beside CH
beside_changed : (c : Option ScoreCondition) (d : Option Comparison) (r : ScoresReply) (o : AddOption)
    → with (add_also (options c d r) o) (λ t. add_also t add.Changed) ≡ with (add_also (options c d r) add.Changed) (λ t. add_also t o)
beside_changed None d Added (add.Condition a) = refl
beside_changed None d Changed (add.Condition a) = refl
beside_changed (Some c) d Added (add.Condition a) = refl
beside_changed (Some c) d Changed (add.Condition a) = refl
beside_changed c None Added (add.Comparison a) = refl
beside_changed c None Changed (add.Comparison a) = refl
beside_changed c (Some d) Added (add.Comparison a) = refl
beside_changed c (Some d) Changed (add.Comparison a) = refl
beside_changed c d r add.Changed = refl

pub alike : (c : Option ScoreCondition) (d : Option Comparison) (r : ScoresReply) (o p : AddOption)
    → with (add_also (options c d r) o) (λ t. add_also t p) ≡ with (add_also (options c d r) p) (λ t. add_also t o)
alike c d r (add.Condition a) (add.Condition b) = twice_refused (is_some c) _ _ _ _ refl refl
alike c d r (add.Condition a) (add.Comparison b) = two_alike (is_some c) (is_some d) _ _ _ _ _ refl refl
alike c d r (add.Comparison a) (add.Condition b) = two_alike (is_some d) (is_some c) _ _ _ _ _ refl refl
alike c d r (add.Comparison a) (add.Comparison b) = twice_refused (is_some d) _ _ _ _ refl refl
alike c d r o add.Changed = beside_changed c d r o
alike c d r add.Changed p = sym (beside_changed c d r p)

add_words_alike : (s : AddOptions) (v w : List ℕ) → with (add_word s v) (λ t. add_word t w) ≡ with (add_word s w) (λ t. add_word t v)
add_words_alike s v w =
    words_alike add_also add_also (ok_or (add_option v) Syntax) (ok_or (add_option w) Syntax) also_only also_only
    (only_found (add_option v)) (only_found (add_option w)) (λ t o p. alike t.condition t.comparison t.reply o p) s

pub add_in_any_order : (front back : List (List ℕ)) (v w : List ℕ) → add_options (front ++ v ∷ w ∷ back) ≡ add_options (front ++ w ∷ v ∷ back)
add_in_any_order front back v w = ap (λ r. with r agreeing) (exchanged add_word add_words_alike front back v w no_add_options)

-- ---- no other fault
all_only : (ws : List (List ℕ)) (s : AddOptions) → OnlySyntax (added add_word s ws)
unfolding OnlySyntax
all_only [] s = tt
all_only (w ∷ ws) s = only_with (add_word s w) (λ t. added add_word t ws) (only_with (ok_or (add_option w) Syntax) (add_also s) (only_found (add_option w)) (also_only s)) (all_only ws)

pub add_options_only : (ws : List (List ℕ)) → OnlySyntax (add_options ws)
add_options_only ws = only_with (added add_word no_add_options ws) agreeing (all_only ws no_add_options) (λ s. unless (disagree s.condition s.comparison) s)
