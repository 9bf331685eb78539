-- Words that spell SET are read as it.
use Rattle.std.proofs.Common.{ℕ, ◌≡◌, ◌⊎◌, List, [], ◌∷◌, ◌++◌, map, Option, Some, None, inl, inr, refl, sym, ◌∙◌, ap, subst}
use Rattle.std.specs.Prelude.{find, IsPermutation, Result, Ok}
use Rattle.std.specs.Fmt.{signed_decimal}
use Rattle.std.specs.Option.{is_some, ok_or}
use Rattle.mr_bytes.proofs.Numbers.{number_of-signed_decimal}
use Rattle.mr_arguments.specs.Options.{added}
use Rattle.mr_arguments.specs.Parts.{with}
use Rattle.mr_arguments.specs.Spelling.{Part, Keyword, IsPart, AreParts, in_a_row, Word}
use Rattle.mr_arguments.proofs.OrderLemmas.{twice_refused}
use Rattle.mr_arguments.proofs.OrderedLemmas.{any_order}
use Rattle.mr_arguments.proofs.PartLemmas.{number_part}
use Rattle.mr_arguments.proofs.ReadLemmas.{from_one, number_part_of, number_part_only, one_part, two_parts, two_first}
use Rattle.mr_arguments.specs.declared.fault.AskFault.{AskFault}
use Rattle.mr_arguments.specs.declared.fault.AskFault.TheVariants.{Syntax}
use Rattle.mr_cmd_string.specs.Askable.{IsLifetime, TextIsAskable}
use Rattle.mr_arguments.specs.Expiry.{number_said, unit_said}
use Rattle.mr_cmd_string.specs.Options.{all_set_options, all_units, is_set_option, is_unit, lifetime_also, no_set_options, set_also, set_options, set_text, unit_of, unit_text, until}
use Rattle.mr_cmd_string.specs.Parts.{lifetime_if_any}
use Rattle.mr_cmd_string.specs.Spelled.{condition_option, lifetime_option, reply_option, AreOfTexts}
use Rattle.mr_cmd_string.proofs.PartLemmas.{lifetime_words}
use Rattle.mr_cmd_string.proofs.SetOrderLemmas.{alike, lifetime_alike, one_step}
use Rattle.mr_arguments.specs.declared.expiry.Expiry.TheVariants.{Seconds, Milliseconds, AtSecond, AtMillisecond}
use Rattle.mr_arguments.specs.declared.expiry.ExpiryUnit.{ExpiryUnit}
use Rattle.mr_arguments.specs.declared.expiry.ExpiryUnit.TheVariants as unit
use Rattle.mr_cmd_string.specs.declared.options.LifetimeOption.{LifetimeOption}
use Rattle.mr_cmd_string.specs.declared.options.LifetimeOption.TheVariants as lifetime
use Rattle.mr_cmd_string.specs.declared.options.SetOption.{SetOption}
use Rattle.mr_cmd_string.specs.declared.options.SetOption.TheVariants as option
use Rattle.mr_cmd_string.specs.declared.options.SetOptions.{SetOptions}
use Rattle.mr_cmd_string.specs.declared.text_ask.Lifetime.{Lifetime}
use Rattle.mr_cmd_string.specs.declared.text_ask.Lifetime.TheVariants.{Endless, Kept, Until}
use Rattle.mr_cmd_string.specs.declared.text_ask.SetCondition.{SetCondition}
use Rattle.mr_cmd_string.specs.declared.text_ask.SetCondition.TheVariants.{Absent, Present}
use Rattle.mr_cmd_string.specs.declared.text_ask.SetReply.{SetReply}
use Rattle.mr_cmd_string.specs.declared.text_ask.SetReply.TheVariants.{Done, Before}
use Rattle.mr_cmd_string.specs.declared.text_ask.TextAsk.TheVariants as text
use Rattle.mr_cmd_string.specs.Arguments.{set}

-- ---- SET's options: a word, or a word with its number
abbrev OneOption : Type 0
OneOption = SetOption ⊎ (ExpiryUnit × List ℕ)

abbrev add : SetOptions → OneOption → Result SetOptions AskFault
add s (inl o) = set_also s o
add s (inr u) = lifetime_also s (lifetime.Until u.0 u.1)

adds_alike : (s : SetOptions) (o p : OneOption) → with (add s o) (λ t. add t p) ≡ with (add s p) (λ t. add t o)
adds_alike s (inl o) (inl p) = alike s.condition s.reply s.lifetime o p
adds_alike s (inl o) (inr u) = lifetime_alike s.condition s.reply s.lifetime o (lifetime.Until u.0 u.1)
adds_alike s (inr u) (inl p) = sym (lifetime_alike s.condition s.reply s.lifetime p (lifetime.Until u.0 u.1))
adds_alike s (inr u) (inr v) = twice_refused (is_some s.lifetime) _ _ _ _ refl refl

abbrev part : OneOption → List Part
part (inl o) = Keyword (set_text o) ∷ []
part (inr u) = Keyword (unit_text u.0) ∷ number_part u.1 ∷ []

-- by the word in lower case
abbrev option_said : List ℕ → Option SetOption
option_said x = find (is_set_option x) all_set_options

abbrev unit_said_by : List ℕ → Option ExpiryUnit
unit_said_by x = find (is_unit x) all_units

option_itself : (o : SetOption) → (unit_said_by (set_text o) ≡ None) × (option_said (set_text o) ≡ Some o)
option_itself (option.Condition Absent) = (refl, refl)
option_itself (option.Condition Present) = (refl, refl)
option_itself option.Before = (refl, refl)
option_itself option.Kept = (refl, refl)

unit_itself : (u : ExpiryUnit) → unit_said_by (unit_text u) ≡ Some u
unit_itself unit.Seconds = refl
unit_itself unit.Milliseconds = refl
unit_itself unit.AtSecond = refl
unit_itself unit.AtMillisecond = refl

word_read : (s : SetOptions) (o : SetOption) (rest : List (List ℕ)) (w : List ℕ) → IsPart w (Keyword (set_text o)) → set_options s (w ∷ rest) ≡ with (set_also s o) (λ t. set_options t rest)
word_read s o rest w is =
    one_step s (w ∷ []) rest (ap (λ (x : List ℕ). is_some (unit_said_by x)) is ∙ ap is_some (option_itself o).0)
    ∙ ap (λ (x : List ℕ). with (with (ok_or (option_said x) Syntax) (set_also s)) (λ t. set_options t rest)) is
    ∙ ap (λ x. with (with (ok_or x Syntax) (set_also s)) (λ t. set_options t rest)) (option_itself o).1

timed_read : (s : SetOptions) (u : ExpiryUnit) (n : List ℕ) (rest : List (List ℕ)) (w v : List ℕ) → IsPart w (Keyword (unit_text u)) → IsPart v (number_part n)
    → set_options s (w ∷ v ∷ rest) ≡ with (lifetime_also s (lifetime.Until u n)) (λ t. set_options t rest)
timed_read s u n rest w v is number =
    let unit_is : unit_of w ≡ Some u = ap unit_said_by is ∙ unit_itself u in
    one_step s (w ∷ v ∷ []) rest (ap is_some unit_is)
    ∙ ap (λ x. with (until s x v) (λ t. set_options t rest)) unit_is
    ∙ ap (λ (x : List ℕ). with (lifetime_also s (lifetime.Until u x)) (λ t. set_options t rest)) (number_part_only v n number)

first : (s : SetOptions) (o : OneOption) (words rest : List (List ℕ)) → AreParts words (part o) → set_options s (words ++ rest) ≡ with (add s o) (λ t. set_options t rest)
first s (inl o) words rest h = one_part (λ xs. set_options s (xs ++ rest) ≡ with (set_also s o) (λ t. set_options t rest)) (Keyword (set_text o)) (word_read s o rest) words h
first s (inr u) words rest h =
    two_parts (λ xs. set_options s (xs ++ rest) ≡ with (lifetime_also s (lifetime.Until u.0 u.1)) (λ t. set_options t rest)) (Keyword (unit_text u.0)) (number_part u.1) (timed_read s u.0 u.1 rest) words h

-- all that are set, in one order
abbrev condition_steps : Option SetCondition → List OneOption
condition_steps None = []
condition_steps (Some c) = inl (option.Condition c) ∷ []

abbrev reply_steps : SetReply → List OneOption
reply_steps Done = []
reply_steps Before = inl option.Before ∷ []

abbrev lifetime_steps : Option LifetimeOption → List OneOption
lifetime_steps None = []
lifetime_steps (Some lifetime.Kept) = inl option.Kept ∷ []
lifetime_steps (Some (lifetime.Until u n)) = inr (u, n) ∷ []

abbrev steps : Option SetCondition → SetReply → Option LifetimeOption → List OneOption
steps c r l = condition_steps c ++ reply_steps r ++ lifetime_steps l

abbrev parts : Option SetCondition → SetReply → Option LifetimeOption → List (List Part)
parts c r l = condition_option c ++ reply_option r ++ lifetime_words l

all_set : (c : Option SetCondition) (r : SetReply) (l : Option LifetimeOption)
    → (map part (steps c r l) ≡ parts c r l) × (added add no_set_options (steps c r l) ≡ Ok (record { condition = c; reply = r; lifetime = l }))
all_set None Done None = (refl, refl)
all_set None Done (Some lifetime.Kept) = (refl, refl)
all_set None Done (Some (lifetime.Until u n)) = (refl, refl)
all_set None Before None = (refl, refl)
all_set None Before (Some lifetime.Kept) = (refl, refl)
all_set None Before (Some (lifetime.Until u n)) = (refl, refl)
all_set (Some c) Done None = (refl, refl)
all_set (Some c) Done (Some lifetime.Kept) = (refl, refl)
all_set (Some c) Done (Some (lifetime.Until u n)) = (refl, refl)
all_set (Some c) Before None = (refl, refl)
all_set (Some c) Before (Some lifetime.Kept) = (refl, refl)
all_set (Some c) Before (Some (lifetime.Until u n)) = (refl, refl)

options_are : (c : Option SetCondition) (r : SetReply) (l : Option LifetimeOption) (words : List (List ℕ)) (order : List (List Part))
    → IsPermutation (parts c r l) order → AreParts words (in_a_row order) → set_options no_set_options words ≡ Ok (record { condition = c; reply = r; lifetime = l })
options_are c r l words order p h =
    let all = all_set c r l in
    any_order add adds_alike part set_options (λ s. refl) first (steps c r l) order no_set_options words
    (subst (λ (x : List (List Part)). IsPermutation x order) (sym all.0) p) h
    ∙ all.1

-- ---- how long the value stays
abbrev LifetimeIsAskable : Lifetime → Type 0
LifetimeIsAskable Endless = Unit {0}
LifetimeIsAskable Kept = Unit {0}
LifetimeIsAskable (Until expiry) = IsLifetime expiry

-- with the text of its number
abbrev lifetime_said : Lifetime → Option LifetimeOption
lifetime_said Endless = None
lifetime_said Kept = Some lifetime.Kept
lifetime_said (Until e) = Some (lifetime.Until (unit_said e) (signed_decimal (number_said e)))

said_parts : (l : Lifetime) → LifetimeIsAskable l → lifetime_words (lifetime_said l) ≡ lifetime_option l
said_parts Endless h = refl
said_parts Kept h = refl
said_parts (Until e) h = ap (λ (p : Part). (Keyword (unit_text (unit_said e)) ∷ p ∷ []) ∷ []) (number_part_of (number_said e) h.0.0)

said_read : (l : Lifetime) → LifetimeIsAskable l → lifetime_if_any (lifetime_said l) ≡ Ok l
said_read Endless h = refl
said_read Kept h = refl
said_read (Until (Seconds n)) h = rw (number_of-signed_decimal n h.0.0, from_one n h.1, h.0.1) refl
said_read (Until (Milliseconds n)) h = rw (number_of-signed_decimal n h.0.0, from_one n h.1, h.0.1) refl
said_read (Until (AtSecond n)) h = rw (number_of-signed_decimal n h.0.0, from_one n h.1, h.0.1) refl
said_read (Until (AtMillisecond n)) h = rw (number_of-signed_decimal n h.0.0, from_one n h.1, h.0.1) refl

set_at : (k v : List ℕ) (c : Option SetCondition) (r : SetReply) (l : Lifetime) (order : List (List Part)) → LifetimeIsAskable l → IsPermutation (condition_option c ++ reply_option r ++ lifetime_option l) order
    → (a b : List ℕ) (ws : List (List ℕ)) → a ≡ k → b ≡ v → AreParts ws (in_a_row order) → set (a ∷ b ∷ ws) ≡ Ok (text.Set k v c r l)
set_at k v c r l order h p a b ws ea eb rest =
    ap (λ x. with x (λ options. with (lifetime_if_any options.lifetime) (λ stays. Ok (text.Set a b options.condition options.reply stays))))
    (options_are c r (lifetime_said l) ws order (subst (λ (x : List (List Part)). IsPermutation (condition_option c ++ reply_option r ++ x) order) (sym (said_parts l h)) p) rest)
    ∙ ap (λ x. with x (λ stays. Ok (text.Set a b c r stays))) (said_read l h)
    ∙ ap (λ (x : List ℕ). Ok (text.Set x b c r l)) ea
    ∙ ap (λ (x : List ℕ). Ok (text.Set k x c r l)) eb

stays_askable : (k v : List ℕ) (c : Option SetCondition) (r : SetReply) (l : Lifetime) → TextIsAskable (text.Set k v c r l) → LifetimeIsAskable l
stays_askable k v c r Endless h = tt
stays_askable k v c r Kept h = tt
stays_askable k v c r (Until e) h = h

pub set_is_read : (k v : List ℕ) (c : Option SetCondition) (r : SetReply) (l : Lifetime) (ws : List (List ℕ)) → TextIsAskable (text.Set k v c r l) → AreOfTexts ws (text.Set k v c r l) → set ws ≡ Ok (text.Set k v c r l)
set_is_read k v c r l ws h s =
    two_first (λ xs. set xs ≡ Ok (text.Set k v c r l)) (Word k) (Word v) (in_a_row s.0) (set_at k v c r l s.0 (stays_askable k v c r l h) s.1.0) ws s.1.1
