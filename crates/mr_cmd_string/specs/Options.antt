-- The options of SET, which stand in any order, each at most once.
use Rattle.std.specs.Prelude.{◌≡◌, ℕ, List, [], ◌∷◌, Bool, true, false, if◌then◌else◌, Option, Some, None, Result, Ok, Err, codes, find}
use Rattle.std.specs.Option.{is_some, ok_or}
use Rattle.std.specs.Str.{bytes_eq}
use Rattle.mr_arguments.specs.Names.{lowered}
use Rattle.mr_arguments.specs.Parts.{with}
use Rattle.mr_arguments.specs.declared.fault.AskFault.{AskFault}
use Rattle.mr_arguments.specs.declared.fault.AskFault.TheVariants.{Syntax}
use Rattle.mr_arguments.specs.declared.expiry.ExpiryUnit.{ExpiryUnit}
use Rattle.mr_arguments.specs.declared.expiry.ExpiryUnit.TheVariants as unit
use Rattle.mr_cmd_string.specs.declared.text_ask.SetCondition.{SetCondition}
use Rattle.mr_cmd_string.specs.declared.text_ask.SetCondition.TheVariants.{Absent, Present}
use Rattle.mr_cmd_string.specs.declared.text_ask.SetReply.{SetReply}
use Rattle.mr_cmd_string.specs.declared.text_ask.SetReply.TheVariants.{Done, Before}
use Rattle.mr_cmd_string.specs.declared.options.SetOption.{SetOption}
use Rattle.mr_cmd_string.specs.declared.options.SetOption.TheVariants as set
use Rattle.mr_cmd_string.specs.declared.options.LifetimeOption.{LifetimeOption}
use Rattle.mr_cmd_string.specs.declared.options.LifetimeOption.TheVariants as lifetime
use Rattle.mr_cmd_string.specs.declared.options.SetOptions.{SetOptions}

-- option words, in lower case
abbrev pub set_text : SetOption → List ℕ
set_text (set.Condition Absent) = codes "nx"
set_text (set.Condition Present) = codes "xx"
set_text set.Before = codes "get"
set_text set.Kept = codes "keepttl"

-- .. behind which a number stands
abbrev pub unit_text : ExpiryUnit → List ℕ
unit_text unit.Seconds = codes "ex"
unit_text unit.Milliseconds = codes "px"
unit_text unit.AtSecond = codes "exat"
unit_text unit.AtMillisecond = codes "pxat"

abbrev pub is_set_option : List ℕ → SetOption → Bool
is_set_option text option = bytes_eq text (set_text option)

-- all of SET that are one word
abbrev pub all_set_options : List SetOption
all_set_options = set.Condition Absent ∷ set.Condition Present ∷ set.Before ∷ set.Kept ∷ []

-- the one that a word is, in any case
abbrev pub set_option : List ℕ → Option SetOption
set_option word = find (is_set_option (lowered word)) all_set_options

abbrev pub is_unit : List ℕ → ExpiryUnit → Bool
is_unit text unit = bytes_eq text (unit_text unit)

abbrev pub all_units : List ExpiryUnit
all_units = unit.Seconds ∷ unit.Milliseconds ∷ unit.AtSecond ∷ unit.AtMillisecond ∷ []

-- the unit of the number behind a word of SET, in any case
abbrev pub unit_of : List ℕ → Option ExpiryUnit
unit_of word = find (is_unit (lowered word)) all_units

abbrev pub no_set_options : SetOptions
no_set_options = record { condition = None; reply = Done; lifetime = None }

-- with GET, where it isn't set yet
abbrev pub before_also : Option SetCondition → SetReply → Option LifetimeOption → Result SetOptions AskFault
before_also condition Done lifetime = Ok (record { condition = condition; reply = Before; lifetime = lifetime })
before_also condition Before lifetime = Err Syntax

-- with what says how long the value stays, where nothing says it yet
abbrev pub lifetime_also : SetOptions → LifetimeOption → Result SetOptions AskFault
lifetime_also options lifetime = if is_some options.lifetime then Err Syntax else Ok (record { condition = options.condition; reply = options.reply; lifetime = Some lifetime })

-- with one option more, where none of its kind is set yet: NX and XX are of one kind, and so are KEEPTTL and those with a number
abbrev pub set_also : SetOptions → SetOption → Result SetOptions AskFault
set_also options (set.Condition condition) = if is_some options.condition then Err Syntax else Ok (record { condition = Some condition; reply = options.reply; lifetime = options.lifetime })
set_also options set.Before = before_also options.condition options.reply options.lifetime
set_also options set.Kept = lifetime_also options lifetime.Kept

abbrev pub set_word : SetOptions → List ℕ → Result SetOptions AskFault
set_word options word = with (ok_or (set_option word) Syntax) (set_also options)

-- with a number in a unit, if it is one, where nothing says yet how long the value stays
abbrev pub until : SetOptions → Option ExpiryUnit → List ℕ → Result SetOptions AskFault
until options None number = Err Syntax
until options (Some unit) number = lifetime_also options (lifetime.Until unit number)

-- what words set further, each an option of SET or behind one
abbrev mutual
  pub set_options : SetOptions → List (List ℕ) → Result SetOptions AskFault
  set_options options [] = Ok options
  set_options options (word ∷ words) = if is_some (unit_of word) then number_then options (unit_of word) words else with (set_word options word) (λ next. set_options next words)

  -- where the word of a unit comes before the words
  pub number_then : SetOptions → Option ExpiryUnit → List (List ℕ) → Result SetOptions AskFault
  number_then options unit [] = Err Syntax
  number_then options unit (number ∷ words) = with (until options unit number) (λ next. set_options next words)

-- the words of one option of SET: a word, or one with its number behind it
abbrev pub AreOneOption : List (List ℕ) → Type 0
AreOneOption (word ∷ []) = is_some (unit_of word) ≡ false
AreOneOption (word ∷ number ∷ []) = is_some (unit_of word) ≡ true
AreOneOption _ = ⊥
