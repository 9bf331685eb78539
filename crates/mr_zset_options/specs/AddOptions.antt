-- The options of ZADD, which stand in any order, each at most once.
use Rattle.std.specs.Prelude.{ℕ, suc, List, [], ◌∷◌, Bool, true, false, if◌then◌else◌, Option, Some, None, Result, Ok, Err, codes, find, take, drop}
use Rattle.std.specs.Option.{is_some, ok_or}
use Rattle.std.specs.Str.{bytes_eq}
use Rattle.mr_arguments.specs.Names.{lowered}
use Rattle.mr_arguments.specs.Options.{added}
use Rattle.mr_arguments.specs.Parts.{with}
use Rattle.mr_arguments.specs.declared.fault.AskFault.{AskFault}
use Rattle.mr_arguments.specs.declared.fault.AskFault.TheVariants.{Syntax}
use Rattle.mr_zset_options.specs.declared.choices.ScoreCondition.{ScoreCondition}
use Rattle.mr_zset_options.specs.declared.choices.ScoreCondition.TheVariants.{Absent, Present}
use Rattle.mr_zset_options.specs.declared.choices.Comparison.{Comparison}
use Rattle.mr_zset_options.specs.declared.choices.Comparison.TheVariants.{Greater, Less}
use Rattle.mr_zset_options.specs.declared.choices.ScoresReply.{ScoresReply}
use Rattle.mr_zset_options.specs.declared.choices.ScoresReply.TheVariants as reply
use Rattle.mr_zset_options.specs.declared.add_options.AddOption.{AddOption}
use Rattle.mr_zset_options.specs.declared.add_options.AddOption.TheVariants as add
use Rattle.mr_zset_options.specs.declared.add_options.AddOptions.{AddOptions}

-- option words, in lower case
abbrev pub add_text : AddOption → List ℕ
add_text (add.Condition Absent) = codes "nx"
add_text (add.Condition Present) = codes "xx"
add_text (add.Comparison Greater) = codes "gt"
add_text (add.Comparison Less) = codes "lt"
add_text add.Changed = codes "ch"

abbrev pub is_add_option : List ℕ → AddOption → Bool
is_add_option text option = bytes_eq text (add_text option)

-- all of them
abbrev pub all_add_options : List AddOption
all_add_options = add.Condition Absent ∷ add.Condition Present ∷ add.Comparison Greater ∷ add.Comparison Less ∷ add.Changed ∷ []

-- the option that a word is, in any case
abbrev pub add_option : List ℕ → Option AddOption
add_option word = find (is_add_option (lowered word)) all_add_options

-- how many words are options, up to the first that is none
abbrev pub option_count : List (List ℕ) → ℕ
option_count [] = 0
option_count (word ∷ words) = if is_some (add_option word) then suc (option_count words) else 0

-- these words, and those behind them
abbrev pub option_words : List (List ℕ) → List (List ℕ)
option_words words = take (option_count words) words

abbrev pub pair_words : List (List ℕ) → List (List ℕ)
pair_words words = drop (option_count words) words

abbrev pub no_add_options : AddOptions
no_add_options = record { condition = None; comparison = None; reply = reply.Added }

-- with CH, where it isn't set yet
abbrev pub changed_also : Option ScoreCondition → Option Comparison → ScoresReply → Result AddOptions AskFault
changed_also condition comparison reply.Added = Ok (record { condition = condition; comparison = comparison; reply = reply.Changed })
changed_also condition comparison reply.Changed = Err Syntax

-- with one option more, where none of its kind is set yet: NX and XX are of one kind, and GT and LT
abbrev pub add_also : AddOptions → AddOption → Result AddOptions AskFault
add_also options (add.Condition condition) = if is_some options.condition then Err Syntax else Ok (record { condition = Some condition; comparison = options.comparison; reply = options.reply })
add_also options (add.Comparison comparison) = if is_some options.comparison then Err Syntax else Ok (record { condition = options.condition; comparison = Some comparison; reply = options.reply })
add_also options add.Changed = changed_also options.condition options.comparison options.reply

abbrev pub add_word : AddOptions → List ℕ → Result AddOptions AskFault
add_word options word = with (ok_or (add_option word) Syntax) (add_also options)

-- a member that isn't there has no score to compare with
abbrev pub disagree : Option ScoreCondition → Option Comparison → Bool
disagree (Some Absent) (Some comparison) = true
disagree _ _ = false

abbrev pub agreeing : AddOptions → Result AddOptions AskFault
agreeing options = if disagree options.condition options.comparison then Err Syntax else Ok options

-- what option words set
abbrev pub add_options : List (List ℕ) → Result AddOptions AskFault
add_options words = with (added add_word no_add_options words) agreeing
