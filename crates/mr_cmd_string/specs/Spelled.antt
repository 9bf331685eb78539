-- The words that a command on strings is spelled by.
use Rattle.std.specs.Prelude.{ℕ, pos, neg_ℤ, List, [], ◌∷◌, ◌++◌, map, Option, Some, None}
use Rattle.mr_arguments.specs.Spelling.{Part, Word, Number, Keyword, AreParts, AreWithOptions, NameAndArguments}
use Rattle.mr_cmd_string.specs.Carried.{text_words}
use Rattle.mr_arguments.specs.Expiry.{unit_said, number_said}
use Rattle.mr_cmd_string.specs.Options.{set_text, unit_text}
use Rattle.mr_cmd_string.specs.declared.options.SetOption.TheVariants as option
use Rattle.mr_cmd_string.specs.declared.text_ask.SetCondition.{SetCondition}
use Rattle.mr_cmd_string.specs.declared.text_ask.SetReply.{SetReply}
use Rattle.mr_cmd_string.specs.declared.text_ask.SetReply.TheVariants.{Done, Before}
use Rattle.mr_cmd_string.specs.declared.text_ask.Lifetime.{Lifetime}
use Rattle.mr_cmd_string.specs.declared.text_ask.Lifetime.TheVariants as lifetime
use Rattle.mr_cmd_string.specs.declared.text_ask.Amount.{Amount}
use Rattle.mr_cmd_string.specs.declared.text_ask.Amount.TheVariants as amount
use Rattle.mr_cmd_string.specs.declared.text_ask.TextAsk.{TextAsk}
use Rattle.mr_cmd_string.specs.declared.text_ask.TextAsk.TheVariants as text
use Rattle.mr_arguments.specs.declared.name.Name.{Name}
use Rattle.mr_cmd_string.specs.Called.{text_name}

-- a number that is added, or its opposite that is taken away
abbrev pub amount_part : Amount → List Part
amount_part (amount.Number n) = Number n ∷ []
amount_part (amount.Opposite n) = Number (neg_ℤ n) ∷ []
amount_part _ = []

-- what stands behind the name of a command on strings, before its options
abbrev pub text_parts : TextAsk → List Part
text_parts (text.GetRange key first last) = Word key ∷ Number first ∷ Number last ∷ []
text_parts (text.SetEx key seconds value) = Word key ∷ Number seconds ∷ Word value ∷ []
text_parts (text.PSetEx key milliseconds value) = Word key ∷ Number milliseconds ∷ Word value ∷ []
text_parts (text.SetRange key offset value) = Word key ∷ Number (pos offset) ∷ Word value ∷ []
text_parts (text.Increase key by) = Word key ∷ amount_part by
text_parts command = map Word (text_words command)

-- an option: its words
abbrev pub condition_option : Option SetCondition → List (List Part)
condition_option None = []
condition_option (Some condition) = (Keyword (set_text (option.Condition condition)) ∷ []) ∷ []

abbrev pub reply_option : SetReply → List (List Part)
reply_option Done = []
reply_option Before = (Keyword (set_text option.Before) ∷ []) ∷ []

abbrev pub lifetime_option : Lifetime → List (List Part)
lifetime_option lifetime.Endless = []
lifetime_option lifetime.Kept = (Keyword (set_text option.Kept) ∷ []) ∷ []
lifetime_option (lifetime.Until expiry) = (Keyword (unit_text (unit_said expiry)) ∷ Number (number_said expiry) ∷ []) ∷ []

-- the words that stand behind the name of a command on strings
abbrev pub AreOfTexts : List (List ℕ) → TextAsk → Type 0
AreOfTexts words (text.Set k value condition reply lifetime) = AreWithOptions words (text_parts (text.Set k value condition reply lifetime)) (condition_option condition ++ reply_option reply ++ lifetime_option lifetime)
AreOfTexts words command = AreParts words (text_parts command)

-- These words, behind this name, spell the command.
abbrev pub TextSpells : Name → List (List ℕ) → TextAsk → Type 0
TextSpells called words command = NameAndArguments (text_name command) called (AreOfTexts words command)
