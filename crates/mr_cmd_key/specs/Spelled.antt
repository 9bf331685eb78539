-- The words that a command on keys is spelled by.
use Rattle.std.specs.Prelude.{◌≡◌, ℕ, pos, List, [], ◌∷◌, ◌++◌, map, Option, Some, None, option_map, IfSome}
use Rattle.mr_arguments.specs.Spelling.{Part, Word, Number, Keyword, Positive, IsPositive, AreParts, AreWithOptions, NameAndArguments}
use Rattle.mr_cmd_key.specs.Carried.{key_words}
use Rattle.mr_cmd_key.specs.Parts.{timing_text, kind_of}
use Rattle.mr_arguments.specs.Expiry.{number_said}
use Rattle.mr_cmd_key.specs.Options.{expire_text, scan_text}
use Rattle.mr_cmd_key.specs.declared.options.ScanOption.{ScanOption}
use Rattle.mr_cmd_key.specs.declared.options.ScanOption.TheVariants as scan
use Rattle.mr_cmd_key.specs.declared.key_ask.ExpireCondition.{ExpireCondition}
use Rattle.mr_cmd_key.specs.declared.key_ask.Cursor.{Cursor}
use Rattle.mr_cmd_key.specs.declared.key_ask.Cursor.TheVariants.{Start, Behind}
use Rattle.mr_cmd_key.specs.declared.key_ask.KindName.{KindName}
use Rattle.mr_cmd_key.specs.declared.key_ask.Timing.{Timing}
use Rattle.mr_cmd_key.specs.declared.key_ask.KeyAsk.{KeyAsk}
use Rattle.mr_cmd_key.specs.declared.key_ask.KeyAsk.TheVariants as key
use Rattle.mr_arguments.specs.declared.name.Name.{Name}
use Rattle.mr_cmd_key.specs.Called.{key_name}

-- where a scan goes on
abbrev pub cursor_part : Cursor → Part
cursor_part Start = Number (pos 0)
cursor_part Behind = Positive

-- when memory is given back, which may be left out
abbrev pub timing_part : Option Timing → List Part
timing_part None = []
timing_part (Some timing) = Keyword (timing_text timing) ∷ []

-- which keys get a deadline, which may be left out
abbrev pub expire_part : Option ExpireCondition → List Part
expire_part None = []
expire_part (Some condition) = Keyword (expire_text condition) ∷ []

-- what stands behind the name of a command on keys, before its options
abbrev pub key_parts : KeyAsk → List Part
key_parts (key.Scan cursor pattern kind) = cursor_part cursor ∷ []
key_parts (key.Clear databases timing) = timing_part timing
key_parts (key.Expire key expiry condition) = Word key ∷ Number (number_said expiry) ∷ expire_part condition
key_parts command = map Word (key_words command)

abbrev pub scan_option : ScanOption → Option (List ℕ) → List (List Part)
scan_option option None = []
scan_option option (Some argument) = (Keyword (scan_text option) ∷ Word argument ∷ []) ∷ []

-- what stands behind SCAN: a number from 1 on may stand there, and says nothing; a kind is named by some word
pub record AreOfScan (words : List (List ℕ)) (cursor : Cursor) (pattern : Option (List ℕ)) (kind : Option KindName) : Type 0 where
  pub count : Option (List ℕ)
  pub counts : IfSome count IsPositive
  pub kind_word : Option (List ℕ)
  pub names : option_map kind_of kind_word ≡ kind
  pub are : AreWithOptions words (key_parts (key.Scan cursor pattern kind)) (scan_option scan.Pattern pattern ++ scan_option scan.Count count ++ scan_option scan.Kind kind_word)

-- the words that stand behind the name of a command on keys
abbrev pub AreOfKeys : List (List ℕ) → KeyAsk → Type 0
AreOfKeys words (key.Scan cursor pattern kind) = AreOfScan words cursor pattern kind
AreOfKeys words command = AreParts words (key_parts command)

-- These words, behind this name, spell the command.
abbrev pub KeySpells : Name → List (List ℕ) → KeyAsk → Type 0
KeySpells called words command = NameAndArguments (key_name command) called (AreOfKeys words command)
