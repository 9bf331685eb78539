-- The words that a command on sets is spelled by.
use Rattle.std.specs.Prelude.{ℕ, List, ◌∷◌, map}
use Rattle.mr_arguments.specs.Spelling.{Part, Word, count_part, AreParts, NameAndArguments}
use Rattle.mr_arguments.specs.declared.name.Name.{Name}
use Rattle.mr_cmd_set.specs.Called.{set_name}
use Rattle.mr_cmd_set.specs.Carried.{set_words}
use Rattle.mr_cmd_set.specs.declared.set_ask.SetAsk.{SetAsk}
use Rattle.mr_cmd_set.specs.declared.set_ask.SetAsk.TheVariants as set

-- what stands behind the name of a command on sets
abbrev pub set_parts : SetAsk → List Part
set_parts (set.SPop key count) = Word key ∷ count_part count
set_parts (set.SRandMember key count) = Word key ∷ count_part count
set_parts command = map Word (set_words command)

abbrev pub SetSpells : Name → List (List ℕ) → SetAsk → Type 0
SetSpells called words command = NameAndArguments (set_name command) called (AreParts words (set_parts command))
