-- The words that a command on hashes is spelled by.
use Rattle.std.specs.Prelude.{ℕ, List, [], ◌∷◌, map}
use Rattle.mr_arguments.specs.Spelling.{Part, Word, Number, AreParts, NameAndArguments}
use Rattle.mr_arguments.specs.declared.name.Name.{Name}
use Rattle.mr_cmd_hash.specs.Called.{hash_name}
use Rattle.mr_cmd_hash.specs.Carried.{hash_words}
use Rattle.mr_cmd_hash.specs.declared.hash_ask.HashAsk.{HashAsk}
use Rattle.mr_cmd_hash.specs.declared.hash_ask.HashAsk.TheVariants as hash

-- what stands behind the name of a command on hashes
abbrev pub hash_parts : HashAsk → List Part
hash_parts (hash.HIncrBy key field by) = Word key ∷ Word field ∷ Number by ∷ []
hash_parts command = map Word (hash_words command)

-- These words, behind this name, spell the command.
abbrev pub HashSpells : Name → List (List ℕ) → HashAsk → Type 0
HashSpells called words command = NameAndArguments (hash_name command) called (AreParts words (hash_parts command))
