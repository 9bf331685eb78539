-- The words that a command to the server itself is spelled by.
use Rattle.std.specs.Prelude.{ℕ, pos, List, [], ◌∷◌, map, Option, Some, None}
use Rattle.mr_arguments.specs.Spelling.{Part, Word, Number, Keyword, AreParts, NameAndArguments}
use Rattle.mr_cmd_server.specs.Carried.{server_words}
use Rattle.mr_cmd_server.specs.Arguments.{saving_text, setname, setinfo}
use Rattle.mr_cmd_server.specs.declared.server_ask.Saving.{Saving}
use Rattle.mr_cmd_server.specs.declared.server_ask.ServerAsk.{ServerAsk}
use Rattle.mr_cmd_server.specs.declared.server_ask.ServerAsk.TheVariants as server
use Rattle.mr_arguments.specs.declared.name.Name.{Name}
use Rattle.mr_cmd_server.specs.Called.{server_name}

-- an option of SHUTDOWN that may be left out
abbrev pub saving_part : Option Saving → List Part
saving_part None = []
saving_part (Some saving) = Keyword (saving_text saving) ∷ []

-- what stands behind the name of a command to the server itself
abbrev pub server_parts : ServerAsk → List Part
server_parts server.Select = Number (pos 0) ∷ []
server_parts (server.ClientSetName name) = Keyword setname ∷ Word name ∷ []
server_parts (server.ClientSetInfo attribute value) = Keyword setinfo ∷ Word attribute ∷ Word value ∷ []
server_parts (server.Shutdown saving) = saving_part saving
server_parts command = map Word (server_words command)

-- These words, behind this name, spell the command.
abbrev pub ServerSpells : Name → List (List ℕ) → ServerAsk → Type 0
ServerSpells called words command = NameAndArguments (server_name command) called (AreParts words (server_parts command))
