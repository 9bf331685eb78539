-- The words that a command is spelled by.
use Rattle.std.specs.Prelude.{◌≡◌, ℕ, List, [], ◌∷◌}
use Rattle.mr_arguments.specs.Names.{lowered, text_of}
use Rattle.mr_arguments.specs.declared.name.Name.{Name}
use Rattle.mr_cmd_string.specs.Spelled.{TextSpells}
use Rattle.mr_cmd_key.specs.Spelled.{KeySpells}
use Rattle.mr_cmd_server.specs.Spelled.{ServerSpells}
use Rattle.mr_cmd_node.specs.Spelled.{NodeSpells}
use Rattle.mr_cmd_hash.specs.Spelled.{HashSpells}
use Rattle.mr_cmd_list.specs.Spelled.{ListSpells}
use Rattle.mr_cmd_set.specs.Spelled.{SetSpells}
use Rattle.mr_cmd_zset.specs.Spelled.{ZSetSpells}
use Rattle.mr_ask.specs.declared.ask.Ask.{Ask}
use Rattle.mr_ask.specs.declared.ask.Ask.TheVariants as ask

-- this name and the words behind it spell the command
abbrev pub SpellsNamed : Name → List (List ℕ) → Ask → Type 0
SpellsNamed called words (ask.Texts command) = TextSpells called words command
SpellsNamed called words (ask.Keys command) = KeySpells called words command
SpellsNamed called words (ask.Hashes command) = HashSpells called words command
SpellsNamed called words (ask.Lists command) = ListSpells called words command
SpellsNamed called words (ask.Sets command) = SetSpells called words command
SpellsNamed called words (ask.SortedSets command) = ZSetSpells called words command
SpellsNamed called words (ask.Server command) = ServerSpells called words command
SpellsNamed called words (ask.Node command) = NodeSpells called words command

-- These words spell the command: its name in any case, and behind it its arguments.
abbrev pub Spells : List (List ℕ) → Ask → Type 0
Spells [] command = ⊥
Spells (word ∷ words) command = (called : Name) × ((lowered word ≡ text_of called) × SpellsNamed called words command)
