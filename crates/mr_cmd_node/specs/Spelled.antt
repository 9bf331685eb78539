-- The words that a command to the node is spelled by.
use Rattle.std.specs.Prelude.{◌≡◌, ◌⊎◌, ℕ, pos, List, [], ◌∷◌}
use Rattle.mr_arguments.specs.Spelling.{Part, Word, Number, Keyword, AreParts}
use Rattle.mr_arguments.specs.declared.name.Name.{Name}
use Rattle.mr_arguments.specs.declared.name.Name.TheVariants as name
use Rattle.mr_cmd_node.specs.Options.{option_text}
use Rattle.mr_cmd_node.specs.Arguments.{ack, no, one}
use Rattle.mr_cmd_node.specs.declared.node_ask.ReplicaOption.{ReplicaOption}
use Rattle.mr_cmd_node.specs.declared.node_ask.NodeAsk.{NodeAsk}
use Rattle.mr_cmd_node.specs.declared.node_ask.NodeAsk.TheVariants as node

-- options, each with its value behind it
abbrev pub told_parts : List (ReplicaOption × List ℕ) → List Part
told_parts [] = []
told_parts (pair ∷ pairs) = Keyword (option_text pair.0) ∷ Word pair.1 ∷ told_parts pairs

-- what stands behind the name
abbrev pub node_parts : NodeAsk → List Part
node_parts (node.Psync id wanted) = Word id ∷ Number wanted ∷ []
node_parts (node.ReplConf told) = told_parts told
node_parts (node.Ack offset) = Keyword ack ∷ Number offset ∷ []
node_parts (node.ReplicaOf host port) = Word host ∷ Number (pos port) ∷ []
node_parts node.NoOne = Keyword no ∷ Keyword one ∷ []
node_parts node.Multi = []
node_parts node.Exec = []
node_parts node.Discard = []

-- the names of what says whom the node follows
abbrev pub IsFollowing : Name → Type 0
IsFollowing called = (called ≡ name.ReplicaOf) ⊎ (called ≡ name.SlaveOf)

-- the names that a command may be called by
abbrev pub IsCalled : NodeAsk → Name → Type 0
IsCalled (node.Psync id wanted) called = called ≡ name.Psync
IsCalled (node.ReplConf told) called = called ≡ name.ReplConf
IsCalled (node.Ack offset) called = called ≡ name.ReplConf
IsCalled (node.ReplicaOf host port) called = IsFollowing called
IsCalled node.NoOne called = IsFollowing called
IsCalled node.Multi called = called ≡ name.Multi
IsCalled node.Exec called = called ≡ name.Exec
IsCalled node.Discard called = called ≡ name.Discard

-- These words, behind this name, spell the command.
abbrev pub NodeSpells : Name → List (List ℕ) → NodeAsk → Type 0
NodeSpells called words command = IsCalled command called × AreParts words (node_parts command)
