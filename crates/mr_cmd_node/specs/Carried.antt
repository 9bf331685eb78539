-- The words that a command to the node carries.
use Rattle.std.specs.Prelude.{ℕ, List, [], ◌∷◌}
use Rattle.mr_cmd_node.specs.declared.node_ask.ReplicaOption.{ReplicaOption}
use Rattle.mr_cmd_node.specs.declared.node_ask.NodeAsk.{NodeAsk}
use Rattle.mr_cmd_node.specs.declared.node_ask.NodeAsk.TheVariants as node

-- the values of what is told
abbrev pub values : List (ReplicaOption × List ℕ) → List (List ℕ)
values [] = []
values (pair ∷ pairs) = pair.1 ∷ values pairs

abbrev pub node_words : NodeAsk → List (List ℕ)
node_words (node.Psync id wanted) = id ∷ []
node_words (node.ReplConf told) = values told
node_words (node.Ack offset) = []
node_words (node.ReplicaOf host port) = host ∷ []
node_words node.NoOne = []
node_words node.Multi = []
node_words node.Exec = []
node_words node.Discard = []
