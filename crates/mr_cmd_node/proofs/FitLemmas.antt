-- The words that a command to the node carries are those among its arguments.
use Rattle.std.proofs.Common.{ℕ, ◌≡◌, List, [], ◌∷◌, refl, ap}
use Rattle.std.specs.Prelude.{IsTrue}
use Rattle.std.specs.List.{list_all}
use Rattle.mr_bytes.specs.Words.{fits}
use Rattle.mr_arguments.proofs.FitLemmas.{carried, of_parts_fit}
use Rattle.mr_arguments.specs.declared.name.Name.{Name}
use Rattle.mr_cmd_node.specs.Carried.{node_words, values}
use Rattle.mr_cmd_node.specs.Spelled.{node_parts, NodeSpells, told_parts}
use Rattle.mr_cmd_node.specs.declared.node_ask.ReplicaOption.{ReplicaOption}
use Rattle.mr_cmd_node.specs.declared.node_ask.NodeAsk.{NodeAsk}
use Rattle.mr_cmd_node.specs.declared.node_ask.NodeAsk.TheVariants as node

carried_told : (ts : List (ReplicaOption × List ℕ)) → carried (told_parts ts) ≡ values ts
unfolding carried
carried_told [] = refl
carried_told (t ∷ ts) = ap (λ (xs : List (List ℕ)). t.1 ∷ xs) (carried_told ts)

carried_node : (a : NodeAsk) → carried (node_parts a) ≡ node_words a
unfolding carried
carried_node (node.Psync id wanted) = refl
carried_node (node.ReplConf told) = carried_told told
carried_node (node.Ack offset) = refl
carried_node (node.ReplicaOf host port) = refl
carried_node node.NoOne = refl
carried_node node.Multi = refl
carried_node node.Exec = refl
carried_node node.Discard = refl

pub node_fits : (n : Name) (ws : List (List ℕ)) (a : NodeAsk) → NodeSpells n ws a → IsTrue (list_all fits ws) → IsTrue (list_all fits (node_words a))
node_fits n ws a s h = of_parts_fit ws (node_parts a) (node_words a) (carried_node a) s.1 h
