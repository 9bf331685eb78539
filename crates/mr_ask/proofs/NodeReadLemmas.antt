-- Words that spell a command to the node are read as it.
use Rattle.std.proofs.Common.{ℕ, ◌≡◌, List, [], inl, inr, ◌∙◌, ap}
use Rattle.std.specs.Prelude.{Ok}
use Rattle.mr_arguments.proofs.ReadLemmas.{words_are}
use Rattle.mr_arguments.specs.declared.name.Name.{Name}
use Rattle.mr_arguments.specs.declared.name.Name.TheVariants as name
use Rattle.mr_cmd_node.specs.Askable.{NodeIsAskable}
use Rattle.mr_cmd_node.specs.Spelled.{IsFollowing, NodeSpells}
use Rattle.mr_cmd_node.specs.declared.node_ask.NodeAsk.{NodeAsk}
use Rattle.mr_cmd_node.specs.declared.node_ask.NodeAsk.TheVariants as node
use Rattle.mr_cmd_node.proofs.ReadLemmas.{ack_read, following_read, no_one_read, psync_read, told_read}
use Rattle.mr_ask.specs.Asks.{of_kind, reading}
use Rattle.mr_ask.specs.declared.ask.Ask.TheVariants as ask

pub node_read : (n : Name) (ws : List (List ℕ)) (a : NodeAsk) → NodeIsAskable a → NodeSpells n ws a → reading n ws ≡ Ok (ask.Node a)
node_read n ws (node.Psync id wanted) h s = ap (λ x. reading x ws) s.0 ∙ ap (of_kind ask.Node) (psync_read id wanted ws h s.1)
node_read n ws (node.ReplConf told) h s = ap (λ x. reading x ws) s.0 ∙ ap (of_kind ask.Node) (told_read told ws h s.1)
node_read n ws (node.Ack offset) h s = ap (λ x. reading x ws) s.0 ∙ ap (of_kind ask.Node) (ack_read offset ws h s.1)
node_read n ws (node.ReplicaOf host port) h s = follows s.0
  where
    follows : IsFollowing n → reading n ws ≡ Ok (ask.Node (node.ReplicaOf host port))
    follows (inl e) = ap (λ x. reading x ws) e ∙ ap (of_kind ask.Node) (following_read name.ReplicaOf host port ws h s.1)
    follows (inr e) = ap (λ x. reading x ws) e ∙ ap (of_kind ask.Node) (following_read name.SlaveOf host port ws h s.1)
node_read n ws node.NoOne h s = turns s.0
  where
    turns : IsFollowing n → reading n ws ≡ Ok (ask.Node node.NoOne)
    turns (inl e) = ap (λ x. reading x ws) e ∙ ap (of_kind ask.Node) (no_one_read name.ReplicaOf ws s.1)
    turns (inr e) = ap (λ x. reading x ws) e ∙ ap (of_kind ask.Node) (no_one_read name.SlaveOf ws s.1)
node_read n ws node.Multi h s = ap (λ x. reading x ws) s.0 ∙ ap (reading name.Multi) (words_are ws [] s.1)
node_read n ws node.Exec h s = ap (λ x. reading x ws) s.0 ∙ ap (reading name.Exec) (words_are ws [] s.1)
node_read n ws node.Discard h s = ap (λ x. reading x ws) s.0 ∙ ap (reading name.Discard) (words_are ws [] s.1)
