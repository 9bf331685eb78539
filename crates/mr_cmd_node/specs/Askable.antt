-- Which commands to the node words can ask for.
use Rattle.std.specs.Prelude.{◌≢◌, ◌≤◌, []}
use Rattle.mr_arguments.specs.Askable.{IsI64}
use Rattle.mr_cmd_node.specs.declared.node_ask.NodeAsk.{NodeAsk}
use Rattle.mr_cmd_node.specs.declared.node_ask.NodeAsk.TheVariants as node

abbrev pub NodeIsAskable : NodeAsk → Type 0
NodeIsAskable (node.Psync id wanted) = IsI64 wanted
NodeIsAskable (node.ReplConf told) = told ≢ []
NodeIsAskable (node.Ack offset) = IsI64 offset
NodeIsAskable (node.ReplicaOf host port) = (1 ≤ port) × (port ≤ 65535)
NodeIsAskable node.NoOne = Unit {0}
NodeIsAskable node.Multi = Unit {0}
NodeIsAskable node.Exec = Unit {0}
NodeIsAskable node.Discard = Unit {0}
