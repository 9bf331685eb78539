-- What the types of a node's parts keep.
use Rattle.std.specs.Prelude.{◌<◌, ◌^◌, ℕ, IfSome}
use Rattle.mr_repl.specs.Backlog.{IsWindow}
use Rattle.mr_repl.specs.ReplId.{IsId}
use Rattle.mr_follower.specs.State.{FollowState, IsFollower}
use Rattle.mr_replication.specs.State.{IsReader}
use Rattle.mr_node_spec.specs.State.{NodeState, IsNode}

-- no port is as much
abbrev pub ports : ℕ
ports = 2 ^ 16

-- what reads at the link to the master fits in with the node
pub record IsReading (a : NodeState) (f : FollowState) : Type 0 where
  pub reader : IsReader a.core.master a.core.offers a.core.lineage f
  pub follower : IsFollower f
  pub port : f.port < ports

-- A node's ids are ids, and its stream and its ports have their bounds.
pub record IsSound (a : NodeState) : Type 0 where
  pub node : IsNode a
  pub window : IsWindow a.core.lineage.stream
  pub id : IsId a.core.lineage.id
  pub second : IfSome a.core.lineage.second (λ s. IsId s.0)
  pub upstream : IfSome a.core.upstream (λ h. h.port < ports)
  pub reading : IfSome a.follow (λ f. IsReading a f.1)
