-- Whether each replica has what its master has.
use Rattle.std.specs.Prelude.{◌≡◌, ◌⊎◌, ℕ, Some}
use Rattle.mr_trio_script.specs.Naming.{host}
use Rattle.mr_node.specs.Parts.{role_of}
use Rattle.mr_node.specs.declared.role.Role.TheVariants as role
use Rattle.mr_node_spec.specs.State.{NodeState, shown}

-- a node, and the port that it listens on
pub record Listening : Type 0 where
  pub node : NodeState
  pub port : ℕ

-- The replica was told to follow this node, and shows what it shows.
pub record IsAt (a : NodeState) (master : Listening) : Type 0 where
  pub upstream : a.core.upstream ≡ Some (record { host = host; port = master.port })
  pub same : shown a.core ≡ shown master.node.core

-- all three
pub record Trio : Type 0 where
  pub first : Listening
  pub second : Listening
  pub third : Listening

-- The node is a master; or it is in its master's stream, and has what one of the three has, which it follows.
pub data IsLevel (t : Trio) (a : NodeState) : Type 0 where
  leads : role_of a ≡ role.Master → IsLevel t a
  follows : role_of a ≡ role.Connected → IsAt a t.first ⊎ (IsAt a t.second ⊎ IsAt a t.third) → IsLevel t a

pub record AllLevel (t : Trio) : Type 0 where
  pub first : IsLevel t t.first.node
  pub second : IsLevel t t.second.node
  pub third : IsLevel t t.third.node
