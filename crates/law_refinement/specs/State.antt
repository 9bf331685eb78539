-- What a World is: its nodes, the links between them and to clients, and what it knows of each id.
use Rattle.std.specs.Prelude.{ℕ, List, Bool}
use Rattle.mr_links.specs.declared.link_id.LinkId.{LinkId}
use Rattle.mr_node_spec.specs.State.{NodeState}
use Rattle.law_refinement.specs.Way.{WayState}

-- who asked for a link
pub data Caller : Type 0 where
  a_client : Bool → Caller  -- a client, whose end is open or not
  a_node : ℕ → LinkId → Caller  -- a node, and its name for the link

pub record Link : Type 0 where
  pub caller : Caller
  pub waits : Bool  -- no node has accepted it yet, so that `to` and `name` say nothing
  pub to : ℕ  -- the node that serves
  pub name : LinkId  -- by which that node knows it
  pub serving : Bool  -- that node's end is open
  pub streams : Bool  -- PSYNC was answered
  pub ask : WayState
  pub tell : WayState

-- a node, its append-only file, the role in which it starts, and the link that it dialled last
pub record Slot : Type 0 where
  pub node : NodeState
  pub file : List ℕ
  pub as_master : Bool
  pub dialled : ℕ

-- an id that was drawn, the commands that make the dataset it began with, and the texts of its stream since
pub record BookEntry : Type 0 where
  pub id : List ℕ
  pub start : List ℕ
  pub texts : List ℕ

pub record WorldState : Type 0 where
  pub slots : List Slot
  pub links : List Link
  pub book : List BookEntry
