-- What a step at a replica's end of a link may do, one row for each: of a link that was answered CONTINUE or FULLRESYNC.
use Rattle.std.specs.Prelude.{◌≡◌, ℕ, ℤ, List, true, Some}
use Rattle.mr_links.specs.declared.link_id.LinkId.{LinkId}
use Rattle.mr_resp.specs.declared.fault.Fault.{Fault}
use Rattle.mr_cmd_node.specs.declared.node_ask.NodeAsk.TheVariants as node
use Rattle.mr_node_links.specs.State.EndState.{replica}
use Rattle.mr_node_output.specs.Outs.{OutsState, no_outs}
use Rattle.mr_node_spec.specs.State.{NodeState, IsShut, OthersStay}
use Rattle.mr_node_spec.specs.Requests.{Asks, AsksNothing, IsDoomedBy}
use Rattle.mr_node_spec.specs.Ends.{Leaves}
use Rattle.mr_commands.specs.Requests.{AsksNode}

-- an acknowledgement stands at the front, or an empty request
pub data IsExpected (u rest : List ℕ) : Type 0 where
  acknowledgement : (words : List (List ℕ)) (offset : ℤ) → Asks u words rest → AsksNode words (node.Ack offset) → IsExpected u rest
  nothing : AsksNothing u rest → IsExpected u rest

-- .. or what a replica has no business to send
pub data IsUnwanted (u : List ℕ) : Type 0 where
  doomed : (fault : Fault) → IsDoomedBy u fault → IsUnwanted u
  other : (words : List (List ℕ)) (rest : List ℕ) → Asks u words rest → ((offset : ℤ) → AsksNode words (node.Ack offset) → ⊥) → IsUnwanted u

-- What is expected is used, and nothing is said.
pub record Notes (a : NodeState) (l : LinkId) (u : List ℕ) (b : NodeState) (outs : OutsState) : Type 0 where
  pub up : a.core.up ≡ true
  pub rest : List ℕ
  pub expected : IsExpected u rest
  pub core : b.core ≡ a.core
  pub leaves : Leaves a l b (replica rest)
  pub outs_are : outs ≡ record no_outs { link = Some l }

-- Anything else closes the link, and nothing is said.
pub record Parts (a : NodeState) (l : LinkId) (u : List ℕ) (b : NodeState) (outs : OutsState) : Type 0 where
  pub up : a.core.up ≡ true
  pub unwanted : IsUnwanted u
  pub core : b.core ≡ a.core
  pub follow : b.follow ≡ a.follow
  pub shut : IsShut b l
  pub others : OthersStay a b l
  pub outs_are : outs ≡ record no_outs { link = Some l; closes = true }

-- a step that used something, or closed the link
pub data ReplicaRow (a : NodeState) (l : LinkId) (u : List ℕ) (b : NodeState) (outs : OutsState) : Type 0 where
  notes : Notes a l u b outs → ReplicaRow a l u b outs
  parts : Parts a l u b outs → ReplicaRow a l u b outs
