-- What a step came to, by its row for the kind of the end that it was made at.
use Rattle.std.specs.Prelude.{◌≡◌, ◌≢◌, ℕ, List, true, false, Some, None, Result, Ok, Err}
use Rattle.mr_links.specs.declared.link_id.LinkId.{LinkId}
use Rattle.mr_keyspace.specs.Dataset.{Dataset}
use Rattle.mr_data.specs.declared.given.Given.{Given}
use Rattle.mr_node_output.specs.Outs.{OutsState}
use Rattle.mr_node_links.specs.State.{Transaction}
use Rattle.mr_replication.specs.State.{name_of}
use Rattle.mr_replication.specs.declared.upstream.UpstreamStep.{UpstreamStep}
use Rattle.mr_replication.specs.declared.upstream.UpstreamStep.TheVariants as outcome
use Rattle.mr_node_spec.specs.State.{NodeState, Agrees, ReplicaAgrees, IsShut, end_of, spent_as}
use Rattle.mr_node_spec.specs.ClientRows.{ClientRow, Idles, MayLack, Stops}
use Rattle.mr_node_spec.specs.ReplicaRows.{ReplicaRow}
use Rattle.mr_node_spec.specs.UpstreamRows as master
use Rattle.mr_node.specs.Noting.{BeginsWithWords}
use Rattle.mr_node.specs.Within.{IsAtOpen, WithinStep}
use Rattle.mr_node.specs.declared.fault.NodeFault.{NodeFault}
use Rattle.mr_node.specs.declared.fault.NodeFault.TheVariants as fault
use Rattle.mr_node.specs.declared.step.Outcome.{Outcome}
use Rattle.mr_node.specs.declared.step.Outcome.TheVariants as came
use Rattle.mr_node.specs.declared.step.Step.{Step}
use Rattle.mr_node.specs.declared.step.Step.TheVariants as step

-- what a step came to, with the outs that were lent to it
abbrev pub step_of : OutsState → Result Outcome NodeFault → Result Step NodeFault
step_of outs (Ok came.Idle) = Ok step.Idle
step_of outs (Ok came.Done) = Ok (step.Done outs)
step_of outs (Ok came.Closed) = Ok step.Closed
step_of outs (Err e) = Err e

-- The node runs, and the link is a client's with these unread bytes.
pub record IsAt (a : NodeState) (l : LinkId) (u : List ℕ) : Type 0 where
  pub up : a.core.up ≡ true
  pub agrees : Agrees a l u

-- .. a replica's
pub record IsAtReplica (a : NodeState) (l : LinkId) (u : List ℕ) : Type 0 where
  pub up : a.core.up ≡ true
  pub agrees : ReplicaAgrees a l u

-- Memory ran out within effects of the first request: the node is stopped, with its dataset spent.
pub record StopsAt (a : NodeState) (u : List ℕ) (given : Given) (b : NodeState) : Type 0 where
  pub cause : Stops a u given
  pub held : Dataset
  pub spent : b ≡ spent_as held a

-- at a client's end
abbrev pub ClientStep : NodeState → LinkId → List ℕ → Given → List ℕ → NodeState → Result Step NodeFault → Type 0
ClientStep a l u given fresh b (Ok step.Idle) = Idles a u b
ClientStep a l u given fresh b (Ok (step.Done outs)) = ClientRow a l u given fresh b outs
ClientStep a l u given fresh b (Ok step.Closed) = ⊥
ClientStep a l u given fresh b (Err fault.Memory) = MayLack u × (b ≡ a)
ClientStep a l u given fresh b (Err fault.Stopped) = StopsAt a u given b
ClientStep a l u given fresh b (Err fault.NoLink) = ⊥
ClientStep a l u given fresh b (Err fault.InputFull) = ⊥

-- at a replica's end
abbrev pub ReplicaStep : NodeState → LinkId → List ℕ → NodeState → Result Step NodeFault → Type 0
ReplicaStep a l u b (Ok step.Idle) = Idles a u b
ReplicaStep a l u b (Ok (step.Done outs)) = ReplicaRow a l u b outs
ReplicaStep a l u b (Ok step.Closed) = ⊥
ReplicaStep a l u b (Err fault.Memory) = BeginsWithWords u × (b ≡ a)
ReplicaStep a l u b (Err fault.Stopped) = ⊥
ReplicaStep a l u b (Err fault.NoLink) = ⊥
ReplicaStep a l u b (Err fault.InputFull) = ⊥

-- at the link to the master
abbrev pub MasterStep : NodeState → LinkId → NodeState → Result Step NodeFault → Type 0
MasterStep a l b (Ok step.Idle) = master.Waits a l b
MasterStep a l b (Ok (step.Done outs)) = (came : UpstreamStep) × (came ≢ outcome.Idle) × master.Hears a l came b outs
MasterStep a l b (Ok step.Closed) = ⊥
MasterStep a l b (Err fault.Memory) = master.Lacks a l b
MasterStep a l b (Err fault.Stopped) = master.Spends a l b
MasterStep a l b (Err fault.NoLink) = ⊥
MasterStep a l b (Err fault.InputFull) = ⊥

-- A step on a link. One of these says what it came to, whatever the node is and whatever the link.
pub record Steps (a : NodeState) (l : LinkId) (given : Given) (fresh : List ℕ) (b : NodeState) (result : Result Step NodeFault) : Type 0 where
  pub at_client : (u : List ℕ) → IsAt a l u → ClientStep a l u given fresh b result
  pub at_waiting : (t : Transaction) (u : List ℕ) → IsAtOpen a l t u → WithinStep a l t u given b result
  pub at_replica : (u : List ℕ) → IsAtReplica a l u → ReplicaStep a l u b result
  pub at_master : a.core.up ≡ true → name_of a.follow ≡ Some l → MasterStep a l b result
  pub at_shut : a.core.up ≡ true → IsShut a l → (result ≡ Ok step.Closed) × (b ≡ a)
  pub absent : a.core.up ≡ true → end_of a l ≡ None → (result ≡ Err fault.NoLink) × (b ≡ a)
  pub down : a.core.up ≡ false → (result ≡ Err fault.Stopped) × (b ≡ a)
