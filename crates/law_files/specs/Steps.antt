-- What is promised of the calls on a node, by their rows.
use Rattle.std.specs.Prelude.{◌≡◌, ℕ, ℤ, List, [], ◌++◌, length, Bool}
use Rattle.mr_links.specs.declared.link_id.LinkId.{LinkId}
use Rattle.mr_keyspace.specs.Dataset.{Dataset}
use Rattle.mr_data.specs.declared.given.Given.{Given}
use Rattle.mr_effect.specs.declared.effect.Effect.{Effect}
use Rattle.mr_resp.specs.Replies.{Tree}
use Rattle.mr_commands.specs.Requests.{HasPlan}
use Rattle.mr_commands.specs.Transactions.{DoesAll}
use Rattle.mr_replication.specs.declared.upstream.UpstreamStep.{UpstreamStep}
use Rattle.mr_node_links.specs.State.{Transaction}
use Rattle.mr_groups.specs.Folding.{MakesByGroups, LoadsGroups}
use Rattle.mr_node_output.specs.Outs.{OutsState, no_outs}
use Rattle.mr_node_spec.specs.State.{Core, NodeState, MasterAgrees}
use Rattle.mr_node_spec.specs.ClientRows.{ClientRow, Idles}
use Rattle.mr_node_spec.specs.Transactions.{WithinRow, frame_of}
use Rattle.mr_node_spec.specs.ReplicaRows.{ReplicaRow}
use Rattle.mr_node_spec.specs.UpstreamRows as master
use Rattle.mr_node_spec.specs.TimeRows.{TickRow}
use Rattle.mr_node_spec.specs.LinkRows.{Opens, Dials, Feeds, closed_at}
use Rattle.law_refinement.specs.Carrying.{filed}
use Rattle.law_files.specs.Filing.{but_beats, Grows, Files, Keeps}

-- ---- what a file says of its node
-- Where it makes the node's dataset, it makes that of the node behind the call.
abbrev pub FilesFollow : Type 0
FilesFollow = (a b : NodeState) (outs : OutsState) (file : List ℕ) → Files a b outs → MakesByGroups file a.core.held → MakesByGroups (filed outs file) b.core.held

-- Such a file is read whole, and as that dataset.
abbrev pub FilesAreReadWhole : Type 0
FilesAreReadWhole = (file : List ℕ) (m : Dataset) → MakesByGroups file m → LoadsGroups file (length file) m

-- Calls one after another grow it by the texts of the groups that they apply, one after another.
abbrev pub FilesGrowOn : Type 0
FilesGrowOn = (c d e : Core) (earlier later : List ℕ) → Grows c d earlier → Grows d e later → Grows c e (earlier ++ later)

-- A call that keeps the file leaves it as it is.
abbrev pub KeptFilesStay : Type 0
KeptFilesStay = (a b : NodeState) (outs : OutsState) (file : List ℕ) → Keeps a b outs → Files a b outs × (filed outs file ≡ file)

-- ---- at an end that the node serves
-- No request has a heartbeat among its effects, so the texts of all of them are filed.
abbrev pub RequestsHaveNoBeats : Type 0
RequestsHaveNoBeats = (replica : Bool) (m : Dataset) (words : List (List ℕ)) (given : Given) (reply : Tree) (effects : List Effect) → HasPlan replica m words given reply effects → but_beats effects ≡ effects

-- .. and what waited in a transaction has none
abbrev pub WaitedHaveNoBeats : Type 0
WaitedHaveNoBeats = (a : NodeState) (replica : Bool) (given : Given) (queued : List (List ℕ)) (m held : Dataset) (replies : List Tree) (effects : List Effect)
    → DoesAll (frame_of a) replica given queued [] m replies effects held → but_beats effects ≡ effects

abbrev pub ClientStepsFile : Type 0
ClientStepsFile = (a b : NodeState) (l : LinkId) (u : List ℕ) (given : Given) (fresh : List ℕ) (outs : OutsState) → ClientRow a l u given fresh b outs → Files a b outs

-- .. where a transaction is open too
abbrev pub WithinStepsFile : Type 0
WithinStepsFile = (a b : NodeState) (l : LinkId) (t : Transaction) (u : List ℕ) (given : Given) (outs : OutsState) → WithinRow a l t u given b outs → Files a b outs

abbrev pub ReplicaStepsKeep : Type 0
ReplicaStepsKeep = (a b : NodeState) (l : LinkId) (u : List ℕ) (outs : OutsState) → ReplicaRow a l u b outs → Keeps a b outs

abbrev pub IdleStepsKeep : Type 0
IdleStepsKeep = (a b : NodeState) (u : List ℕ) → Idles a u b → Keeps a b no_outs

-- ---- at the link to the master, with which some unread bytes agree
abbrev pub MasterStepsFile : Type 0
MasterStepsFile = (a b : NodeState) (l : LinkId) (u : List ℕ) (step : UpstreamStep) (outs : OutsState) → MasterAgrees a l u → master.Hears a l step b outs → Files a b outs

abbrev pub MasterWaitsKeep : Type 0
MasterWaitsKeep = (a b : NodeState) (l : LinkId) (u : List ℕ) → MasterAgrees a l u → master.Waits a l b → Keeps a b no_outs

abbrev pub MasterLacksKeep : Type 0
MasterLacksKeep = (a b : NodeState) (l : LinkId) (u : List ℕ) → MasterAgrees a l u → master.Lacks a l b → Keeps a b no_outs

-- ---- as time passes
abbrev pub TicksFile : Type 0
TicksFile = (a b : NodeState) (now : ℤ) (outs : OutsState) → TickRow a now b outs → Files a b outs

-- ---- as links come, are fed and go
abbrev pub OpensKeep : Type 0
OpensKeep = (a b : NodeState) (l : LinkId) → Opens a l b → Keeps a b no_outs

abbrev pub DialsKeep : Type 0
DialsKeep = (a b : NodeState) (l : LinkId) (outs : OutsState) → Dials a l b outs → Keeps a b outs

abbrev pub FeedsKeep : Type 0
FeedsKeep = (a b : NodeState) (l : LinkId) (bytes : List ℕ) → Feeds a l bytes b → Keeps a b no_outs

abbrev pub BreaksKeep : Type 0
BreaksKeep = (a : NodeState) (l : LinkId) → Keeps a (closed_at l a) no_outs
