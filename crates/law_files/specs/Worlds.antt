-- What is promised of the files of a World's nodes.
use Rattle.std.specs.Prelude.{◌≡◌, ◌≤◌, ℕ, ℤ, List, [], ◌∷◌, ◌++◌, Bool, true, false, Some, length, take, slice_get, slice_set}
use Rattle.std.specs.FinMap.{empty}
use Rattle.mr_links.specs.declared.link_id.LinkId.{LinkId}
use Rattle.mr_keyspace.specs.Dataset.{Dataset}
use Rattle.mr_data.specs.declared.given.Given.{Given}
use Rattle.mr_replication.specs.declared.upstream.UpstreamStep.{UpstreamStep}
use Rattle.mr_node_links.specs.State.{Transaction}
use Rattle.mr_groups.specs.Effects.{Makes}
use Rattle.mr_groups.specs.Folding.{MakesByGroups, LoadsGroups}
use Rattle.mr_node_output.specs.Outs.{OutsState, no_outs}
use Rattle.mr_node_spec.specs.State.{NodeState, started}
use Rattle.mr_node_spec.specs.Growing.{rebuilt}
use Rattle.mr_node_spec.specs.ClientRows.{ClientRow, Idles}
use Rattle.mr_node_spec.specs.Transactions.{WithinRow}
use Rattle.mr_node_spec.specs.ReplicaRows.{ReplicaRow}
use Rattle.mr_node_spec.specs.UpstreamRows as master
use Rattle.mr_node_spec.specs.TimeRows.{TickRow}
use Rattle.mr_node_spec.specs.LinkRows.{Opens, Dials, Feeds, closed_at}
use Rattle.law_refinement.specs.State.{Link, Slot, WorldState}
use Rattle.law_refinement.specs.Worlds.{IsWorld, no_world}
use Rattle.law_refinement.specs.Events.{IsFollowed}
use Rattle.law_refinement.specs.Carrying.{stepped, followed, ticked, put_node, opened, connected, fed_server, fed_caller, broken, begun_slot, started_with, restarted_with, connecting, accepting}
use Rattle.law_files.specs.Filing.{Grows}

-- The file of each node that isn't stopped makes the node's dataset.
abbrev pub FilesFold : WorldState → Type 0
FilesFold w = (n : ℕ) (s : Slot) → slice_get w.slots n ≡ Some s → s.node.core.up ≡ true → MakesByGroups s.file s.node.core.held

-- So it is read whole, and as that dataset.
abbrev pub FilesLoad : Type 0
FilesLoad = (w : WorldState) (n : ℕ) (s : Slot) → FilesFold w → slice_get w.slots n ≡ Some s → s.node.core.up ≡ true → LoadsGroups s.file (length s.file) s.node.core.held

-- There are no nodes yet.
abbrev pub NothingHasFiles : Type 0
NothingHasFiles = FilesFold no_world

-- ---- from one World to the next
-- The file of a node grew by the texts of the groups that were applied, but for heartbeats.
pub record HasGrown (s t : Slot) : Type 0 where
  pub bytes : List ℕ
  pub file : t.file ≡ s.file ++ bytes
  pub grows : Grows s.node.core t.node.core bytes

-- It begins anew: it was written again out of the dataset, or the node starts with what it makes.
pub data FileBegins (t : Slot) : Type 0 where
  rewritten : t.file ≡ rebuilt t.node.core.held → Makes t.file t.node.core.held → FileBegins t
  starts : (as_replica : Bool) (port backlog : ℕ) (id : List ℕ) (m : Dataset) → t.node ≡ started as_replica port backlog id m → MakesByGroups t.file m → FileBegins t

-- The node n has this slot now: its file grew, or begins anew.
pub data FileGoesOn (slots : List Slot) (n : ℕ) (t : Slot) : Type 0 where
  grows : (s : Slot) → slice_get slots n ≡ Some s → s.node.core.up ≡ true → HasGrown s t → FileGoesOn slots n t
  begins : FileBegins t → FileGoesOn slots n t

-- .. that of each node that isn't stopped
abbrev pub FilesGoOn : WorldState → WorldState → Type 0
FilesGoOn w v = (n : ℕ) (t : Slot) → slice_get v.slots n ≡ Some t → t.node.core.up ≡ true → FileGoesOn w.slots n t

-- Then each makes its node's dataset in the second World, where each does in the first.
abbrev pub FilesStayFolded : Type 0
FilesStayFolded = (w v : WorldState) → FilesFold w → FilesGoOn w v → FilesFold v

-- ---- over Worlds one after another
abbrev pub GoOn : WorldState → List WorldState → Type 0
GoOn w [] = Unit {0}
GoOn w (v ∷ vs) = FilesGoOn w v × GoOn v vs

-- The node n had a slot at this moment, or one before it, whose file began anew; and since then it has grown.
pub record GrownSince (moments : List WorldState) (n number : ℕ) (t : Slot) : Type 0 where
  pub since : ℕ
  pub before : since ≤ number
  pub world : WorldState
  pub moment : slice_get (no_world ∷ moments) since ≡ Some world
  pub slot : Slot
  pub there : slice_get world.slots n ≡ Some slot
  pub begins : FileBegins slot
  pub grown : HasGrown slot t

-- At each moment the file of a node that isn't stopped makes the node's dataset. It is what it was when it was last written anew or the node
-- started, and behind that the texts of the groups that were applied since, but for heartbeats.
abbrev pub FilesAreTrue : Type 0
FilesAreTrue = (moments : List WorldState) (number : ℕ) (v : WorldState) → GoOn no_world moments → slice_get (no_world ∷ moments) number ≡ Some v
    → (n : ℕ) (t : Slot) → slice_get v.slots n ≡ Some t → t.node.core.up ≡ true → MakesByGroups t.file t.node.core.held × GrownSince moments n number t

-- ---- files go on behind a step at an end that the node n serves: at a client's end, where a transaction is open or none, at a replica's, and
-- where nothing whole is there
abbrev pub ClientStepsGoOn : Type 0
ClientStepsGoOn = (w : WorldState) (n l : ℕ) (k : Link) (s : Slot) (name : LinkId) (u : List ℕ) (given : Given) (fresh : List ℕ) (b : NodeState) (outs : OutsState)
    → slice_get w.slots n ≡ Some s → s.node.core.up ≡ true
    → ClientRow s.node name u given fresh b outs
    → FilesGoOn w (stepped w n s l k b outs)

abbrev pub WithinStepsGoOn : Type 0
WithinStepsGoOn = (w : WorldState) (n l : ℕ) (k : Link) (s : Slot) (name : LinkId) (t : Transaction) (u : List ℕ) (given : Given) (b : NodeState) (outs : OutsState)
    → slice_get w.slots n ≡ Some s → s.node.core.up ≡ true
    → WithinRow s.node name t u given b outs
    → FilesGoOn w (stepped w n s l k b outs)

abbrev pub ReplicaStepsGoOn : Type 0
ReplicaStepsGoOn = (w : WorldState) (n l : ℕ) (k : Link) (s : Slot) (name : LinkId) (u : List ℕ) (b : NodeState) (outs : OutsState)
    → slice_get w.slots n ≡ Some s → s.node.core.up ≡ true
    → ReplicaRow s.node name u b outs
    → FilesGoOn w (stepped w n s l k b outs)

abbrev pub IdleStepsGoOn : Type 0
IdleStepsGoOn = (w : WorldState) (n : ℕ) (s : Slot) (u : List ℕ) (b : NodeState)
    → slice_get w.slots n ≡ Some s → s.node.core.up ≡ true
    → Idles s.node u b
    → FilesGoOn w (put_node w n s b)

-- .. and where a node stops
abbrev pub StopsGoOn : Type 0
StopsGoOn = (w : WorldState) (n : ℕ) (s : Slot) (b : NodeState) → b.core.up ≡ false → FilesGoOn w (put_node w n s b)

-- ---- behind a step at the link to the master: what that came to, nothing whole was there, or memory was lacking
abbrev pub MasterStepsGoOn : Type 0
MasterStepsGoOn = (w : WorldState) (n : ℕ) (s : Slot) (k : Link) (name : LinkId) (step : UpstreamStep) (b : NodeState) (outs : OutsState)
    → IsWorld w → IsFollowed w n s k
    → master.Hears s.node name step b outs
    → FilesGoOn w (followed w n s k b outs)

abbrev pub MasterWaitsGoOn : Type 0
MasterWaitsGoOn = (w : WorldState) (n : ℕ) (s : Slot) (k : Link) (name : LinkId) (b : NodeState)
    → IsWorld w → IsFollowed w n s k
    → master.Waits s.node name b
    → FilesGoOn w (followed w n s k b no_outs)

abbrev pub MasterLacksGoOn : Type 0
MasterLacksGoOn = (w : WorldState) (n : ℕ) (s : Slot) (k : Link) (name : LinkId) (b : NodeState)
    → IsWorld w → IsFollowed w n s k
    → master.Lacks s.node name b
    → FilesGoOn w (followed w n s k b no_outs)

-- ---- behind a tick
abbrev pub TicksGoOn : Type 0
TicksGoOn = (w : WorldState) (n : ℕ) (s : Slot) (now : ℤ) (b : NodeState) (outs : OutsState)
    → slice_get w.slots n ≡ Some s → s.node.core.up ≡ true
    → TickRow s.node now b outs
    → FilesGoOn w (ticked w n s b outs)

-- ---- as links come, are fed and go
abbrev pub OpensGoOn : Type 0
OpensGoOn = (w : WorldState) (n : ℕ) (s : Slot) (name : LinkId) (b : NodeState)
    → slice_get w.slots n ≡ Some s → s.node.core.up ≡ true
    → Opens s.node name b
    → FilesGoOn w (opened w n s b name)

abbrev pub DialsGoOn : Type 0
DialsGoOn = (w : WorldState) (n m : ℕ) (s t : Slot) (name at : LinkId) (b c : NodeState) (outs : OutsState)
    → slice_get w.slots m ≡ Some t → t.node.core.up ≡ true → Opens t.node at c
    → slice_get (slice_set w.slots m (record t { node = c })) n ≡ Some s → s.node.core.up ≡ true
    → Dials s.node name b outs
    → FilesGoOn w (connected w n s b name outs m t c at)

-- .. where a replica opens its end of a link, and a node accepts it later
abbrev pub ConnectsGoOn : Type 0
ConnectsGoOn = (w : WorldState) (n : ℕ) (s : Slot) (name : LinkId) (b : NodeState) (outs : OutsState)
    → slice_get w.slots n ≡ Some s → s.node.core.up ≡ true
    → Dials s.node name b outs
    → FilesGoOn w (connecting w n s b name outs.reply)

abbrev pub AcceptsGoOn : Type 0
AcceptsGoOn = (w : WorldState) (l m : ℕ) (k : Link) (t : Slot) (at : LinkId) (c : NodeState)
    → slice_get w.slots m ≡ Some t → t.node.core.up ≡ true
    → Opens t.node at c
    → FilesGoOn w (accepting w m t c at l k)

abbrev pub FeedsGoOn : Type 0
FeedsGoOn = (w : WorldState) (n l : ℕ) (k : Link) (s : Slot) (name : LinkId) (count : ℕ) (bytes : List ℕ) (b : NodeState)
    → slice_get w.slots n ≡ Some s → s.node.core.up ≡ true
    → Feeds s.node name bytes b
    → FilesGoOn w (fed_server w n s b l k count) × FilesGoOn w (fed_caller w n s b l k count)

abbrev pub BreaksGoOn : Type 0
BreaksGoOn = (w : WorldState) (n l : ℕ) (k : Link) (s : Slot) (name : LinkId)
    → slice_get w.slots n ≡ Some s → s.node.core.up ≡ true
    → FilesGoOn w (broken w n s (closed_at name s.node) l k) × FilesGoOn w (put_node w n s (closed_at name s.node))

-- Nodes and files are what they were.
abbrev pub OthersGoOn : Type 0
OthersGoOn = (w v : WorldState) → v.slots ≡ w.slots → FilesGoOn w v

-- ---- as nodes begin, with a file that makes the dataset which they begin with
abbrev pub StartsGoOn : Type 0
StartsGoOn = (w : WorldState) (as_replica : Bool) (port backlog : ℕ) (id file : List ℕ) (m : Dataset)
    → MakesByGroups file m
    → FilesGoOn w (started_with w (begun_slot as_replica port backlog id m file) id)

abbrev pub RestartsGoOn : Type 0
RestartsGoOn = (w : WorldState) (n : ℕ) (as_replica : Bool) (port backlog : ℕ) (id kept start : List ℕ) (m : Dataset)
    → MakesByGroups kept m
    → FilesGoOn w (restarted_with w n (begun_slot as_replica port backlog id m kept) id start)

-- An empty file makes the empty dataset.
abbrev pub EmptyFilesMakeNothing : Type 0
EmptyFilesMakeNothing = MakesByGroups [] empty

-- What any file is read from makes what it is read as.
abbrev pub WhatLoadsMakes : Type 0
WhatLoadsMakes = (found : List ℕ) (used : ℕ) (m : Dataset) → LoadsGroups found used m → MakesByGroups (take used found) m
