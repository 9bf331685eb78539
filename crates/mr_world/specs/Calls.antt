-- What each event of a World comes to. A refusal leaves the World as it is; the order in which causes stand is that of the cases.
use Rattle.std.specs.Prelude.{◌≡◌, ◌≢◌, ◌≤◌, ◌+◌, ℕ, List, [], Bool, true, false, None, Some, Result, Ok, Err, length, slice_get, slice_set}
use Rattle.std.specs.FinMap.{empty}
use Rattle.mr_links.specs.declared.link_id.LinkId.{LinkId}
use Rattle.mr_links.specs.Links.{links_limit}
use Rattle.mr_node_spec.specs.State.{NodeState, stopped_as}
use Rattle.mr_node_spec.specs.LinkRows.{Opens, closed_at}
use Rattle.law_refinement.specs.Way.{sent_on, taken_on}
use Rattle.law_refinement.specs.State.{a_client, Link, Slot, WorldState}
use Rattle.law_refinement.specs.Events.{IsRunning, IsServed}
use Rattle.law_refinement.specs.Carrying.{begun_slot, broken, opened, put_node, started_with}
use Rattle.law_refinement.specs.OwnEnds.{IsAClients}
use Rattle.mr_world_parts.specs.AtNode.{is_spent}
use Rattle.mr_world.specs.declared.refusal.Refusal.{Refusal}
use Rattle.mr_world.specs.declared.refusal.Refusal.TheVariants as refusal

-- a node starts
abbrev pub StartCall : WorldState → List ℕ → Bool → ℕ → ℕ → WorldState → Result (Unit {0}) Refusal → Type 0
StartCall w id as_replica port backlog v (Ok done) = (is_spent w.book id ≡ false) × (v ≡ started_with w (begun_slot as_replica port backlog id empty []) id)
StartCall w id as_replica port backlog v (Err refusal.Drawn) = (is_spent w.book id ≡ true) × (v ≡ w)
StartCall w id as_replica port backlog v (Err refusal.Memory) = (is_spent w.book id ≡ false) × (v ≡ w)
StartCall w id as_replica port backlog v (Err refusal.Nobody) = ⊥
StartCall w id as_replica port backlog v (Err refusal.TooMuch) = ⊥
StartCall w id as_replica port backlog v (Err refusal.InputFull) = ⊥

-- The node is there, and is stopped.
pub record IsDown (w : WorldState) (n : ℕ) : Type 0 where
  pub slot : Slot
  pub at : slice_get w.slots n ≡ Some slot
  pub down : slot.node.core.up ≡ false

-- .. and runs
pub record Runs (w : WorldState) (n : ℕ) : Type 0 where
  pub slot : Slot
  pub running : IsRunning w n slot

-- a client's link comes
pub record Comes (w : WorldState) (n : ℕ) (v : WorldState) : Type 0 where
  pub slot : Slot
  pub running : IsRunning w n slot
  pub name : LinkId
  pub node : NodeState
  pub opens : Opens slot.node name node
  pub is : v ≡ opened w n slot node name

-- The node has opened as many links as it may, and stops.
pub record StopsForLinks (w : WorldState) (n : ℕ) (v : WorldState) : Type 0 where
  pub slot : Slot
  pub running : IsRunning w n slot
  pub spent : links_limit ≤ slot.node.ends.opened
  pub is : v ≡ put_node w n slot (stopped_as slot.node)

pub data Clients (w : WorldState) (n : ℕ) (v : WorldState) : Type 0 where
  comes : Comes w n v → Clients w n v
  stops : StopsForLinks w n v → Clients w n v
  rests : IsDown w n → v ≡ w → Clients w n v

abbrev pub ClientCall : WorldState → ℕ → WorldState → Result (Unit {0}) Refusal → Type 0
ClientCall w n v (Ok done) = Clients w n v
ClientCall w n v (Err refusal.Nobody) = (slice_get w.slots n ≡ None) × (v ≡ w)
ClientCall w n v (Err refusal.Memory) = Runs w n × (v ≡ w)
ClientCall w n v (Err refusal.Drawn) = ⊥
ClientCall w n v (Err refusal.TooMuch) = ⊥
ClientCall w n v (Err refusal.InputFull) = ⊥

-- There is no such end of a client.
abbrev pub NoneAsks : WorldState → ℕ → Type 0
NoneAsks w l = (k : Link) → IsAClients w l k → ⊥

-- the World with another link in the place of one
abbrev pub put_link : WorldState → ℕ → Link → WorldState
put_link w l k = record w { links = slice_set w.links l k }

-- a client sends bytes
pub record Sends (w : WorldState) (l : ℕ) (bytes : List ℕ) (v : WorldState) : Type 0 where
  pub link : Link
  pub at : IsAClients w l link
  pub is : v ≡ put_link w l (record link { ask = sent_on bytes link.ask })

abbrev pub CommandCall : WorldState → ℕ → List ℕ → WorldState → Result (Unit {0}) Refusal → Type 0
CommandCall w l bytes v (Ok done) = Sends w l bytes v
CommandCall w l bytes v (Err refusal.Nobody) = NoneAsks w l × (v ≡ w)
CommandCall w l bytes v (Err refusal.Memory) = ((k : Link) × IsAClients w l k) × (bytes ≢ []) × (v ≡ w)
CommandCall w l bytes v (Err refusal.Drawn) = ⊥
CommandCall w l bytes v (Err refusal.TooMuch) = ⊥
CommandCall w l bytes v (Err refusal.InputFull) = ⊥

-- a client takes so many bytes more of those that were sent to it
pub record Takes (w : WorldState) (l count : ℕ) (v : WorldState) : Type 0 where
  pub link : Link
  pub at : IsAClients w l link
  pub sent : link.tell.taken + count ≤ length link.tell.sent
  pub is : v ≡ put_link w l (record link { tell = taken_on count link.tell })

-- So many more weren't sent.
pub record WereNotSent (w : WorldState) (l count : ℕ) : Type 0 where
  pub link : Link
  pub at : IsAClients w l link
  pub fewer : link.tell.taken + count ≤ length link.tell.sent → ⊥

abbrev pub TakeCall : WorldState → ℕ → ℕ → WorldState → Result (Unit {0}) Refusal → Type 0
TakeCall w l count v (Ok done) = Takes w l count v
TakeCall w l count v (Err refusal.Nobody) = NoneAsks w l × (v ≡ w)
TakeCall w l count v (Err refusal.TooMuch) = WereNotSent w l count × (v ≡ w)
TakeCall w l count v (Err refusal.Memory) = ⊥
TakeCall w l count v (Err refusal.Drawn) = ⊥
TakeCall w l count v (Err refusal.InputFull) = ⊥

-- a client closes its end
pub record Leaves (w : WorldState) (l : ℕ) (v : WorldState) : Type 0 where
  pub link : Link
  pub at : IsAClients w l link
  pub is : v ≡ put_link w l (record link { caller = a_client false })

abbrev pub LeaveCall : WorldState → ℕ → WorldState → Result (Unit {0}) Refusal → Type 0
LeaveCall w l v (Ok done) = Leaves w l v
LeaveCall w l v (Err refusal.Nobody) = NoneAsks w l × (v ≡ w)
LeaveCall w l v (Err refusal.TooMuch) = ⊥
LeaveCall w l v (Err refusal.Memory) = ⊥
LeaveCall w l v (Err refusal.Drawn) = ⊥
LeaveCall w l v (Err refusal.InputFull) = ⊥

-- The link stands at this place, and its server's end is open.
pub record ServesAt (w : WorldState) (l : ℕ) (k : Link) : Type 0 where
  pub found : slice_get w.links l ≡ Some k
  pub serving : k.serving ≡ true

-- There is no such end.
abbrev pub NoneServes : WorldState → ℕ → Type 0
NoneServes w l = (k : Link) → ServesAt w l k → ⊥

-- the node that serves a link closes its end
pub record Closes (w : WorldState) (l : ℕ) (v : WorldState) : Type 0 where
  pub link : Link
  pub slot : Slot
  pub served : IsServed w l link slot
  pub is : v ≡ broken w link.to slot (closed_at link.name slot.node) l link

pub data Breaks (w : WorldState) (l : ℕ) (v : WorldState) : Type 0 where
  closes : Closes w l v → Breaks w l v
  idles : (k : Link) → ServesAt w l k → IsDown w k.to → v ≡ w → Breaks w l v

abbrev pub BreakCall : WorldState → ℕ → WorldState → Result (Unit {0}) Refusal → Type 0
BreakCall w l v (Ok done) = Breaks w l v
BreakCall w l v (Err refusal.Nobody) = NoneServes w l × (v ≡ w)
BreakCall w l v (Err refusal.TooMuch) = ⊥
BreakCall w l v (Err refusal.Memory) = ⊥
BreakCall w l v (Err refusal.Drawn) = ⊥
BreakCall w l v (Err refusal.InputFull) = ⊥
