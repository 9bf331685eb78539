-- The node of a server as one of the nodes of a World: what each call that turns make on it is there.
use Rattle.std.specs.Prelude.{◌≡◌, ◌≢◌, ◌≤◌, ◌+◌, ◌⊎◌, ℕ, List, [], ◌∷◌, Bool, true, false, Option, None, Some, Result, Ok, Err, length, take, drop, slice_get}
use Rattle.mr_links.specs.declared.link_id.LinkId.{LinkId}
use Rattle.mr_keyspace.specs.Dataset.{Dataset}
use Rattle.mr_replication.specs.State.{name_of}
use Rattle.mr_node_spec.specs.State.{IsShut, NodeState, end_of, stopped_as}
use Rattle.mr_node_spec.specs.Sound.{IsSound}
use Rattle.mr_node_output.specs.Outs.{OutsState}
use Rattle.mr_node_spec.specs.LinkRows.{Opens}
use Rattle.mr_node.specs.declared.fault.NodeFault.TheVariants as fault
use Rattle.law_refinement.specs.Way.{WayState}
use Rattle.law_refinement.specs.State.{Link, Slot, WorldState}
use Rattle.law_refinement.specs.Worlds.{IsWorld, no_world}
use Rattle.law_refinement.specs.Carrying.{accepting, connecting, put_node}
use Rattle.law_refinement.specs.Events.{IsRunning, IsWaiting}
use Rattle.law_refinement.specs.Showing.{Shows}
use Rattle.law_refinement.specs.Runs.{Happens}
use Rattle.mr_world_parts.specs.AtNode.{is_spent}
use Rattle.mr_links.specs.declared.side.Side.{Side}
use Rattle.mr_links.specs.declared.side.Side.TheVariants as side
use Rattle.mr_world.specs.Calls.{ServesAt}
use Rattle.mr_world.specs.Running.{EventCall, Outcome}
use Rattle.mr_world.specs.declared.event.Event.{Event}
use Rattle.mr_world.specs.declared.event.Event.TheVariants as event
use Rattle.mr_world.specs.declared.refusal.Refusal.TheVariants as refusal
use Rattle.law_servers.specs.Calling.{IsCall, NodeCall, break, client, deliver, dial, opens_no_more, step, tick}

-- ---- which link of the World a node's link is
-- The node n serves it under this name, and its end there is open.
pub record IsServedAs (w : WorldState) (n : ℕ) (name : LinkId) (l : ℕ) : Type 0 where
  pub link : Link
  pub at : ServesAt w l link
  pub to : link.to ≡ n
  pub named : link.name ≡ name

-- The node follows by it under this name.
pub record IsFollowedAs (s : Slot) (name : LinkId) (l : ℕ) : Type 0 where
  pub named : name_of s.node.follow ≡ Some name
  pub dialled : s.dialled ≡ l

-- the node's open end of its link is this one of that link
abbrev pub IsEndOf : WorldState → ℕ → Slot → LinkId → ℕ → Side → Type 0
IsEndOf w n s name l side.Server = IsServedAs w n name l
IsEndOf w n s name l side.Opener = IsFollowedAs s name l

-- The node has no open end: it has none, or has closed it.
pub data NoneOpen (a : NodeState) (name : LinkId) : Type 0 where
  absent : end_of a name ≡ None → NoneOpen a name
  shut : IsShut a name → NoneOpen a name

-- ---- what comes from outside
-- the bytes that were sent to an end
abbrev pub way_to : Side → Link → WayState
way_to side.Server k = k.ask
way_to side.Opener k = k.tell

-- **A link brings what was sent on it, in order**: these bytes come next.
pub record Brings (w : WorldState) (l : ℕ) (at : Side) (bytes : List ℕ) : Type 0 where
  pub link : Link
  pub found : slice_get w.links l ≡ Some link
  pub sent : (way_to at link).taken + length bytes ≤ length (way_to at link).sent
  pub next : bytes ≡ take (length bytes) (drop (way_to at link).taken (way_to at link).sent)

-- The node m runs, and opens its end as it is dialled.
pub record Accepts (w : WorldState) (m : ℕ) : Type 0 where
  pub server : Slot
  pub running : IsRunning w m server
  pub name : LinkId
  pub node : NodeState
  pub opens : Opens server.node name node

-- ---- which event a call is
-- **Which event of the World a call is on its node n, whose slot is s.** Bytes are those that the link brings, a drawn id is new, and another node that is dialled accepts at once: a dial whose accept comes later is two calls, each of which `Becomes` has by itself.
abbrev pub IsNamed : WorldState → ℕ → Slot → NodeCall → Event → Type 0
IsNamed w n s (client link) e = e ≡ event.Client n
IsNamed w n s opens_no_more e = e ≡ event.Client n
IsNamed w n s (deliver link bytes) e = (l : ℕ) × (at : Side) × IsEndOf w n s link l at × Brings w l at bytes × (e ≡ event.Deliver l at (length bytes))
IsNamed w n s (step link given fresh result) e = (l : ℕ) × (at : Side) × IsEndOf w n s link l at × (is_spent w.book fresh ≡ false) × (e ≡ event.Step l at given fresh)
IsNamed w n s (tick given outs) e = e ≡ event.Tick n given
IsNamed w n s (break link) e = (l : ℕ) × (at : Side) × IsEndOf w n s link l at × (e ≡ event.Break l at)
IsNamed w n s (dial link outs) e = (m : ℕ) × (m ≢ n) × Accepts w m × (e ≡ event.Dial n m)

-- A World takes the event; or refuses it for want of memory, where the node's step did.
abbrev pub outcome_of : NodeCall → Outcome
outcome_of (client link) = Ok tt
outcome_of opens_no_more = Ok tt
outcome_of (deliver link bytes) = Ok tt
outcome_of (step link given fresh (Ok came)) = Ok tt
outcome_of (step link given fresh (Err fault.Memory)) = Err refusal.Memory
outcome_of (step link given fresh (Err fault.Stopped)) = Ok tt
outcome_of (step link given fresh (Err fault.NoLink)) = Ok tt
outcome_of (step link given fresh (Err fault.InputFull)) = Ok tt
outcome_of (tick given outs) = Ok tt
outcome_of (break link) = Ok tt
outcome_of (dial link outs) = Ok tt

-- A call that is no event of a World, since the node has no open end of the link: a step there does nothing, and as a server closes an end that its node has closed already,
-- the node forgets it.
abbrev pub IsUnseen : NodeState → NodeCall → Type 0
IsUnseen a (step link given fresh result) = NoneOpen a link
IsUnseen a (break link) = NoneOpen a link
IsUnseen a _ = ⊥

-- ---- what a call makes of a World
-- In this World the node n is this.
pub record Stands (w : WorldState) (n : ℕ) (a : NodeState) : Type 0 where
  pub slot : Slot
  pub there : slice_get w.slots n ≡ Some slot
  pub is : slot.node ≡ a

-- The World goes on as the call says: by the event, as its rows have it, and with the node that the call leaves; or with the node alone another, in what no one sees. Or the link that comes
-- to the node is one that waits, which it serves from then on; or the node dials, and its link waits for a node to accept it.
pub data Becomes (w : WorldState) (n : ℕ) (s : Slot) (call : NodeCall) (b : NodeState) (v : WorldState) : Type 0 where
  by_event : (e : Event) → IsNamed w n s call e → EventCall w e v (outcome_of call) → Stands v n b → Becomes w n s call b v
  unseen : IsUnseen s.node call → v ≡ put_node w n s b → Becomes w n s call b v
  accepts : (name : LinkId) (l : ℕ) (k : Link) → call ≡ client name → IsWaiting w l k → v ≡ accepting w n s b name l k → Becomes w n s call b v
  connects : (name : LinkId) (outs : OutsState) → call ≡ dial name outs → v ≡ connecting w n s b name outs.reply → Becomes w n s call b v

-- The call is an event of this World, or none; or an accept of a link that waits, or a dial that waits for its accept.
pub data IsMeant (w : WorldState) (n : ℕ) (s : Slot) (call : NodeCall) : Type 0 where
  as_event : (e : Event) → IsNamed w n s call e → IsMeant w n s call
  as_none : IsUnseen s.node call → IsMeant w n s call
  as_accept : (name : LinkId) (l : ℕ) (k : Link) → call ≡ client name → IsWaiting w l k → IsMeant w n s call
  as_connect : (name : LinkId) (outs : OutsState) → call ≡ dial name outs → IsMeant w n s call

-- What comes of a call, in a World whose node this is.
pub record Comes (w : WorldState) (n : ℕ) (s : Slot) (call : NodeCall) (b : NodeState) : Type 0 where
  pub world : WorldState
  pub becomes : Becomes w n s call b world
  pub stands : Stands world n b

-- **Each call that a server's turns make on its node is what a World's event makes of that node**, in each World in which it is one of the nodes.
abbrev pub CallsAreEvents : Type 0
CallsAreEvents = (w : WorldState) (n : ℕ) (s : Slot) (call : NodeCall) (b : NodeState) → IsWorld w → IsRunning w n s → IsSound b → IsCall s.node call b → IsMeant w n s call → Comes w n s call b

-- ---- servers in a World
-- A server's call on its node, as it happens in the World.
pub record CallsInWorld (w v : WorldState) : Type 0 where
  pub number : ℕ
  pub slot : Slot
  pub running : IsRunning w number slot
  pub call : NodeCall
  pub node : NodeState
  pub sound : IsSound node
  pub is : IsCall slot.node call node
  pub becomes : Becomes w number slot call node v

-- A server tells its node to stop, since its file failed or memory ran out.
pub record Halts (w v : WorldState) : Type 0 where
  pub number : ℕ
  pub slot : Slot
  pub running : IsRunning w number slot
  pub is : v ≡ put_node w number slot (stopped_as slot.node)

-- From the one World to the next: an event that it takes; a call of a server on one of its nodes; or a server's node stops.
pub data Moves (w v : WorldState) : Type 0 where
  happens : (e : Event) → EventCall w e v (Ok tt) → IsWorld v → Moves w v
  serves : CallsInWorld w v → Moves w v
  halts : Halts w v → Moves w v

-- .. one after another
abbrev pub Course : WorldState → List WorldState → Type 0
Course w [] = Unit {0}
Course w (v ∷ vs) = Moves w v × Course v vs

-- What a server does is an event of histories there, or nothing that they see; and it leaves a World.
abbrev pub ServersKeepWorlds : Type 0
ServersKeepWorlds = (w v : WorldState) → IsWorld w → (CallsInWorld w v ⊎ Halts w v) → Happens w v × IsWorld v

-- **In one World, servers' calls never make nodes differ silently.** However the nodes of a World are run, by its events or by calls of servers that are events there: at any two
-- moments nodes that show one id and one offset hold one dataset.
abbrev pub ServersNeverDiffer : Type 0
ServersNeverDiffer = (worlds : List WorldState) → Course no_world worlds → (j k : ℕ) (u v : WorldState) → slice_get (no_world ∷ worlds) j ≡ Some u → slice_get (no_world ∷ worlds) k ≡ Some v
    → (n m : ℕ) (id : List ℕ) (offset : ℕ) (x y : Dataset) → Shows u n id offset x → Shows v m id offset y → x ≡ y
