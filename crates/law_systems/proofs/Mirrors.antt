-- A World beside servers: its slots are theirs, and each connection is the link of its number.
use Rattle.std.proofs.Common.{◌≡◌, ◌++◌, ℕ, List, true, false, None, Some, length}
use Rattle.std.specs.Prelude.{slice_get, slice_set}
use Rattle.mr_links.specs.declared.link_id.LinkId.{LinkId}
use Rattle.mr_connections.specs.State.{ConnectionState}
use Rattle.mr_loop.specs.Stage.{Stage, connection_at}
use Rattle.mr_loop.specs.Rows.{Event, fault_of}
use Rattle.mr_loop.specs.Giving.{taken_by}
use Rattle.law_refinement.specs.Way.{WayState}
use Rattle.law_refinement.specs.State.{Link, Slot, WorldState, a_client, a_node}
use Rattle.law_refinement.specs.Worlds.{IsWorld}
use Rattle.law_refinement.specs.Runs.{Run, last_of}
use Rattle.mr_world_parts.specs.AtNode.{is_spent}
use Rattle.mr_links.specs.declared.side.Side.{Side}
use Rattle.mr_links.specs.declared.side.Side.TheVariants as side
use Rattle.law_servers.specs.Worlds.{IsEndOf, IsFollowedAs, NoneOpen, way_to}
use Rattle.law_systems.specs.System.{Connection, Doing, End, IsAt, Server, System, from_side, is_taken, to_side}
use Rattle.law_systems.specs.Network.{Goes, HasEnd}
use Rattle.law_systems.specs.Steps.{AreNew, behind, drawn_in}

-- the bytes that were sent from an end
abbrev pub way_from : Side → Link → WayState
way_from side.Server k = k.tell
way_from side.Opener k = k.ask

-- The one begins with the other.
pub record IsBegun (front whole : List ℕ) : Type 0 where
  pub rest : List ℕ
  pub is : whole ≡ front ++ rest

-- What was written either way begins what was sent there. A connection that waits is a link that waits, and the server that accepted it serves the link. Of a client's all that it
-- sent was taken, and one that a server dialled is that node's.
pub record IsLine (k : Connection) (l : Link) : Type 0 where
  pub asked : IsBegun k.asked.written l.ask.sent
  pub answered : IsBegun k.answered.written l.tell.sent
  pub waits : (e : End) → k.dialler ≡ Some e → k.acceptor ≡ None → l.waits ≡ true
  pub served : (e : End) → k.acceptor ≡ Some e → (l.waits ≡ false) × (l.to ≡ e.server)
  pub client : k.dialler ≡ None → (l.caller ≡ a_client true) × (l.ask.taken ≡ length l.ask.sent)
  pub dialled : (e : End) → k.dialler ≡ Some e → (name : LinkId) × (l.caller ≡ a_node e.server name)

-- The end of this side isn't open in the World.
abbrev pub IsClosedSide : Slot → ℕ → Link → Side → Type 0
IsClosedSide s c l side.Server = l.serving ≡ false
IsClosedSide s c l side.Opener = (name : LinkId) → IsFollowedAs s name c → ⊥

-- The end of this side is open in the World under the loop's name for it, and as much was taken there as was read; or it is closed there, and the node has no open end under that name.
pub data IsSide (w : WorldState) (n : ℕ) (s : Slot) (c : ℕ) (k : Connection) (l : Link) (at : Side) (held : ConnectionState) : Type 0 where
  is_open : (name : LinkId) → held.link ≡ Some name → IsEndOf w n s name c at → ((dialler : End) → k.dialler ≡ Some dialler → (way_to at l).taken ≡ (to_side at k).read) → IsSide w n s c k l at held
  is_closed : IsClosedSide s c l at → ((name : LinkId) → held.link ≡ Some name → NoneOpen s.node name) → IsSide w n s c k l at held

-- A side whose loop has the connection: what was sent from there is what was written and what waits.
pub record IsLive (w : WorldState) (n : ℕ) (s : Slot) (c : ℕ) (k : Connection) (l : Link) (at : Side) (held : ConnectionState) : Type 0 where
  pub sent : (way_from at l).sent ≡ (from_side at k).written ++ held.waiting
  pub side : IsSide w n s c k l at held

-- The slot of a server's number. While the server makes turns its node is that one; and where it has given up, what its node shows and takes is the same there, links apart.
pub record IsSlotOf (w : WorldState) (n : ℕ) (server : Server) (s : Slot) : Type 0 where
  pub found : slice_get w.slots n ≡ Some s
  pub as_master : s.as_master ≡ true
  pub node : (t : Stage) → server.doing ≡ Doing.runs t → s.node ≡ t.node
  pub core : (t : Stage) → server.doing ≡ Doing.gives_up t → s.node.core ≡ t.node.core

pub record Mirrors (x : System) (w : WorldState) : Type 0 where
  pub world : IsWorld w
  pub as_many : length w.slots ≡ length x.servers
  pub as_many_links : length w.links ≡ length x.connections
  pub slots : (n : ℕ) (server : Server) → slice_get x.servers n ≡ Some server → (s : Slot) × IsSlotOf w n server s
  pub ids : (id : List ℕ) → is_spent w.book id ≡ true → is_taken x.ids id ≡ true
  pub lines : (c : ℕ) (k : Connection) (l : Link) → slice_get x.connections c ≡ Some k → slice_get w.links c ≡ Some l → IsLine k l
  pub live : (c : ℕ) (at : Side) (k : Connection) (e : End) (l : Link) (t : Stage) (held : ConnectionState) (s : Slot)
      → HasEnd x.connections c at k e → slice_get w.links c ≡ Some l → IsAt x e.server e.life t → connection_at t.own e.socket ≡ Some held → slice_get w.slots e.server ≡ Some s
      → IsLive w e.server s c k l at held

-- From a World a run leads to one that is beside the servers.
pub record Leads (w : WorldState) (y : System) : Type 0 where
  pub worlds : List WorldState
  pub run : Run w worlds
  pub mirrors : Mirrors y (last_of w worlds)

-- In this life of the server n an event of its turns makes this of all.
pub record IsTurn (x : System) (n life : ℕ) (s : Stage) (event : Event) (t : Stage) (y : System) : Type 0 where
  pub at : IsAt x n life s
  pub new : AreNew x (drawn_in event)
  pub connections : List Connection
  pub goes : Goes n life x.connections event connections
  pub is : y ≡ record { servers = slice_set x.servers n (record { life = life; doing = behind (fault_of event) t }); connections = connections; ids = taken_by event ++ x.ids }
