-- What the events of a turn rest on: what is there of a connection, and what the node makes of a call.
use Rattle.std.specs.Prelude.{◌≡◌, ◌≢◌, ◌<◌, ◌≤◌, ℕ, List, Bool, true, false, Option, Some, None, Result, Ok, Err, length}
use Rattle.std.specs.FinMap as map
use Rattle.mr_links.specs.declared.link_id.LinkId.{LinkId}
use Rattle.mr_data.specs.declared.given.Given.{Given}
use Rattle.mr_node_output.specs.Outs.{OutsState}
use Rattle.mr_node_output.specs.Address.{AddressState}
use Rattle.mr_node_spec.specs.State.{IsNode, NodeState, end_of, room_of}
use Rattle.mr_node_spec.specs.LinkRows.{Opens, Dials, Feeds, closed_at}
use Rattle.mr_node_spec.specs.Sound.{IsSound}
use Rattle.mr_node_spec.specs.TimeRows.{TickRow}
use Rattle.mr_node.specs.Calls.{IsClients, OpensNoMore, Unreads}
use Rattle.mr_node.specs.Parts.{role_of}
use Rattle.mr_node.specs.Steps.{Steps}
use Rattle.mr_node.specs.declared.fault.NodeFault.{NodeFault}
use Rattle.mr_node.specs.declared.fault.NodeFault.TheVariants as refusal
use Rattle.mr_node.specs.declared.step.Step.{Step}
use Rattle.mr_node.specs.declared.step.Step.TheVariants as step
use Rattle.mr_wire.specs.Wire.{LinkState, ChangesLink, Connects, WireState}
use Rattle.mr_unsent.specs.Limits.{most_unsent}
use Rattle.mr_connections.specs.State.{ConnectionState, HasLink, begun, most_kept}
use Rattle.mr_loop.specs.Carrying.{SameFile}
use Rattle.mr_loop.specs.News.{is_client_end, news_of, place_of}
use Rattle.mr_loop.specs.declared.followed.News.{News}
use Rattle.mr_loop.specs.Stage.{Stage, LoopState, connection_at}

-- ---- a connection

-- The node has no end of the link, or the connection is there with it.
pub data IsLinked (a : NodeState) (o : LoopState) (socket link : LinkId) : Type 0 where
  gone : end_of a link ≡ None → IsLinked a o socket link
  has : HasLink o.connections socket link → IsLinked a o socket link

-- Where the link is a client's, no more waits than a client may leave unread.
pub record IsLight (a : NodeState) (o : LoopState) (socket link : LinkId) : Type 0 where
  pub few : IsClients a link → (c : ConnectionState) → connection_at o socket ≡ Some c → length c.waiting ≤ most_unsent

-- A client's link, on whose connection more waits than that.
pub record IsBurdened (a : NodeState) (o : LoopState) (socket link : LinkId) : Type 0 where
  pub client : IsClients a link
  pub connection : ConnectionState
  pub is : connection_at o socket ≡ Some connection
  pub too_much : most_unsent < length connection.waiting

-- A connection is there with this link, and more may be read of it: of a client only where at most so much waits for it.
pub record IsRead (a : NodeState) (o : LoopState) (socket link : LinkId) : Type 0 where
  pub connection : ConnectionState
  pub is : connection_at o socket ≡ Some connection
  pub linked : connection.link ≡ Some link
  pub few : IsClients a link → length connection.waiting ≤ most_kept

-- ---- the node

-- The node takes so many bytes more on the link.
pub record HasRoom (a : NodeState) (l : LinkId) (count : ℕ) : Type 0 where
  pub room : ℕ
  pub is : room_of a l ≡ Some room
  pub fits : count ≤ room

-- a link that is open at the node, and on which something is unread
pub record HasInput (a : NodeState) (l : LinkId) : Type 0 where
  pub node : IsNode a
  pub count : ℕ
  pub some : count ≢ 0
  pub unread : Unreads a l count

-- **A step is made only where something is unread.** What the node is then is sound, as behind each call here.
pub record Stepped (a : NodeState) (l : LinkId) (given : Given) (fresh : List ℕ) (b : NodeState) (result : Result Step NodeFault) : Type 0 where
  pub input : HasInput a l
  pub row : Steps a l given fresh b result
  pub sound : IsSound b

-- The node takes these bytes on a link that it has.
pub record Fed (a : NodeState) (l : LinkId) (bytes : List ℕ) (b : NodeState) : Type 0 where
  pub up : a.core.up ≡ true
  pub there : end_of a l ≢ None
  pub feeds : Feeds a l bytes b
  pub sound : IsSound b

-- the node's end of a link is closed, if there is one
abbrev pub ended_at : Option LinkId → NodeState → NodeState
ended_at None a = a
ended_at (Some link) a = closed_at link a

-- The node has no other link: it opened or dialled none, or closed the one that it opened or dialled.
pub data TurnsOff (a b : NodeState) : Type 0 where
  stays : b ≡ a → TurnsOff a b
  opens_and_closes : (mid : NodeState) (link : LinkId) → Opens a link mid → b ≡ closed_at link mid → TurnsOff a b
  dials_and_closes : (mid : NodeState) (link : LinkId) (outs : OutsState) → Dials a link mid outs → IsSound mid → b ≡ closed_at link mid → TurnsOff a b

-- where a node answers that it is stopped
pub data Stop : Type 0 where
  stops_at_step : (link : LinkId) (given : Given) (fresh : List ℕ) → Stop
  stops_at_tick : (given : Given) → Stop
  stops_at_open : Stop
  was_down : Stop

-- .. and why: at a step, or since it opened as many links as it may, or was down, as it is where time passes
abbrev pub Stopping : Stop → NodeState → NodeState → Type 0
Stopping (stops_at_step link given fresh) a b = Stepped a link given fresh b (Err refusal.Stopped)
Stopping (stops_at_tick given) a b = (a.core.up ≡ false) × (b ≡ a)
Stopping stops_at_open a b = OpensNoMore a b
Stopping was_down a b = (a.core.up ≡ false) × (b ≡ a)

-- ---- the wire

-- The wire's link becomes what this makes of it, if it is open, and these bytes are sent on it; and nothing else.
pub record Touches (a : WireState) (l : LinkId) (f : LinkState → LinkState) (bytes : List ℕ) (b : WireState) : Type 0 where
  pub changes : ChangesLink a l f bytes b
  pub absent : map.get a.open_links l ≡ None → b ≡ a

-- The last write of a link moved nothing, as a wire that tells its bytes tells.
pub record IsStuck (tells : Bool) (w : WireState) (l : LinkId) : Type 0 where
  pub told : tells ≡ true → (e : LinkState) × (map.get w.open_links l ≡ Some e) × (e.stuck ≡ true)

-- ---- what ends a connection

-- A connection is there, and its link at the node is this.
pub record Has (o : LoopState) (socket : LinkId) (link : Option LinkId) (waiting : List ℕ) : Type 0 where
  pub is : connection_at o socket ≡ Some (record { link = link; waiting = waiting })

-- A connection is closed, at the node where that has an end of it, and on the wire; what waits is dropped, and nothing is sent any more.
pub record Dropped (socket : LinkId) (link : Option LinkId) (s t : Stage) : Type 0 where
  pub node : t.node ≡ ended_at link s.node
  pub connections : t.own.connections ≡ map.remove s.own.connections socket
  pub batch : t.own.batch ≡ s.own.batch
  pub halted : t.own.halted ≡ s.own.halted
  pub hurries : t.own.hurries ≡ s.own.hurries
  pub lacked : t.own.lacked ≡ s.own.lacked
  pub wire : t.wire.open_links ≡ map.remove s.wire.open_links socket
  pub opened : t.wire.opened ≡ s.wire.opened
  pub sent : t.wire.sent ≡ s.wire.sent
  pub failed : t.failed ≡ s.failed
  pub file : SameFile s t

-- ---- what the node does that gives something out

-- a call on the node
pub data Act : Type 0 where
  -- .. with what it came to between a replica and its master
  at_step : (socket link : LinkId) (given : Given) (fresh : List ℕ) (news : Option News) → Act
  at_tick : (given : Given) → Act
  at_dial : (socket link : LinkId) → Act

-- A step, of a connection on which no more waits than may.
pub record StepsAt (socket link : LinkId) (given : Given) (fresh : List ℕ) (news : Option News) (s t : Stage) (outs : OutsState) : Type 0 where
  pub has : HasLink s.own.connections socket link
  pub light : IsLight s.node s.own socket link
  pub stepped : Stepped s.node link given fresh t.node (Ok (step.Done outs))
  pub news_are : news ≡ news_of (place_of (role_of s.node) (is_client_end (end_of s.node link))) (role_of t.node) outs
  pub same : t ≡ record s { node = t.node }

-- Time passes.
pub record TicksAt (given : Given) (s t : Stage) (outs : OutsState) : Type 0 where
  pub row : TickRow s.node given.now t.node outs
  pub sound : IsSound t.node
  pub same : t ≡ record s { node = t.node }

-- **The master is dialled at the address that the node was told to follow**, on a link that the wire opened to it.
pub record DialsAt (socket link : LinkId) (s t : Stage) (outs : OutsState) : Type 0 where
  pub address : AddressState
  pub told : s.node.core.upstream ≡ Some address
  pub connects : Connects s.wire address.host address.port socket t.wire
  pub later : s.failed ≤ t.failed
  pub dials : Dials s.node link t.node outs
  pub sound : IsSound t.node
  pub fresh : connection_at s.own socket ≡ None
  pub connections : t.own.connections ≡ map.insert s.own.connections socket (begun link)
  pub batch : t.own.batch ≡ s.own.batch
  pub halted : t.own.halted ≡ s.own.halted
  pub hurries : t.own.hurries ≡ s.own.hurries
  pub lacked : t.own.lacked ≡ s.own.lacked
  pub file : SameFile s t

-- what a call makes of all, before its outs are carried out
abbrev pub Calls : Act → Stage → Stage → OutsState → Type 0
Calls (at_step socket link given fresh news) s t outs = StepsAt socket link given fresh news s t outs
Calls (at_tick given) s t outs = TicksAt given s t outs
Calls (at_dial socket link) s t outs = DialsAt socket link s t outs
