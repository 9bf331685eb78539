-- The row of each event: what it changes, and nothing else. An event that a world refuses has no row.
use Rattle.std.specs.Prelude.{ℕ, List, [], ◌++◌, ◌+◌, ◌-◌, ◌≤◌, ◌≡◌, ◌≢◌, ◌⊎◌, Option, None, Some, Bool, true, false, is_some, length}
use Rattle.law_protocol.specs.Language.{Language}
use Rattle.law_protocol.specs.Language.Request.{Handshake}
use Rattle.law_protocol.specs.Changes.{SetAt, Same}
use Rattle.law_protocol.specs.History.{Draws, texts}
use Rattle.law_protocol.specs.Node.{Phase, Node, at_phase}
use Rattle.law_protocol.specs.Node.Phase.{Greet, Stream}
use Rattle.law_protocol.specs.World.{Caller, Link, Way, World, is_to, hears, accepted, no_bytes, shut, told_if}
use Rattle.law_protocol.specs.World.Caller.{Client, Peer}
use Rattle.law_protocol.specs.Event.{Event}
use Rattle.law_protocol.specs.Event.Side.{Server, Dialler}
use Rattle.law_protocol.specs.Changing.{Still, LinkBecomes, NodeBecomes, Stops, Unless, Grown}
use Rattle.law_protocol.specs.ServerRows.{ServerRow}
use Rattle.law_protocol.specs.FollowerRows.{FollowerRow}

-- a node that starts under a drawn id
abbrev pub fresh_node : (L : Language) → L.Id → Bool → L.Dataset → Node L
fresh_node L i master m = record {
  up = true;
  master = master;
  id = i;
  offset = 0;
  second = None;
  backlog = [];
  held = m;
  offers = master;
  follow = None;
  upstream = [];
  starts_as_master = master;
}

-- a link before its first step, which a node serves or which waits for one to accept it
abbrev pub fresh_link : Caller → Option ℕ → List ℕ → Link
fresh_link caller to bytes = record {
  caller = caller;
  to = to;
  serving = is_some to;
  streams = false;
  ask = record { left = bytes; taken = 0 };
  tell = no_bytes;
  transaction = None;
}

-- A new node, to which no link leads yet.
pub record StartRow {L : Language} (w : World L) (i : L.Id) (master : Bool) (v : World L) : Type 0 where
  pub node : ℕ
  pub new_node : w.node node ≡ None
  pub unnamed : (l : ℕ) (k : Link) → w.link l ≡ Some k → k.to ≢ Some node
  pub nodes : SetAt w.node v.node node (fresh_node L i master L.empty)
  pub links : Same w.link v.link
  pub book : Draws L w.book v.book i L.empty

-- The node's ends close, and it starts anew, in the role that it started in, from what its file is read as, under a drawn id.
pub record RestartRow {L : Language} (w : World L) (n : ℕ) (file : List ℕ) (i : L.Id) (v : World L) : Type 0 where
  pub old : Node L
  pub found : w.node n ≡ Some old
  pub held : L.Dataset
  pub restored : L.restores file held
  pub nodes : SetAt w.node v.node n (fresh_node L i old.starts_as_master held)
  pub no_links : (l : ℕ) → w.link l ≡ None → v.link l ≡ None
  pub links : (l : ℕ) (k : Link) → w.link l ≡ Some k → v.link l ≡ Some (shut (is_to n k.to) k)
  pub book : Draws L w.book v.book i held

-- A client's link is there, or the node stops for want of names for links.
pub data Opens {L : Language} (w v : World L) (n : ℕ) (a : Node L) : Type 0 where
  opens : (l : ℕ) → w.link l ≡ None → LinkBecomes w v l (fresh_link (Client true) (Some n) []) → Opens w v n a
  stops : Stops w v n a → Opens w v n a

pub record ClientRow {L : Language} (w : World L) (n : ℕ) (v : World L) : Type 0 where
  pub node : Node L
  pub found : w.node n ≡ Some node
  pub does : Unless w v node (Opens w v n node)

-- A link from the node n is there, with the first line of the handshake: to this node, or to none yet.
pub record Connects {L : Language} (w v : World L) (n : ℕ) (to : Option ℕ) (a : Node L) : Type 0 where
  pub link : ℕ
  pub new_link : w.link link ≡ None
  pub request : List ℕ
  pub asks : L.asks None request Handshake
  pub nodes : SetAt w.node v.node n (at_phase a link (Greet 0))
  pub links : SetAt w.link v.link link (fresh_link (Peer n) to request)
  pub book : Same w.book v.book

-- A replica, a, dials a node, b. Either may stop, b for want of names for links.
pub data Dials {L : Language} (w v : World L) (n s : ℕ) (a b : Node L) : Type 0 where
  connects : Connects w v n (Some s) a → Dials w v n s a b
  stops : Stops w v n a → Dials w v n s a b
  server_stops : Stops w v s b → Dials w v n s a b

-- A replica without a link to a master dials any node, itself too. Where either has stopped nothing changes.
pub record DialRow {L : Language} (w : World L) (n s : ℕ) (v : World L) : Type 0 where
  pub node : Node L
  pub found : w.node n ≡ Some node
  pub replica : node.master ≡ false  -- a master dials nobody
  pub waiting : node.follow ≡ None
  pub server : Node L
  pub server_found : w.node s ≡ Some server
  pub does : Unless w v node (Unless w v server (Dials w v n s node server))

-- A replica, a, opens its end of a link, which nobody serves yet. It may stop.
pub data Calls {L : Language} (w v : World L) (n : ℕ) (a : Node L) : Type 0 where
  connects : Connects w v n None a → Calls w v n a
  stops : Stops w v n a → Calls w v n a

-- A replica without a link to a master opens its end of one. Where it has stopped nothing changes.
pub record ConnectRow {L : Language} (w : World L) (n : ℕ) (v : World L) : Type 0 where
  pub node : Node L
  pub found : w.node n ≡ Some node
  pub replica : node.master ≡ false  -- a master has nobody to follow
  pub waiting : node.follow ≡ None
  pub does : Unless w v node (Calls w v n node)

-- The node m, which is b, opens its end of the link l, which is k, or it stops for want of names for links.
pub data Accepts {L : Language} (w v : World L) (l m : ℕ) (k : Link) (b : Node L) : Type 0 where
  accepts : LinkBecomes w v l (accepted m k) → Accepts w v l m k b
  stops : Stops w v m b → Accepts w v l m k b

-- A node accepts a link that waits, whether the end of who asked for it is still open or not, and be it its own.
pub record AcceptRow {L : Language} (w : World L) (l m : ℕ) (v : World L) : Type 0 where
  pub link : Link
  pub found : w.link l ≡ Some link
  pub waiting : link.to ≡ None
  pub node : Node L
  pub node_found : w.node m ≡ Some node
  pub does : Unless w v node (Accepts w v l m link node)

-- A client whose end is open sends more.
pub record CommandRow {L : Language} (w : World L) (l : ℕ) (bytes : List ℕ) (v : World L) : Type 0 where
  pub link : Link
  pub found : w.link l ≡ Some link
  pub client : link.caller ≡ Client true
  pub becomes : LinkBecomes w v l (record link { ask = record link.ask { left = link.ask.left ++ bytes } })

-- so many more bytes are taken, of those that were sent
abbrev pub more : ℕ → Way → Way
more n way = record way { taken = way.taken + n }

-- an end of the link is there and open
pub record ServerEnd {L : Language} (w : World L) (l : ℕ) : Type 0 where
  pub link : Link
  pub found : w.link l ≡ Some link
  pub n : ℕ
  pub to : link.to ≡ Some n
  pub serving : link.serving ≡ true
  pub node : Node L
  pub node_found : w.node n ≡ Some node

pub record ReplicaEnd {L : Language} (w : World L) (l : ℕ) : Type 0 where
  pub link : Link
  pub found : w.link l ≡ Some link
  pub n : ℕ
  pub node : Node L
  pub node_found : w.node n ≡ Some node
  pub phase : Phase L.Id
  pub follow : node.follow ≡ Some (record { link = l; phase = phase })

pub record ClientEnd {L : Language} (w : World L) (l : ℕ) : Type 0 where
  pub link : Link
  pub found : w.link l ≡ Some link
  pub client : link.caller ≡ Client true

pub record DeliverToServer {L : Language} (w : World L) (l n : ℕ) (v : World L) : Type 0 where
  pub at : ServerEnd w l
  pub sent : at.link.ask.taken + n ≤ length at.link.ask.left
  pub does : Unless w v at.node (LinkBecomes w v l (record at.link { ask = more n at.link.ask }))

pub record DeliverToReplica {L : Language} (w : World L) (l n : ℕ) (v : World L) : Type 0 where
  pub at : ReplicaEnd w l
  pub sent : at.link.tell.taken + n ≤ length at.link.tell.left
  pub does : Unless w v at.node (LinkBecomes w v l (record at.link { tell = more n at.link.tell }))

pub record DeliverToClient {L : Language} (w : World L) (l n : ℕ) (v : World L) : Type 0 where
  pub at : ClientEnd w l
  pub sent : at.link.tell.taken + n ≤ length at.link.tell.left
  pub becomes : LinkBecomes w v l (record at.link { tell = more n at.link.tell })

pub record StepOfServer {L : Language} (w : World L) (l : ℕ) (given : L.Given) (fresh : L.Id) (v : World L) : Type 0 where
  pub at : ServerEnd w l
  pub does : Unless w v at.node (ServerRow w v at.n l at.link at.node given fresh)

pub record StepOfReplica {L : Language} (w : World L) (l : ℕ) (v : World L) : Type 0 where
  pub at : ReplicaEnd w l
  pub does : Unless w v at.node (FollowerRow w v at.n l at.node at.phase at.link)

-- The end closes: nothing is read there any more.
pub record BreakOfServer {L : Language} (w : World L) (l : ℕ) (v : World L) : Type 0 where
  pub at : ServerEnd w l
  pub does : Unless w v at.node (LinkBecomes w v l (shut true at.link))

pub record BreakOfReplica {L : Language} (w : World L) (l : ℕ) (v : World L) : Type 0 where
  pub at : ReplicaEnd w l
  pub does : Unless w v at.node (NodeBecomes w v at.n (record at.node { follow = None }))

pub record BreakOfClient {L : Language} (w : World L) (l : ℕ) (v : World L) : Type 0 where
  pub at : ClientEnd w l
  pub becomes : LinkBecomes w v l (record at.link { caller = Client false })

-- A master's tick: what is due is applied, and sent to every replica in its stream phase.
pub record Beats {L : Language} (w v : World L) (n : ℕ) (a : Node L) (given : L.Given) : Type 0 where
  pub master : a.master ≡ true
  pub effects : List L.Effect
  pub due : L.due (L.limit - a.offset) a.held given effects
  pub grown : Grown w v n a effects
  pub no_links : (l : ℕ) → w.link l ≡ None → v.link l ≡ None
  pub links : (l : ℕ) (k : Link) → w.link l ≡ Some k → v.link l ≡ Some (told_if (hears n k) k (texts L effects))

-- A replica's tick in its stream phase: it may acknowledge, by bytes that no claim speaks of.
pub record Acknowledges {L : Language} (w v : World L) (a : Node L) : Type 0 where
  pub replica : a.master ≡ false
  pub l : ℕ
  pub follow : a.follow ≡ Some (record { link = l; phase = Stream })
  pub link : Link
  pub found : w.link l ≡ Some link
  pub bytes : List ℕ
  pub becomes : LinkBecomes w v l (record link { ask = record link.ask { left = link.ask.left ++ bytes } })

pub data Ticks {L : Language} (w v : World L) (n : ℕ) (a : Node L) (given : L.Given) : Type 0 where
  beats : Beats w v n a given → Ticks w v n a given
  acknowledges : Acknowledges w v a → Ticks w v n a given
  rests : a.master ≡ false → Still w v → Ticks w v n a given
  stops : Stops w v n a → Ticks w v n a given

pub record TickRow {L : Language} (w : World L) (n : ℕ) (given : L.Given) (v : World L) : Type 0 where
  pub node : Node L
  pub found : w.node n ≡ Some node
  pub does : Unless w v node (Ticks w v n node given)

abbrev pub Row : {L : Language} → World L → Event L → World L → Type 0
Row w (Event.Start i master) v = StartRow w i master v
Row w (Event.Restart n file i) v = RestartRow w n file i v
Row w (Event.Client n) v = ClientRow w n v
Row w (Event.Dial n s) v = DialRow w n s v
Row w (Event.Connect n) v = ConnectRow w n v
Row w (Event.Accept l m) v = AcceptRow w l m v
Row w (Event.Command l bytes) v = CommandRow w l bytes v
Row w (Event.Deliver l Server n) v = DeliverToServer w l n v
Row w (Event.Deliver l Dialler n) v = DeliverToReplica w l n v ⊎ DeliverToClient w l n v
Row w (Event.Step l Server given fresh) v = StepOfServer w l given fresh v
Row w (Event.Step l Dialler given fresh) v = StepOfReplica w l v
Row w (Event.Tick n given) v = TickRow w n given v
Row w (Event.Break l Server) v = BreakOfServer w l v
Row w (Event.Break l Dialler) v = BreakOfReplica w l v ⊎ BreakOfClient w l v
