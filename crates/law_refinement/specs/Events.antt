-- What a call on a node of a World is, among the events of histories.
use Rattle.std.specs.Prelude.{◌≡◌, ◌≤◌, ◌+◌, ℕ, ℤ, List, Bool, true, false, None, Some, not, length, slice_get, slice_set}
use Rattle.std.specs.FinMap.{empty}
use Rattle.mr_keyspace.specs.Dataset.{Dataset}
use Rattle.mr_data.specs.declared.given.Given.{Given}
use Rattle.mr_links.specs.declared.link_id.LinkId.{LinkId}
use Rattle.mr_follower.specs.State.{FollowState}
use Rattle.mr_replication.specs.declared.upstream.UpstreamStep.{UpstreamStep}
use Rattle.mr_node_output.specs.Outs.{OutsState, no_outs}
use Rattle.mr_groups.specs.Folding.{MakesByGroups}
use Rattle.law_protocol.specs.History.{Book, Grows}
use Rattle.law_protocol.specs.Event as events
use Rattle.law_protocol.specs.Event.Side.{Server, Dialler}
use Rattle.law_protocol.specs.Changing.{Still}
use Rattle.law_protocol.specs.Rows.{Row}
use Rattle.law_protocol.specs.Invariant.{Invariant}
use Rattle.law_minired.specs.Minired.{minired}
use Rattle.law_minired.specs.Snapshots.{IsReadAs}
use Rattle.mr_node_links.specs.State.{Transaction}
use Rattle.mr_node_spec.specs.State.{Agrees, AgreesWithin, NodeState}
use Rattle.mr_node_spec.specs.Sound.{IsSound}
use Rattle.mr_node_spec.specs.ClientRows.{ClientRow}
use Rattle.mr_node_spec.specs.ClientRows as client
use Rattle.mr_node_spec.specs.Transactions.{WithinRow}
use Rattle.mr_node_spec.specs.ReplicaRows.{ReplicaRow}
use Rattle.mr_node_spec.specs.UpstreamRows as master
use Rattle.mr_node_spec.specs.TimeRows.{TickRow}
use Rattle.mr_node_spec.specs.LinkRows.{Opens, Dials, Feeds, closed_at}
use Rattle.law_refinement.specs.Way.{unread}
use Rattle.law_refinement.specs.State.{Link, Slot, WorldState}
use Rattle.law_refinement.specs.Seeing.{seen}
use Rattle.law_refinement.specs.Books.{entry_of, IsBook}
use Rattle.law_refinement.specs.Worlds.{IsWorld, no_world}
use Rattle.law_refinement.specs.Carrying.{stepped, followed, ticked, put_node, opened, connected, fed_server, fed_caller, broken, begun_slot, started_with, restarted_with, connecting, accepting}

-- From the one World to the other there is one event of histories: of the Worlds that are seen, with what is known of each id.
pub record IsEvent (w : WorldState) (book : Book minired) (e : events.Event minired) (v : WorldState) : Type 0 where
  pub new_book : Book minired
  pub kept : IsBook v.book new_book
  pub row : Row (seen w book) e (seen v new_book)

-- what is known of a World before an event
pub record Holds (w : WorldState) (book : Book minired) : Type 0 where
  pub world : IsWorld w
  pub kept : IsBook w.book book
  pub invariant : Invariant (seen w book)

-- The link l is k; the node that serves it has the slot s, and runs; and its end is open.
pub record IsServed (w : WorldState) (l : ℕ) (k : Link) (s : Slot) : Type 0 where
  pub found : slice_get w.links l ≡ Some k
  pub serving : k.serving ≡ true
  pub at : slice_get w.slots k.to ≡ Some s
  pub up : s.node.core.up ≡ true

abbrev pub ClientStepsAreRows : Type 0
ClientStepsAreRows = (w : WorldState) (book : Book minired) (l : ℕ) (k : Link) (s : Slot) (given : Given) (fresh : List ℕ) (b : NodeState) (outs : OutsState)
    → Holds w book → IsServed w l k s → Agrees s.node k.name (unread k.ask) → entry_of w.book fresh ≡ None
    → ClientRow s.node k.name (unread k.ask) given fresh b outs
    → IsEvent w book (events.Event.Step l Server given fresh) (stepped w k.to s l k b outs)

-- .. where a transaction is open
abbrev pub WithinStepsAreRows : Type 0
WithinStepsAreRows = (w : WorldState) (book : Book minired) (l : ℕ) (k : Link) (s : Slot) (t : Transaction) (given : Given) (fresh : List ℕ) (b : NodeState) (outs : OutsState)
    → Holds w book → IsServed w l k s → AgreesWithin s.node k.name t (unread k.ask)
    → WithinRow s.node k.name t (unread k.ask) given b outs
    → IsEvent w book (events.Event.Step l Server given fresh) (stepped w k.to s l k b outs)

abbrev pub ReplicaStepsAreRows : Type 0
ReplicaStepsAreRows = (w : WorldState) (book : Book minired) (l : ℕ) (k : Link) (s : Slot) (given : Given) (fresh : List ℕ) (b : NodeState) (outs : OutsState)
    → Holds w book → IsServed w l k s → k.streams ≡ true
    → ReplicaRow s.node k.name (unread k.ask) b outs
    → IsEvent w book (events.Event.Step l Server given fresh) (stepped w k.to s l k b outs)

-- at either end
abbrev pub IdleStepsAreRows : Type 0
IdleStepsAreRows = (w : WorldState) (book : Book minired) (l : ℕ) (k : Link) (s : Slot) (given : Given) (fresh : List ℕ) (b : NodeState)
    → Holds w book → IsServed w l k s
    → client.Idles s.node (unread k.ask) b
    → IsEvent w book (events.Event.Step l Server given fresh) (put_node w k.to s b)

-- A node stops in a step: it spent its dataset, or there is no memory for what it gave out.
abbrev pub StopsAreRows : Type 0
StopsAreRows = (w : WorldState) (book : Book minired) (l : ℕ) (k : Link) (s : Slot) (given : Given) (fresh : List ℕ) (b : NodeState)
    → Holds w book → IsServed w l k s
    → b.core.up ≡ false
    → IsEvent w book (events.Event.Step l Server given fresh) (put_node w k.to s b)

-- ---- the link to the master
-- The node n has the slot s and runs, and k is the link that it dialled last.
pub record IsFollowed (w : WorldState) (n : ℕ) (s : Slot) (k : Link) : Type 0 where
  pub at : slice_get w.slots n ≡ Some s
  pub found : slice_get w.links s.dialled ≡ Some k
  pub up : s.node.core.up ≡ true

abbrev pub MasterStepsAreRows : Type 0
MasterStepsAreRows = (w : WorldState) (book : Book minired) (n : ℕ) (s : Slot) (k : Link) (name : LinkId) (step : UpstreamStep) (given : Given) (fresh : List ℕ) (b : NodeState) (outs : OutsState)
    → Holds w book → IsFollowed w n s k
    → master.Hears s.node name step b outs
    → IsEvent w book (events.Event.Step s.dialled Dialler given fresh) (followed w n s k b outs)

abbrev pub WaitsAreRows : Type 0
WaitsAreRows = (w : WorldState) (book : Book minired) (n : ℕ) (s : Slot) (k : Link) (name : LinkId) (given : Given) (fresh : List ℕ) (b : NodeState)
    → Holds w book → IsFollowed w n s k
    → master.Waits s.node name b
    → IsEvent w book (events.Event.Step s.dialled Dialler given fresh) (followed w n s k b no_outs)

abbrev pub LacksAreUnseen : Type 0
LacksAreUnseen = (w : WorldState) (book : Book minired) (n : ℕ) (s : Slot) (k : Link) (name : LinkId) (b : NodeState)
    → Holds w book → IsFollowed w n s k
    → master.Lacks s.node name b
    → Still (seen w book) (seen (followed w n s k b no_outs) book)

abbrev pub SpendsAreRows : Type 0
SpendsAreRows = (w : WorldState) (book : Book minired) (n : ℕ) (s : Slot) (k : Link) (name : LinkId) (given : Given) (fresh : List ℕ) (b : NodeState)
    → Holds w book → IsFollowed w n s k
    → master.Spends s.node name b
    → IsEvent w book (events.Event.Step s.dialled Dialler given fresh) (put_node w n s b)

-- .. or there is no memory for what it gave out
abbrev pub MasterStopsAreRows : Type 0
MasterStopsAreRows = (w : WorldState) (book : Book minired) (n : ℕ) (s : Slot) (k : Link) (name : LinkId) (f : FollowState) (given : Given) (fresh : List ℕ) (b : NodeState)
    → Holds w book → IsFollowed w n s k → s.node.follow ≡ Some (name, f)
    → b.core.up ≡ false
    → IsEvent w book (events.Event.Step s.dialled Dialler given fresh) (put_node w n s b)

-- ---- time, and links that come and go
-- The node n has the slot s, and runs.
pub record IsRunning (w : WorldState) (n : ℕ) (s : Slot) : Type 0 where
  pub at : slice_get w.slots n ≡ Some s
  pub up : s.node.core.up ≡ true

abbrev pub TicksAreRows : Type 0
TicksAreRows = (w : WorldState) (book : Book minired) (n : ℕ) (s : Slot) (given : Given) (b : NodeState) (outs : OutsState)
    → Holds w book → IsRunning w n s
    → TickRow s.node given.now b outs
    → IsEvent w book (events.Event.Tick n given) (ticked w n s b outs)

-- Where there is no memory for what it gave out the node stops.
abbrev pub TickStopsAreRows : Type 0
TickStopsAreRows = (w : WorldState) (book : Book minired) (n : ℕ) (s : Slot) (given : Given) (b : NodeState)
    → Holds w book → IsRunning w n s
    → b.core.up ≡ false
    → IsEvent w book (events.Event.Tick n given) (put_node w n s b)

abbrev pub OpensAreRows : Type 0
OpensAreRows = (w : WorldState) (book : Book minired) (n : ℕ) (s : Slot) (name : LinkId) (b : NodeState)
    → Holds w book → IsRunning w n s
    → Opens s.node name b
    → IsEvent w book (events.Event.Client n) (opened w n s b name)

-- A node that has opened all links that it may stops instead.
abbrev pub OpenStopsAreRows : Type 0
OpenStopsAreRows = (w : WorldState) (book : Book minired) (n : ℕ) (s : Slot) (b : NodeState)
    → Holds w book → IsRunning w n s
    → b.core.up ≡ false
    → IsEvent w book (events.Event.Client n) (put_node w n s b)

-- A replica, n, that follows nobody dials m, which opens its end first. A node may dial itself.
abbrev pub DialsAreRows : Type 0
DialsAreRows = (w : WorldState) (book : Book minired) (n m : ℕ) (s t : Slot) (name at : LinkId) (b c : NodeState) (outs : OutsState)
    → Holds w book → IsRunning w m t → Opens t.node at c
    → slice_get (slice_set w.slots m (record t { node = c })) n ≡ Some s → s.node.core.up ≡ true
    → Dials s.node name b outs
    → IsEvent w book (events.Event.Dial n m) (connected w n s b name outs m t c at)

-- A replica, n, that follows nobody opens its end of a link, which a node accepts later or never;
abbrev pub ConnectsAreRows : Type 0
ConnectsAreRows = (w : WorldState) (book : Book minired) (n : ℕ) (s : Slot) (name : LinkId) (b : NodeState) (outs : OutsState)
    → Holds w book → IsRunning w n s
    → Dials s.node name b outs
    → IsEvent w book (events.Event.Connect n) (connecting w n s b name outs.reply)

-- .. or it stops instead.
abbrev pub ConnectStopsAreRows : Type 0
ConnectStopsAreRows = (w : WorldState) (book : Book minired) (n : ℕ) (s : Slot) (b : NodeState)
    → Holds w book → IsRunning w n s → s.node.core.master ≡ false → s.node.follow ≡ None
    → b.core.up ≡ false
    → IsEvent w book (events.Event.Connect n) (put_node w n s b)

-- The link l is k, and waits for a node to accept it.
pub record IsWaiting (w : WorldState) (l : ℕ) (k : Link) : Type 0 where
  pub found : slice_get w.links l ≡ Some k
  pub waits : k.waits ≡ true

-- A node, m, accepts a link that waits. The node that dialled may follow by it still, have left it or have stopped, or be m itself;
abbrev pub AcceptsAreRows : Type 0
AcceptsAreRows = (w : WorldState) (book : Book minired) (l m : ℕ) (k : Link) (t : Slot) (at : LinkId) (c : NodeState)
    → Holds w book → IsWaiting w l k → IsRunning w m t
    → Opens t.node at c
    → IsEvent w book (events.Event.Accept l m) (accepting w m t c at l k)

-- .. or m, which has opened all links that it may, stops instead.
abbrev pub AcceptStopsAreRows : Type 0
AcceptStopsAreRows = (w : WorldState) (book : Book minired) (l m : ℕ) (k : Link) (t : Slot) (c : NodeState)
    → Holds w book → IsWaiting w l k → IsRunning w m t
    → c.core.up ≡ false
    → IsEvent w book (events.Event.Accept l m) (put_node w m t c)

-- Bytes are fed at the server's end, of those that were sent there.
abbrev pub ServerFeedsAreRows : Type 0
ServerFeedsAreRows = (w : WorldState) (book : Book minired) (l : ℕ) (k : Link) (s : Slot) (count : ℕ) (bytes : List ℕ) (b : NodeState)
    → Holds w book → IsServed w l k s → k.ask.taken + count ≤ length k.ask.sent
    → Feeds s.node k.name bytes b
    → IsEvent w book (events.Event.Deliver l Server count) (fed_server w k.to s b l k count)

-- .. at the link to the master
abbrev pub MasterFeedsAreRows : Type 0
MasterFeedsAreRows = (w : WorldState) (book : Book minired) (n : ℕ) (s : Slot) (k : Link) (name : LinkId) (f : FollowState) (count : ℕ) (bytes : List ℕ) (b : NodeState)
    → Holds w book → IsFollowed w n s k → s.node.follow ≡ Some (name, f) → k.tell.taken + count ≤ length k.tell.sent
    → Feeds s.node name bytes b
    → IsEvent w book (events.Event.Deliver s.dialled Dialler count) (fed_caller w n s b s.dialled k count)

-- A link is closed at its server.
abbrev pub ServerBreaksAreRows : Type 0
ServerBreaksAreRows = (w : WorldState) (book : Book minired) (l : ℕ) (k : Link) (s : Slot) (b : NodeState)
    → Holds w book → IsServed w l k s
    → b ≡ closed_at k.name s.node
    → IsEvent w book (events.Event.Break l Server) (broken w k.to s b l k)

-- .. at the node that dialled it
abbrev pub MasterBreaksAreRows : Type 0
MasterBreaksAreRows = (w : WorldState) (book : Book minired) (n : ℕ) (s : Slot) (k : Link) (name : LinkId) (f : FollowState) (b : NodeState)
    → Holds w book → IsFollowed w n s k → s.node.follow ≡ Some (name, f)
    → b ≡ closed_at name s.node
    → IsEvent w book (events.Event.Break s.dialled Dialler) (put_node w n s b)

-- ---- nodes that begin
abbrev pub StartsAreRows : Type 0
StartsAreRows = (w : WorldState) (book : Book minired) (as_replica : Bool) (port backlog : ℕ) (id file : List ℕ)
    → Holds w book → entry_of w.book id ≡ None
    → IsEvent w book (events.Event.Start id (not as_replica)) (started_with w (begun_slot as_replica port backlog id empty file) id)

-- A node restarts in the role in which it started, from what its file is read as: these commands make that.
abbrev pub RestartsAreRows : Type 0
RestartsAreRows = (w : WorldState) (book : Book minired) (n : ℕ) (s : Slot) (as_replica : Bool) (port backlog : ℕ) (id found kept start : List ℕ) (m : Dataset)
    → Holds w book → slice_get w.slots n ≡ Some s → s.as_master ≡ not as_replica → entry_of w.book id ≡ None
    → IsReadAs found m → MakesByGroups start m
    → IsEvent w book (events.Event.Restart n found id) (restarted_with w n (begun_slot as_replica port backlog id m kept) id start)

-- ---- one event after another
-- What histories' laws rest on holds behind an event too, and the book of before is the beginning of that of after.
abbrev pub EventsKeepHistories : Type 0
EventsKeepHistories = (w : WorldState) (book : Book minired) (e : events.Event minired) (v : WorldState) → Holds w book → (x : IsEvent w book e v)
    → Invariant (seen v x.new_book) × Grows minired book x.new_book

-- All this is known of the World in which nothing has begun.
abbrev pub WorldsBegin : Type 0
WorldsBegin = Holds no_world (λ i. None)

-- ---- what is true of each World stays
-- .. behind a step at a client's end
abbrev pub ClientStepsKeepWorlds : Type 0
ClientStepsKeepWorlds = (w : WorldState) (l : ℕ) (k : Link) (s : Slot) (given : Given) (fresh : List ℕ) (b : NodeState) (outs : OutsState)
    → IsWorld w → IsServed w l k s → IsSound b
    → ClientRow s.node k.name (unread k.ask) given fresh b outs
    → IsWorld (stepped w k.to s l k b outs)

-- .. where a transaction is open
abbrev pub WithinStepsKeepWorlds : Type 0
WithinStepsKeepWorlds = (w : WorldState) (l : ℕ) (k : Link) (s : Slot) (t : Transaction) (given : Given) (b : NodeState) (outs : OutsState)
    → IsWorld w → IsServed w l k s → IsSound b
    → WithinRow s.node k.name t (unread k.ask) given b outs
    → IsWorld (stepped w k.to s l k b outs)

-- .. at a replica's end
abbrev pub ReplicaStepsKeepWorlds : Type 0
ReplicaStepsKeepWorlds = (w : WorldState) (l : ℕ) (k : Link) (s : Slot) (b : NodeState) (outs : OutsState)
    → IsWorld w → IsServed w l k s → IsSound b
    → ReplicaRow s.node k.name (unread k.ask) b outs
    → IsWorld (stepped w k.to s l k b outs)

-- .. and where a node stops
abbrev pub StopsKeepWorlds : Type 0
StopsKeepWorlds = (w : WorldState) (n : ℕ) (s : Slot) (b : NodeState) → IsWorld w → slice_get w.slots n ≡ Some s → b.core.up ≡ false → IsWorld (put_node w n s b)

-- .. behind a step at the link to the master
abbrev pub MasterStepsKeepWorlds : Type 0
MasterStepsKeepWorlds = (w : WorldState) (n : ℕ) (s : Slot) (k : Link) (name : LinkId) (step : UpstreamStep) (b : NodeState) (outs : OutsState)
    → IsWorld w → IsFollowed w n s k → IsSound b
    → master.Hears s.node name step b outs
    → IsWorld (followed w n s k b outs)

-- .. where nothing whole is there
abbrev pub WaitsKeepWorlds : Type 0
WaitsKeepWorlds = (w : WorldState) (n : ℕ) (s : Slot) (k : Link) (name : LinkId) (b : NodeState)
    → IsWorld w → IsFollowed w n s k → IsSound b
    → master.Waits s.node name b
    → IsWorld (followed w n s k b no_outs)

-- .. and where memory is lacking
abbrev pub LacksKeepWorlds : Type 0
LacksKeepWorlds = (w : WorldState) (n : ℕ) (s : Slot) (k : Link) (name : LinkId) (b : NodeState)
    → IsWorld w → IsFollowed w n s k → IsSound b
    → master.Lacks s.node name b
    → IsWorld (followed w n s k b no_outs)

-- In both nothing but the node may be another: its file, its links and the book are what they were.
abbrev pub WaitsChangeNodes : Type 0
WaitsChangeNodes = (w : WorldState) (n : ℕ) (s : Slot) (k : Link) (name : LinkId) (b : NodeState)
    → IsWorld w → IsFollowed w n s k
    → master.Waits s.node name b
    → followed w n s k b no_outs ≡ put_node w n s b

abbrev pub LacksChangeNodes : Type 0
LacksChangeNodes = (w : WorldState) (n : ℕ) (s : Slot) (k : Link) (name : LinkId) (b : NodeState)
    → IsWorld w → IsFollowed w n s k
    → master.Lacks s.node name b
    → followed w n s k b no_outs ≡ put_node w n s b

-- .. where a replica opens its end of a link, and where a node accepts it
abbrev pub ConnectsKeepWorlds : Type 0
ConnectsKeepWorlds = (w : WorldState) (n : ℕ) (s : Slot) (name : LinkId) (b : NodeState) (outs : OutsState)
    → IsWorld w → IsRunning w n s → IsSound b
    → Dials s.node name b outs
    → IsWorld (connecting w n s b name outs.reply)

abbrev pub AcceptsKeepWorlds : Type 0
AcceptsKeepWorlds = (w : WorldState) (l m : ℕ) (k : Link) (t : Slot) (at : LinkId) (c : NodeState)
    → IsWorld w → IsWaiting w l k → IsRunning w m t → IsSound c
    → Opens t.node at c
    → IsWorld (accepting w m t c at l k)

-- .. and behind a tick
abbrev pub TicksKeepWorlds : Type 0
TicksKeepWorlds = (w : WorldState) (n : ℕ) (s : Slot) (now : ℤ) (b : NodeState) (outs : OutsState)
    → IsWorld w → IsRunning w n s → IsSound b
    → TickRow s.node now b outs
    → IsWorld (ticked w n s b outs)
