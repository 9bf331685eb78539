-- What a turn does: one event after another, each by its row. A row says what becomes of everything that a turn acts on.
use Rattle.std.specs.Prelude.{◌≡◌, ◌≢◌, ◌≤◌, ℕ, ℤ, List, [], ◌∷◌, Bool, true, false, Option, Some, None, Ok, Err, length, take}
use Rattle.std.specs.FinMap as map
use Rattle.mr_links.specs.declared.link_id.LinkId.{LinkId}
use Rattle.mr_data.specs.declared.given.Given.{Given}
use Rattle.mr_node_output.specs.Outs.{OutsState, outs_of}
use Rattle.mr_node_spec.specs.State.{NodeState, end_of, stopped_as}
use Rattle.mr_node_spec.specs.LinkRows.{Opens, closed_at}
use Rattle.mr_node.specs.declared.fault.NodeFault.TheVariants as refusal
use Rattle.mr_node.specs.declared.step.Step.TheVariants as step
use Rattle.mr_file.specs.LogFile.{Appends, AppendsSome, IsSynced, Rose}
use Rattle.mr_file.specs.declared.sync_mode.SyncMode.{SyncMode}
use Rattle.mr_file.specs.declared.sync_mode.SyncMode.TheVariants as sync
use Rattle.mr_wire.specs.Wire.{Accepts, AcceptsNone, WireState, behind_read, behind_write, count_of, is_over, bytes_moved}
use Rattle.mr_wire.specs.declared.wire.Moved.{Moved}
use Rattle.mr_wire.specs.declared.wire.Moved.TheVariants as moved
use Rattle.mr_connections.specs.State.{HasLink, begun, changed, parted, wrote}
use Rattle.mr_loop.specs.declared.fault.LoopFault.{LoopFault}
use Rattle.mr_loop.specs.declared.fault.LoopFault.TheVariants as fault
use Rattle.mr_node_spec.specs.TimeRows.{HasDue}
use Rattle.mr_node.specs.Calls.{FeedRow, IsUnread, OpensNoMore}
use Rattle.mr_node.specs.Parts.{role_of}
use Rattle.mr_loop.specs.declared.lacking.Asked.{Asked}
use Rattle.mr_loop.specs.declared.lacking.Asked.TheVariants as asked
use Rattle.mr_loop.specs.Lacking.{asked_at, told_or_none, told_with}
use Rattle.mr_loop.specs.News.{is_client_end, place_of}
use Rattle.mr_loop.specs.Stage.{Lacks, Stage, committed, connection_at, lacking, losing, with_connections}
use Rattle.mr_loop.specs.Carrying.{Carried, SameFile, Spilled, Torn}
use Rattle.mr_loop.specs.Causes.{Act, Calls, Dropped, Fed, Has, HasInput, HasRoom, IsBurdened, IsRead, IsStuck, Stepped, Stop, Stopping, Touches, TurnsOff}

-- what happens in a turn
pub data Event : Type 0 where
  -- the wire was waited on, and then the source was asked for the time
  wakes : (now : ℤ) → Event
  -- the wire was asked for a link, and nobody had opened one
  waits : Event
  -- the wire accepted a link, the node opened one, and they are a connection
  joins : (socket link : LinkId) → Event
  -- the wire failed as it was asked for a link, or the link was closed again, since memory ran out
  turns_away : Event
  -- these bytes were read, and fed to the node
  takes : (socket : LinkId) (bytes : List ℕ) → Event
  -- a read found nothing
  finds_none : (socket : LinkId) → Event
  -- a read found that the peer sends no more: the node's end is closed
  hears_end : (socket link : LinkId) → Event
  -- a read failed: the connection is closed
  loses : (socket : LinkId) → Event
  -- memory ran out for bytes that were read: the connection is closed
  misses : (socket : LinkId) → Event
  -- memory ran out for a step: the connection is closed
  is_refused : (socket link : LinkId) (given : Given) (fresh : List ℕ) → Event
  -- more waits than a client may leave unread: its connection is closed in place of a step
  is_deaf : (socket link : LinkId) → Event
  -- a step found nothing whole
  idles : (socket link : LinkId) (given : Given) (fresh : List ℕ) → Event
  -- the node did something, and what it gave out was carried out
  acts : (act : Act) (outs : OutsState) → Event
  -- .. and memory ran out for what it gave out: nobody is told
  spills : (act : Act) (outs : OutsState) → Event
  -- .. and the file failed as it was to be replaced: nobody is told
  tears : (act : Act) (outs : OutsState) → Event
  -- a write moved these bytes
  writes : (socket : LinkId) (bytes : List ℕ) → Event
  -- a write failed: the connection is closed
  breaks : (socket : LinkId) → Event
  -- all is written to a peer whose end the node has closed: the connection is closed
  closes : (socket : LinkId) → Event
  -- what no append had taken is in the file
  appends : (texts : List ℕ) → Event
  -- the file failed: a beginning of it is there
  fails : Event
  -- time was to pass, and memory ran out for it
  misses_tick : (given : Given) → Event
  -- the master couldn't be dialled
  misses_dial : Event
  -- whether the next turn goes on without waiting is settled
  settles : (hurries : Bool) → Event
  -- the node stopped
  stops : (stop : Stop) → Event

-- The fault that an event is told as. Behind one that is told as none the turn goes on, and behind any other it does nothing more.
abbrev pub fault_of : Event → Option LoopFault
fault_of (spills act outs) = Some fault.Stopped
fault_of (tears act outs) = Some fault.File
fault_of fails = Some fault.File
fault_of (stops stop) = Some fault.Stopped
fault_of _ = None

-- The wire says no less often behind a call that it failed.
pub record HasWaited (s t : Stage) : Type 0 where
  pub later : s.failed ≤ t.failed
  pub is : t ≡ record s { failed = t.failed }

pub record Joins (socket link : LinkId) (s t : Stage) : Type 0 where
  pub wire : Accepts s.wire socket t.wire
  pub later : s.failed ≤ t.failed
  pub node : Opens s.node link t.node
  pub fresh : connection_at s.own socket ≡ None
  pub connections : t.own.connections ≡ map.insert s.own.connections socket (begun link)
  pub batch : t.own.batch ≡ s.own.batch
  pub halted : t.own.halted ≡ s.own.halted
  pub hurries : t.own.hurries ≡ s.own.hurries
  pub lacked : t.own.lacked ≡ s.own.lacked
  pub file : SameFile s t

-- Why no connection comes of a link that was accepted or dialled: the wire failed, and there is none; memory ran out for it; or the node opens no more.
pub data TurnsAwayFor (what : Asked) (s t : Stage) : Type 0 where
  wire_failed : Rose s.failed t.failed → t.node ≡ s.node → t.own.lacked ≡ s.own.lacked → TurnsAwayFor what s t
  memory_lacked : Lacks what s.own t.own → TurnsAwayFor what s t
  opens_no_more : (stopped : NodeState) → OpensNoMore s.node stopped → t.node ≡ s.node → t.own.lacked ≡ s.own.lacked → TurnsAwayFor what s t

-- **No connection comes of what was accepted or dialled only at such a cause**, and the wire's link is closed again.
pub record TurnsAway (what : Asked) (s t : Stage) : Type 0 where
  pub wire : AcceptsNone s.wire t.wire
  pub later : s.failed ≤ t.failed
  pub node : TurnsOff s.node t.node
  pub own : t.own ≡ record s.own { lacked = t.own.lacked }
  pub why : TurnsAwayFor what s t
  pub file : SameFile s t

-- **A client is read of only where at most so much waits for it**, and nobody of more than the node takes; what is read is fed.
pub record Takes (tells : Bool) (socket : LinkId) (bytes : List ℕ) (s t : Stage) : Type 0 where
  pub link : LinkId
  pub read : IsRead s.node s.own socket link
  pub count : ℕ
  pub buffer : List ℕ
  pub bytes_are : bytes ≡ take count buffer
  pub room : HasRoom s.node link count
  pub wire : Touches s.wire socket (behind_read tells (moved.Bytes count) buffer) [] t.wire
  pub later : s.failed ≤ t.failed
  pub node : Fed s.node link bytes t.node
  pub own : t.own ≡ s.own
  pub file : SameFile s t

pub record FindsNone (tells : Bool) (socket : LinkId) (s t : Stage) : Type 0 where
  pub link : LinkId
  pub read : IsRead s.node s.own socket link
  pub answer : Moved
  pub buffer : List ℕ
  pub none : count_of answer ≡ 0
  pub goes_on : is_over answer ≡ false
  pub wire : Touches s.wire socket (behind_read tells answer buffer) [] t.wire
  pub later : s.failed ≤ t.failed
  pub node : t.node ≡ s.node
  pub own : t.own ≡ s.own
  pub file : SameFile s t

-- The peer sends no more. What waits for it is still written.
pub record HearsEnd (tells : Bool) (socket link : LinkId) (s t : Stage) : Type 0 where
  pub read : IsRead s.node s.own socket link
  pub buffer : List ℕ
  pub wire : Touches s.wire socket (behind_read tells moved.End buffer) [] t.wire
  pub later : s.failed ≤ t.failed
  pub node : t.node ≡ closed_at link s.node
  pub own : t.own ≡ with_connections (parted link) s.own
  pub file : SameFile s t

-- **A read failed**, as the wire counts.
pub record Loses (tells : Bool) (socket : LinkId) (s t : Stage) : Type 0 where
  pub link : LinkId
  pub read : IsRead s.node s.own socket link
  pub buffer : List ℕ
  pub wire : WireState
  pub touched : Touches s.wire socket (behind_read tells moved.Failed buffer) [] wire
  pub failed : ℕ
  pub rose : Rose s.failed failed
  pub dropped : Dropped socket (Some link) (record s { wire = wire; failed = failed }) t

-- Bytes were read, and the node had no memory for them, though room. It is remembered how many were unread with them.
pub record Misses (tells : Bool) (socket : LinkId) (s t : Stage) : Type 0 where
  pub link : LinkId
  pub read : IsRead s.node s.own socket link
  pub count : ℕ
  pub buffer : List ℕ
  pub wire : WireState
  pub touched : Touches s.wire socket (behind_read tells (moved.Bytes count) buffer) [] wire
  pub failed : ℕ
  pub later : s.failed ≤ failed
  pub refused : FeedRow s.node link (take count buffer) (length (take count buffer)) s.node (Err refusal.Memory)
  pub unread : Option ℕ
  pub counted : IsUnread s.node link unread
  pub dropped : Dropped socket (Some link) (record s { wire = wire; failed = failed; own = losing (asked.Bytes (told_with unread count)) s.own }) t

-- what a step for which memory ran out leaves, before its connection is closed: where that was is remembered, and how many bytes are unread there
abbrev pub behind_refusal : Stage → LinkId → NodeState → Option ℕ → Stage
behind_refusal s link node unread = record s { node = node; own = losing (asked_at (place_of (role_of s.node) (is_client_end (end_of s.node link))) (told_or_none unread)) s.own }

-- The node had no memory for a step.
pub record IsRefused (socket link : LinkId) (given : Given) (fresh : List ℕ) (s t : Stage) : Type 0 where
  pub has : HasLink s.own.connections socket link
  pub node : NodeState
  pub refused : Stepped s.node link given fresh node (Err refusal.Memory)
  pub unread : Option ℕ
  pub counted : IsUnread node link unread
  pub dropped : Dropped socket (Some link) (behind_refusal s link node unread) t

-- **In place of a step**: something is unread on a client's link, more waits for the client than it may leave so, and the last write to it moved nothing.
pub record IsDeaf (tells : Bool) (socket link : LinkId) (s t : Stage) : Type 0 where
  pub has : HasLink s.own.connections socket link
  pub input : HasInput s.node link
  pub burdened : IsBurdened s.node s.own socket link
  pub stuck : IsStuck tells s.wire socket
  pub dropped : Dropped socket (Some link) s t

pub record Idles (socket link : LinkId) (given : Given) (fresh : List ℕ) (s t : Stage) : Type 0 where
  pub has : HasLink s.own.connections socket link
  pub node : Stepped s.node link given fresh t.node (Ok step.Idle)
  pub same : t ≡ record s { node = t.node }

-- What the node gave out is carried out, in its order.
pub record Acts (act : Act) (outs : OutsState) (s t : Stage) : Type 0 where
  pub called : Stage
  pub calls : Calls act s called outs
  pub carried : Carried (outs_of outs) called t

pub record Spills (act : Act) (outs : OutsState) (s t : Stage) : Type 0 where
  pub called : Stage
  pub calls : Calls act s called outs
  pub spilled : Spilled (outs_of outs) called t

pub record Tears (act : Act) (outs : OutsState) (s t : Stage) : Type 0 where
  pub called : Stage
  pub calls : Calls act s called outs
  pub torn : Torn (outs_of outs) called t

-- **Only what is filed is sent**: nothing waits for the file as bytes are moved.
pub record Writes (tells : Bool) (socket : LinkId) (bytes : List ℕ) (s t : Stage) : Type 0 where
  pub filed : s.own.batch ≡ []
  pub link : Option LinkId
  pub waiting : List ℕ
  pub has : Has s.own socket link waiting
  pub answer : Moved
  pub goes_on : answer ≢ moved.Failed
  pub within : count_of answer ≤ length waiting
  pub bytes_are : bytes ≡ take (count_of answer) waiting
  pub wire : Touches s.wire socket (behind_write tells answer waiting) (bytes_moved tells answer waiting) t.wire
  pub later : s.failed ≤ t.failed
  pub own : t.own ≡ with_connections (changed socket (wrote (count_of answer))) s.own
  pub node : t.node ≡ s.node
  pub file : SameFile s t

-- **A write failed**, as the wire counts.
pub record Breaks (tells : Bool) (socket : LinkId) (s t : Stage) : Type 0 where
  pub filed : s.own.batch ≡ []
  pub link : Option LinkId
  pub waiting : List ℕ
  pub has : Has s.own socket link waiting
  pub wire : WireState
  pub touched : Touches s.wire socket (behind_write tells moved.Failed waiting) (bytes_moved tells moved.Failed waiting) wire
  pub failed : ℕ
  pub rose : Rose s.failed failed
  pub dropped : Dropped socket link (record s { wire = wire; failed = failed }) t

-- All that was sent is written, and the node has no end any more.
pub record Closes (socket : LinkId) (s t : Stage) : Type 0 where
  pub has : Has s.own socket None []
  pub dropped : Dropped socket None s t

-- What waits for the file is in it, synced where each append is.
pub record IsAppended (mode : SyncMode) (texts : List ℕ) (s t : Stage) : Type 0 where
  pub texts_are : texts ≡ s.own.batch
  pub written : Appends s.told t.told texts (length texts)
  pub synced : mode ≡ sync.Always → IsSynced t.told t.synced
  pub own : t.own ≡ committed s.own
  pub wire : t.wire ≡ s.wire
  pub failed : t.failed ≡ s.failed
  pub node : t.node ≡ s.node

pub record FailsAtFile (s t : Stage) : Type 0 where
  pub written : AppendsSome s.told t.told s.own.batch
  pub own : t.own ≡ s.own
  pub wire : t.wire ≡ s.wire
  pub failed : t.failed ≡ s.failed
  pub node : t.node ≡ s.node

-- The node had no memory for a tick at which something was due, and stays.
pub record MissesTick (given : Given) (s t : Stage) : Type 0 where
  pub up : s.node.core.up ≡ true
  pub due : HasDue s.node given.now
  pub is : t ≡ record s { own = lacking s.own }

pub record Settles (hurries : Bool) (s t : Stage) : Type 0 where
  pub is : t ≡ record s { own = record s.own { hurries = hurries } }

-- The node is stopped from here on, or was.
pub record IsStopped (stop : Stop) (s t : Stage) : Type 0 where
  pub why : Stopping stop s.node t.node
  pub own : t.own ≡ s.own
  pub wire : t.wire ≡ s.wire
  pub failed : t.failed ≡ s.failed
  pub file : SameFile s t

-- The node is told to stop: of all that a turn acts on nothing changes but that it is up.
pub record IsToldToStop (s t : Stage) : Type 0 where
  pub is : t ≡ record s { node = stopped_as s.node }

module _ (tells : Bool) (mode : SyncMode) where
  -- what an event makes of all that a turn acts on
  abbrev pub Happens : Stage → Event → Stage → Type 0
  Happens s (wakes now) t = HasWaited s t
  Happens s waits t = HasWaited s t
  Happens s (joins socket link) t = Joins socket link s t
  Happens s turns_away t = TurnsAway asked.Accept s t
  Happens s (takes socket bytes) t = Takes tells socket bytes s t
  Happens s (finds_none socket) t = FindsNone tells socket s t
  Happens s (hears_end socket link) t = HearsEnd tells socket link s t
  Happens s (loses socket) t = Loses tells socket s t
  Happens s (misses socket) t = Misses tells socket s t
  Happens s (is_refused socket link given fresh) t = IsRefused socket link given fresh s t
  Happens s (is_deaf socket link) t = IsDeaf tells socket link s t
  Happens s (idles socket link given fresh) t = Idles socket link given fresh s t
  Happens s (acts act outs) t = Acts act outs s t
  Happens s (spills act outs) t = Spills act outs s t
  Happens s (tears act outs) t = Tears act outs s t
  Happens s (writes socket bytes) t = Writes tells socket bytes s t
  Happens s (breaks socket) t = Breaks tells socket s t
  Happens s (closes socket) t = Closes socket s t
  Happens s (appends texts) t = IsAppended mode texts s t
  Happens s fails t = FailsAtFile s t
  Happens s (misses_tick given) t = MissesTick given s t
  Happens s misses_dial t = TurnsAway asked.Dial s t
  Happens s (settles hurries) t = Settles hurries s t
  Happens s (stops stop) t = IsStopped stop s t

  -- these events one after another, behind each of which the turn goes on
  abbrev pub Run : Stage → List Event → Stage → Type 0
  Run s [] t = t ≡ s
  Run s (e ∷ es) t = (mid : Stage) × (fault_of e ≡ None) × Happens s e mid × Run mid es t

  -- Some events lead from the one to the other, one after another, and behind each of them the turn goes on.
  pub record Went (s t : Stage) : Type 0 where
    pub events : List Event
    pub run : Run s events t
