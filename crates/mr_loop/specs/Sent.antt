-- What the events of a turn come to: on one connection, and for the file.
use Rattle.std.specs.Prelude.{◌≡◌, ◌⊎◌, ℕ, List, [], ◌∷◌, ◌++◌, Bool, true, false, Option, Some, None, if◌then◌else◌, ◌||◌}
use Rattle.std.specs.Ordering.{eq_by_cmp}
use Rattle.std.specs.FinMap as map
use Rattle.mr_links.specs.LinkId.{id_cmp}
use Rattle.mr_links.specs.declared.link_id.LinkId.{LinkId}
use Rattle.mr_node_output.specs.Outs.{OutState, grow, append, replace, send, close, use_id, follow, halt, outs_of}
use Rattle.mr_wire.specs.Wire.{LinkState, SentState, WireState, sent_on}
use Rattle.mr_source.specs.Drawn.{DrawnState}
use Rattle.mr_file.specs.LogFile.{IsSynced}
use Rattle.mr_file.specs.declared.sync_mode.SyncMode.{SyncMode}
use Rattle.mr_file.specs.declared.sync_mode.SyncMode.TheVariants as sync
use Rattle.mr_connections.specs.State.{ConnectionState}
use Rattle.mr_loop.specs.declared.fault.LoopFault.{LoopFault}
use Rattle.mr_loop.specs.Stage.{Stage, connection_at}
use Rattle.mr_loop.specs.Rows.{Event, acts, breaks, closes, hears_end, is_deaf, is_refused, loses, misses, writes, Run}
use Rattle.mr_loop.specs.Outcomes.{BreaksDown}

-- ---- what outs come to, one after another

abbrev pub same : LinkId → LinkId → Bool
same x l = eq_by_cmp id_cmp l x

-- what is sent on a link, until it is closed
abbrev pub sends : LinkId → List OutState → List ℕ
sends l [] = []
sends l (grow bytes ∷ outs) = sends l outs
sends l (append bytes ∷ outs) = sends l outs
sends l (replace bytes ∷ outs) = sends l outs
sends l (send x bytes ∷ outs) = (if same x l then bytes else []) ++ sends l outs
sends l (close x ∷ outs) = if same x l then [] else sends l outs
sends l (use_id id ∷ outs) = sends l outs
sends l (follow address ∷ outs) = sends l outs
sends l (halt ∷ outs) = sends l outs

-- whether a link is closed
abbrev pub parts : LinkId → List OutState → Bool
parts l [] = false
parts l (grow bytes ∷ outs) = parts l outs
parts l (append bytes ∷ outs) = parts l outs
parts l (replace bytes ∷ outs) = parts l outs
parts l (send x bytes ∷ outs) = parts l outs
parts l (close x ∷ outs) = same x l || parts l outs
parts l (use_id id ∷ outs) = parts l outs
parts l (follow address ∷ outs) = parts l outs
parts l (halt ∷ outs) = parts l outs

-- a file with what they give out, once that is there: their texts behind all, or what it is replaced by
abbrev pub files : List OutState → List ℕ → List ℕ
files [] xs = xs
files (grow bytes ∷ outs) xs = files outs xs
files (append bytes ∷ outs) xs = files outs (xs ++ bytes)
files (replace bytes ∷ outs) xs = files outs bytes
files (send x bytes ∷ outs) xs = files outs xs
files (close x ∷ outs) xs = files outs xs
files (use_id id ∷ outs) xs = files outs xs
files (follow address ∷ outs) xs = files outs xs
files (halt ∷ outs) xs = files outs xs

-- ---- what events come to

-- what an event moved on a connection
abbrev pub moved_by : LinkId → Event → List ℕ
moved_by k (writes j bytes) = if same j k then bytes else []
moved_by k _ = []

-- what it lets wait for the connection whose link at the node is this
abbrev pub sent_by : LinkId → Event → List ℕ
sent_by l (acts act outs) = sends l (outs_of outs)
sent_by l _ = []

-- whether it closes the node's end of the link
abbrev pub parts_with : LinkId → Event → Bool
parts_with l (acts act outs) = parts l (outs_of outs)
parts_with l (hears_end j x) = same x l
parts_with l _ = false

-- whether it closes the connection
abbrev pub drops : LinkId → Event → Bool
drops k (loses j) = same j k
drops k (misses j) = same j k
drops k (is_refused j l given fresh) = same j k
drops k (is_deaf j l) = same j k
drops k (breaks j) = same j k
drops k (closes j) = same j k
drops k _ = false

-- a file with what an event gives out, once that is there
abbrev pub filed_by : Event → List ℕ → List ℕ
filed_by (acts act outs) xs = files (outs_of outs) xs
filed_by _ xs = xs

-- .. of events one after another
abbrev pub moved_in : LinkId → List Event → List ℕ
moved_in k [] = []
moved_in k (e ∷ es) = moved_by k e ++ moved_in k es

-- until the node's end of the link is closed
abbrev pub sent_in : Option LinkId → List Event → List ℕ
sent_in None es = []
sent_in (Some l) [] = []
sent_in (Some l) (e ∷ es) = sent_by l e ++ sent_in (if parts_with l e then None else Some l) es

abbrev pub filed_in : List Event → List ℕ → List ℕ
filed_in [] xs = xs
filed_in (e ∷ es) xs = filed_in es (filed_by e xs)

-- no event closes the connection
abbrev pub StaysIn : LinkId → List Event → Type 0
StaysIn k [] = Unit {0}
StaysIn k (e ∷ es) = (drops k e ≡ false) × StaysIn k es

-- A connection is still there. What was moved on it, with what waits there now, is what waited before with what the node sent on its link.
pub record IsInOrder (k : LinkId) (c : ConnectionState) (es : List Event) (t : Stage) : Type 0 where
  pub connection : ConnectionState
  pub there : connection_at t.own k ≡ Some connection
  pub in_order : moved_in k es ++ connection.waiting ≡ c.waiting ++ sent_in c.link es

-- **What the node sends goes out in order**: replies, and the stream to replicas, on each connection that isn't closed.
abbrev pub GoesOutInOrder : Type 0
GoesOutInOrder = (tells : Bool) (mode : SyncMode) (s t : Stage) (es : List Event) (k : LinkId) (c : ConnectionState) → connection_at s.own k ≡ Some c → Run tells mode s es t → StaysIn k es → IsInOrder k c es t

-- each connection's socket is an open link of the wire
pub record HaveSockets (s : Stage) : Type 0 where
  pub each : (k : LinkId) (c : ConnectionState) → connection_at s.own k ≡ Some c → (e : LinkState) × (map.get s.wire.open_links k ≡ Some e)

abbrev pub moved_of : Option LinkState → List ℕ
moved_of None = []
moved_of (Some e) = e.moved

-- the bytes that writes moved on a link of the wire
abbrev pub moved_on : WireState → LinkId → List ℕ
moved_on w l = moved_of (map.get w.open_links l)

-- Connections have their sockets where there is none, and go on having them.
abbrev pub HaveSocketsFirst : Type 0
HaveSocketsFirst = (s : Stage) → s.own.connections ≡ map.empty → HaveSockets s

abbrev pub HaveSocketsAlways : Type 0
HaveSocketsAlways = (tells : Bool) (mode : SyncMode) (s t : Stage) (es : List Event) → HaveSockets s → Run tells mode s es t → HaveSockets t

-- what a wire that tells its bytes tells of a connection, and what still waits
pub record IsTold (s : Stage) (k : LinkId) (c : ConnectionState) (es : List Event) (t : Stage) : Type 0 where
  pub connection : ConnectionState
  pub there : connection_at t.own k ≡ Some connection
  pub told : moved_on t.wire k ++ connection.waiting ≡ moved_on s.wire k ++ (c.waiting ++ sent_in c.link es)

-- **The wire has in order what the node sent.** What it moved on a connection, with what waits there, is what it had moved, what waited, and what the node sent on
-- its link since.
abbrev pub WireHasWhatIsSent : Type 0
WireHasWhatIsSent = (mode : SyncMode) (s t : Stage) (es : List Event) (k : LinkId) (c : ConnectionState) → HaveSockets s → connection_at s.own k ≡ Some c → Run true mode s es t → StaysIn k es → IsTold s k c es t

-- all that was sent, with what an event sends behind it
abbrev pub told_by : Event → List SentState → List SentState
told_by (writes j bytes) sent = sent_on j bytes sent
told_by _ sent = sent

abbrev pub told_in : List Event → List SentState → List SentState
told_in [] sent = sent
told_in (e ∷ es) sent = told_in es (told_by e sent)

-- **Nothing else is ever sent.** All that a wire which tells its bytes has sent, on links that are closed since too, is what it had sent and what the events that are writes
-- moved, one behind another.
abbrev pub SendsNothingElse : Type 0
SendsNothingElse = (mode : SyncMode) (s t : Stage) (es : List Event) → HaveSockets s → Run true mode s es t → t.wire.sent ≡ told_in es s.wire.sent

-- where nothing waits for the file, all its bytes are synced
abbrev pub IsSyncedWhole : Stage → Type 0
IsSyncedWhole s = s.own.batch ≡ [] → IsSynced s.told s.synced

-- what holds as a write is made, behind these events
pub record IsFiledFirst (tells : Bool) (mode : SyncMode) (s : Stage) (before : List Event) (k : LinkId) (c : ConnectionState) (bytes xs : List ℕ) : Type 0 where
  pub now : Stage
  pub run : Run tells mode s before now
  pub rest : List ℕ
  -- what was moved, with these bytes, is a beginning of what waited and of what the node sent before
  pub in_order : (moved_in k before ++ bytes) ++ rest ≡ c.waiting ++ sent_in c.link before
  -- the file has what it had, what waited for it, and the texts of all that was done before, or what replaced it and the texts since
  pub filed : now.told ≡ Some (filed_in before (xs ++ s.own.batch))
  -- with `Always` all of that is synced, if at first all was where nothing waited
  pub synced : mode ≡ sync.Always → IsSyncedWhole s → IsSynced now.told now.synced
  -- .. and if not, as behind a start, which reads a file and syncs none: unless nothing has gone into the file since
  pub covered : mode ≡ sync.Always → IsSynced now.told now.synced ⊎ (now.told ≡ s.told)

-- **What is sent is in the file**, to a client and to a replica. As bytes are moved, the node gave them out before, and the file has the texts of all that it
-- gave out by then.
abbrev pub IsSentOnceFiled : Type 0
IsSentOnceFiled = (tells : Bool) (mode : SyncMode) (s t : Stage) (before after : List Event) (k : LinkId) (c : ConnectionState) (bytes xs : List ℕ) → connection_at s.own k ≡ Some c → s.told ≡ Some xs
    → StaysIn k before → Run tells mode s (before ++ writes k bytes ∷ after) t → IsFiledFirst tells mode s before k c bytes xs

-- Each link is as it was, on one that is new nothing was moved, and nothing was sent on any that is closed since.
pub record IsSilent (a b : WireState) : Type 0 where
  pub each : (l : LinkId) (e : LinkState) → map.get a.open_links l ≡ Some e → map.get b.open_links l ≡ Some e
  pub new : (l : LinkId) (e : LinkState) → map.get a.open_links l ≡ None → map.get b.open_links l ≡ Some e → e.moved ≡ []
  pub sent : b.sent ≡ a.sent

-- **Behind a fault nothing is sent.** Each link of the wire is as it was before the last event.
abbrev pub IsSilentBehindFaults : Type 0
IsSilentBehindFaults = (tells : Bool) (mode : SyncMode) (unused : List (List ℕ)) (drawn after : DrawnState) (why : LoopFault) (s t : Stage) (b : BreaksDown tells mode unused drawn after why s t) → IsSilent b.broke.before.wire t.wire
