-- What a contract sees of a course, and what may become of it.
use Rattle.std.specs.Prelude.{◌≡◌, ℕ, List, Bool, true, false, Option, None, Some, IfSome, length}
use Rattle.mr_links.specs.declared.link_id.LinkId.{LinkId}
use Rattle.mr_repl.specs.Lineage.{LineageState, begun, grown, renamed, continued}
use Rattle.mr_follower.specs.State.{FollowState, Agrees, started, heard}
use Rattle.mr_follower.specs.declared.phase.Phase.{Phase}
use Rattle.mr_follower.specs.declared.phase.Phase.TheVariants as phase

-- Whether the node is a master; whether it has something to continue; its stream; and the name of the link to its master, with
-- what reads there.
pub record CourseState : Type 0 where
  pub master : Bool
  pub offers : Bool
  pub lineage : LineageState
  pub follow : Option (LinkId × FollowState)

-- what it may go on from: the last byte of its stream, if it has something to continue
abbrev pub offer_of : Bool → LineageState → Option (List ℕ × ℕ)
offer_of true a = Some (a.id, a.stream.offset)
offer_of false a = None

-- Until PSYNC is answered the offer is the course's own. Who is in the stream has something to continue.
abbrev pub FitsIn : Phase → Option (List ℕ × ℕ) → Bool → LineageState → Type 0
FitsIn phase.Ping offer offers a = offer ≡ offer_of offers a
FitsIn phase.Port offer offers a = offer ≡ offer_of offers a
FitsIn phase.Capabilities offer offers a = offer ≡ offer_of offers a
FitsIn phase.Psync offer offers a = offer ≡ offer_of offers a
FitsIn (phase.Snapshot id offset) offer offers a = Unit {0}
FitsIn phase.Stream offer offers a = offers ≡ true

-- some bytes can be those that were fed and aren't used
pub record HasUnread (f : FollowState) : Type 0 where
  pub unread : List ℕ
  pub agrees : Agrees f unread

-- A master follows nobody.
pub record IsReader (master offers : Bool) (a : LineageState) (f : FollowState) : Type 0 where
  pub replica : master ≡ false
  pub fits : FitsIn f.phase f.offer offers a
  pub has : HasUnread f

pub record IsCourse (c : CourseState) : Type 0 where
  pub reader : IfSome c.follow (λ f. IsReader c.master c.offers c.lineage f.1)

-- ---- what is told of it
-- the name of the link to the master
abbrev pub name_of : Option (LinkId × FollowState) → Option LinkId
name_of None = None
name_of (Some f) = Some f.0

-- what is waited for there
abbrev pub phase_of : Option (LinkId × FollowState) → Option Phase
phase_of None = None
phase_of (Some f) = Some f.1.phase

-- how many bytes were fed there and aren't used
abbrev pub CountsUnread : Option (LinkId × FollowState) → ℕ → Type 0
CountsUnread None count = count ≡ 0
CountsUnread (Some f) count = (u : List ℕ) → Agrees f.1 u → count ≡ length u

-- ---- what becomes of it
-- a link to the master is there
abbrev pub dialled : LinkId → ℕ → CourseState → CourseState
dialled name port c = record c { follow = Some (name, started (offer_of c.offers c.lineage) port) }

-- it is gone
abbrev pub left : CourseState → CourseState
left c = record c { follow = None }

-- it is gone, and there is nothing to continue
abbrev pub spoiled : CourseState → CourseState
spoiled c = record c { follow = None; offers = false }

-- The node is a master, nobody is followed, and the stream goes on under a fresh id.
abbrev pub promoted : List ℕ → CourseState → CourseState
promoted fresh c = record { master = true; offers = true; lineage = renamed fresh c.lineage; follow = None }

-- a master becomes a replica, which has its stream to continue
abbrev pub obeys : CourseState → CourseState
obeys c = record c { master = false; offers = true }

-- the stream has its next bytes
abbrev pub grows : List ℕ → CourseState → CourseState
grows bytes c = record c { lineage = grown c.lineage bytes }

-- the master sent more
abbrev pub hears_more : List ℕ → Option (LinkId × FollowState) → Option (LinkId × FollowState)
hears_more bytes None = None
hears_more bytes (Some f) = Some (f.0, heard f.1 bytes)

abbrev pub fed : List ℕ → CourseState → CourseState
fed bytes c = record c { follow = hears_more bytes c.follow }

-- what reads at the link to the master is this now
abbrev pub reads_on : LinkId → FollowState → CourseState → CourseState
reads_on name f c = record c { follow = Some (name, f) }

-- the master goes on with the stream, under this id
abbrev pub continues_as : List ℕ → CourseState → CourseState
continues_as id c = record c { lineage = continued id c.lineage }

-- the stream is the master's, from behind this offset on, and there is something to continue
abbrev pub adopts : List ℕ → ℕ → CourseState → CourseState
adopts id offset c = record c { lineage = begun id c.lineage.stream.capacity offset; offers = true }
