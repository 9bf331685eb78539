-- What a wire tells of its links, and what each call makes of them.
use Rattle.std.specs.Prelude.{◌≡◌, ℕ, ◌+◌, ◌-◌, ◌^◌, ◌≤◌, ◌==◌, List, [], ◌∷◌, ◌++◌, Bool, true, false, ◌||◌, Option, Some, None, take, min, if◌then◌else◌, nat_le, IfSome}
use Rattle.std.specs.FinMap as map
use Rattle.std.specs.List.{find}
use Rattle.mr_links.specs.LinkId.{id_cmp}
use Rattle.mr_links.specs.declared.link_id.LinkId.{LinkId}
use Rattle.mr_links.specs.Links.{Links}
use Rattle.std.specs.declared.net.socket_addr.SocketAddrV4.{SocketAddrV4}
use Rattle.mr_wire.specs.Peer.{Names}
use Rattle.mr_wire.specs.declared.wire.Moved.{Moved}
use Rattle.mr_wire.specs.declared.wire.Moved.TheVariants as moved
use Rattle.mr_wire.specs.declared.waited.Waited.{Waited}

-- what a wire tells of an open link
pub record LinkState : Type 0 where
  pub given : List ℕ  -- the bytes that its reads gave
  pub moved : List ℕ  -- the bytes that its writes moved
  pub ended : Bool  -- a read or a write of it answered that it ended or failed
  pub asked : Option SocketAddrV4  -- the peer that it was asked for, if this end opened it
  pub stuck : Bool  -- the last write of it moved nothing

-- Bytes that a write moved on a link.
pub record SentState : Type 0 where
  pub link : LinkId
  pub bytes : List ℕ

-- What a wire tells: its open links, how many there ever were, and all that was sent, **also on links that are closed since**, the newest first.
pub record WireState : Type 0 where
  pub open_links : map.FinMap id_cmp LinkState
  pub opened : ℕ
  pub sent : List SentState

-- a wire with these links, which has sent this
abbrev pub wire_of : Links LinkState → List SentState → WireState
wire_of links sent = record { open_links = links.open_links; opened = links.opened; sent = sent }

-- what is sent with these bytes behind it, if there are any
abbrev pub sent_on : LinkId → List ℕ → List SentState → List SentState
sent_on l [] sent = sent
sent_on l (b ∷ bytes) sent = record { link = l; bytes = b ∷ bytes } ∷ sent

-- a link that a peer opened
abbrev pub new_link : LinkState
new_link = record { given = []; moved = []; ended = false; asked = None; stuck = false }

-- a link that this peer was asked for
abbrev pub asked_link : SocketAddrV4 → LinkState
asked_link peer = record new_link { asked = Some peer }

-- how many bytes a call moved
abbrev pub count_of : Moved → ℕ
count_of (moved.Bytes n) = n
count_of moved.NotReady = 0
count_of moved.End = 0
count_of moved.Failed = 0

-- whether it answered that the link ended or failed
abbrev pub is_over : Moved → Bool
is_over (moved.Bytes n) = false
is_over moved.NotReady = false
is_over moved.End = true
is_over moved.Failed = true

-- whether it moved nothing
abbrev pub moves_none : Moved → Bool
moves_none (moved.Bytes n) = n == 0
moves_none moved.NotReady = true
moves_none moved.End = true
moves_none moved.Failed = true

-- the bytes, of a wire that tells them
abbrev pub told : Bool → List ℕ → List ℕ
told tells bytes = if tells then bytes else []

-- a link behind a read with this answer, which left these bytes in the buffer
abbrev pub behind_read : Bool → Moved → List ℕ → LinkState → LinkState
behind_read tells m buffer e = record e { given = e.given ++ told tells (take (count_of m) buffer); ended = e.ended || is_over m }

-- a link of a wire that tells, with what a write of these bytes moved
abbrev pub written : Moved → List ℕ → LinkState → LinkState
written m bytes e = record e { moved = e.moved ++ take (count_of m) bytes; ended = e.ended || is_over m }

-- a link behind a write of these bytes with this answer. A wire that tells its bytes tells, too, whether a write moved none.
abbrev pub behind_write : Bool → Moved → List ℕ → LinkState → LinkState
behind_write tells m bytes e = record e { moved = e.moved ++ told tells (take (count_of m) bytes); ended = e.ended || is_over m; stuck = if tells then moves_none m else e.stuck }

-- the bytes that a write moved, of a wire that tells them
abbrev pub bytes_moved : Bool → Moved → List ℕ → List ℕ
bytes_moved tells m bytes = told tells (take (count_of m) bytes)

-- the link is open, becomes what this makes of it, and these bytes are sent on it; and nothing else
abbrev pub ChangesLink : WireState → LinkId → (LinkState → LinkState) → List ℕ → WireState → Type 0
ChangesLink a l f bytes b = IfSome (map.get a.open_links l) (λ e. b ≡ record a { open_links = map.insert a.open_links l (f e); sent = sent_on l bytes a.sent })

-- A new link in this state under a name that was never given before, and nothing else.
pub record Opens (a : WireState) (l : LinkId) (e : LinkState) (b : WireState) : Type 0 where
  pub generation : l.generation ≡ a.opened
  pub fresh : map.get a.open_links l ≡ None
  pub links : b ≡ record a { open_links = map.insert a.open_links l e; opened = a.opened + 1 }

-- a peer opened a link
abbrev pub Accepts : WireState → LinkId → WireState → Type 0
Accepts a l b = Opens a l new_link b

-- a link is opened to the peer that this host and this port name
abbrev pub Connects : WireState → List ℕ → ℕ → LinkId → WireState → Type 0
Connects a host port l b = (peer : SocketAddrV4) × Names host port peer × Opens a l (asked_link peer) b

-- No link is opened. A name may be spent on a link that isn't there.
pub record AcceptsNone (a b : WireState) : Type 0 where
  pub links : b.open_links ≡ a.open_links
  pub opened : a.opened ≤ b.opened
  pub sent : b.sent ≡ a.sent

-- the first open link at this place or behind it
abbrev pub first_from : ℕ → Links LinkState → Option LinkId
first_from place a = find (λ (l : LinkId). nat_le place l.index) (map.keys a.open_links)

-- It is asked to wait once, for so many milliseconds. How often it was is counted up to the greatest number.
pub record WaitsOnce (millis : ℕ) (before after : Waited) : Type 0 where
  pub counted : after.times ≡ min (before.times + 1) (2 ^ 64 - 1)
  pub for_so_long : after.millis ≡ millis
