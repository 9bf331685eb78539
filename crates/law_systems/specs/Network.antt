-- What an event of a turn makes of the connections: **what a read gives is the next piece of what the other
-- end wrote**. That is all that is asked of a network. A connection is accepted when it is, or never; it
-- may break at any time and at either end; and bytes that nobody reads are lost.
use Rattle.std.specs.Prelude.{◌≡◌, ◌≤◌, ◌+◌, ◌++◌, ℕ, List, [], ◌∷◌, None, Some, length, take, drop, slice_get, slice_set}
use Rattle.mr_links.specs.declared.link_id.LinkId.{LinkId}
use Rattle.mr_links.specs.declared.side.Side.{Side}
use Rattle.mr_loop.specs.Causes.{Act, at_dial, at_step, at_tick}
use Rattle.mr_loop.specs.Rows.{Event, acts, joins, spills, takes, tears, writes}
use Rattle.law_systems.specs.System.{Connection, End, Pipe, accepted_by, dialled_by, end_at, from_side, of_client, to_side, with_pipe_from, with_pipe_to}

-- The connection c is k, and this is its end there.
pub record HasEnd (cs : List Connection) (c : ℕ) (at : Side) (k : Connection) (e : End) : Type 0 where
  pub found : slice_get cs c ≡ Some k
  pub has : end_at at k ≡ Some e

-- **These bytes come next** of what was written and not read.
pub record IsNext (bytes : List ℕ) (p : Pipe) : Type 0 where
  pub written : p.read + length bytes ≤ length p.written
  pub next : bytes ≡ take (length bytes) (drop p.read p.written)

abbrev pub read_on : List ℕ → Pipe → Pipe
read_on bytes p = record p { read = p.read + length bytes }

abbrev pub written_on : List ℕ → Pipe → Pipe
written_on bytes p = record p { written = p.written ++ bytes }

-- The bytes are read at an end: those that the other end wrote come next. A client may have written
-- anything, and nothing is said of what it does.
pub data Reads (cs : List Connection) (e : End) (bytes : List ℕ) (ds : List Connection) : Type 0 where
  of_server : (c : ℕ) (at : Side) (k : Connection) → HasEnd cs c at k e → (dialler : End)
      → k.dialler ≡ Some dialler → IsNext bytes (to_side at k)
      → ds ≡ slice_set cs c (with_pipe_to at (read_on bytes (to_side at k)) k) → Reads cs e bytes ds
  from_client : (c : ℕ) (at : Side) (k : Connection) → HasEnd cs c at k e → k.dialler ≡ None → ds ≡ cs
      → Reads cs e bytes ds

-- .. or written there
pub record Writes (cs : List Connection) (e : End) (bytes : List ℕ) (ds : List Connection) : Type 0 where
  pub number : ℕ
  pub at : Side
  pub connection : Connection
  pub end : HasEnd cs number at connection e
  pub is : ds ≡ slice_set cs number (with_pipe_from at (written_on bytes (from_side at connection)) connection)

-- A server accepts the connection of a client, or one that waits.
pub data Accepts (cs : List Connection) (e : End) (ds : List Connection) : Type 0 where
  a_clients : ds ≡ cs ++ of_client e ∷ [] → Accepts cs e ds
  one_that_waits : (c : ℕ) (k : Connection) (dialler : End) → slice_get cs c ≡ Some k
      → k.dialler ≡ Some dialler → k.acceptor ≡ None → ds ≡ slice_set cs c (accepted_by e k)
      → Accepts cs e ds

-- In this life of a server, an event of its turns makes these connections of those.
module _ (server life : ℕ) where
  abbrev pub end_of : LinkId → End
  end_of socket = record { server = server; life = life; socket = socket }

  abbrev pub GoesBy : List Connection → Act → List Connection → Type 0
  GoesBy cs (at_step socket link given fresh news) ds = ds ≡ cs
  GoesBy cs (at_tick given) ds = ds ≡ cs
  GoesBy cs (at_dial socket link) ds = ds ≡ cs ++ dialled_by (end_of socket) ∷ []

  abbrev pub Goes : List Connection → Event → List Connection → Type 0
  Goes cs (joins socket link) ds = Accepts cs (end_of socket) ds
  Goes cs (takes socket bytes) ds = Reads cs (end_of socket) bytes ds
  Goes cs (writes socket bytes) ds = Writes cs (end_of socket) bytes ds
  Goes cs (acts act outs) ds = GoesBy cs act ds
  Goes cs (spills act outs) ds = GoesBy cs act ds
  Goes cs (tears act outs) ds = GoesBy cs act ds
  Goes cs _ ds = ds ≡ cs
