-- Several servers, and the connections that they have with one another and with clients.
use Rattle.std.specs.Prelude.{◌≡◌, ◌||◌, ℕ, List, [], ◌∷◌, Bool, false, Option, None, Some, bytes_eq, slice_get}
use Rattle.mr_links.specs.declared.link_id.LinkId.{LinkId}
use Rattle.mr_repl.specs.ReplId.{zero_id}
use Rattle.mr_links.specs.declared.side.Side.{Side}
use Rattle.mr_links.specs.declared.side.Side.TheVariants as side
use Rattle.mr_loop.specs.Stage.{Stage}

-- ---- connections
-- what was written one way on a connection, and how many bytes of it were read
pub record Pipe : Type 0 where
  pub written : List ℕ
  pub read : ℕ

abbrev pub nothing_written : Pipe
nothing_written = record { written = []; read = 0 }

-- a server's end of a connection: its socket, in this of the lives of the server. A name of a socket may
-- come again in another life.
pub record End : Type 0 where
  pub server : ℕ
  pub life : ℕ
  pub socket : LinkId

-- A connection. A client's has no server that dialled it; one that a server dialled and none has accepted
-- yet waits.
pub record Connection : Type 0 where
  pub dialler : Option End
  pub acceptor : Option End
  pub asked : Pipe  -- from the dialler
  pub answered : Pipe  -- to the dialler

-- a client's, which a server accepted
abbrev pub of_client : End → Connection
of_client e = record { dialler = None; acceptor = Some e; asked = nothing_written; answered = nothing_written }

-- one that a server dialled, and that waits
abbrev pub dialled_by : End → Connection
dialled_by e = record { dialler = Some e; acceptor = None; asked = nothing_written; answered = nothing_written }

-- one on which a server asked its own node, before its first turn: no end of it is left
abbrev pub of_itself : Connection
of_itself = record { dialler = None; acceptor = None; asked = nothing_written; answered = nothing_written }

abbrev pub accepted_by : End → Connection → Connection
accepted_by e k = record k { acceptor = Some e }

-- ---- its two sides
abbrev pub end_at : Side → Connection → Option End
end_at side.Opener k = k.dialler
end_at side.Server k = k.acceptor

-- what goes to a side, and from it
abbrev pub to_side : Side → Connection → Pipe
to_side side.Opener k = k.answered
to_side side.Server k = k.asked

abbrev pub from_side : Side → Connection → Pipe
from_side side.Opener k = k.asked
from_side side.Server k = k.answered

-- with another pipe to a side, or from it
abbrev pub with_pipe_to : Side → Pipe → Connection → Connection
with_pipe_to side.Opener p k = record k { answered = p }
with_pipe_to side.Server p k = record k { asked = p }

abbrev pub with_pipe_from : Side → Pipe → Connection → Connection
with_pipe_from side.Opener p k = record k { asked = p }
with_pipe_from side.Server p k = record k { answered = p }

-- ---- servers
-- what a server does
pub data Doing : Type 0 where
  -- its program doesn't run
  rests : Doing
  -- it makes turns
  runs : Stage → Doing
  -- a turn met a fault, behind which nothing is done but that the node is told to stop
  gives_up : Stage → Doing

-- A server, and how often it was started before.
pub record Server : Type 0 where
  pub life : ℕ
  pub doing : Doing

pub record System : Type 0 where
  pub servers : List Server
  pub connections : List Connection
  pub ids : List (List ℕ)  -- that were taken, at starts and in steps; and that of zeros, which none is given

-- nothing has begun
abbrev pub no_system : System
no_system = record { servers = []; connections = []; ids = zero_id ∷ [] }

abbrev pub is_taken : List (List ℕ) → List ℕ → Bool
is_taken [] id = false
is_taken (x ∷ ids) id = bytes_eq x id || is_taken ids id

-- The server of this number makes turns, in this life, at this stage.
pub record IsAt (x : System) (n life : ℕ) (s : Stage) : Type 0 where
  pub found : slice_get x.servers n ≡ Some (record { life = life; doing = runs s })
