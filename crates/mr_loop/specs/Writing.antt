-- What a write leaves of a connection with a link.
use Rattle.std.specs.Prelude.{◌≡◌, ◌<◌, ◌⊎◌, List, [], ℕ, Bool, Option, None, Some, length}
use Rattle.mr_links.specs.declared.link_id.LinkId.{LinkId}
use Rattle.mr_node_spec.specs.State.{NodeState}
use Rattle.mr_node_spec.specs.LinkRows.{closed_at}
use Rattle.mr_wire.specs.Wire.{WireState}
use Rattle.mr_connections.specs.State.{ConnectionState, HasLink}
use Rattle.mr_loop.specs.declared.writing.Wrote.{Wrote}
use Rattle.mr_loop.specs.declared.writing.Wrote.TheVariants as wrote
use Rattle.mr_loop.specs.Causes.{IsStuck}
use Rattle.mr_loop.specs.Stage.{LoopState, connection_at}

abbrev pub waiting_of : Option ConnectionState → List ℕ
waiting_of None = []
waiting_of (Some c) = c.waiting

-- what waits on a connection, nothing where there is none
abbrev pub waiting_at : LoopState → LinkId → List ℕ
waiting_at o socket = waiting_of (connection_at o socket)

-- It is there with its link, and what a write can move was moved: nothing waits, or the last write moved nothing.
pub record IsWritten (tells : Bool) (wire : WireState) (socket link : LinkId) (o : LoopState) : Type 0 where
  pub has : HasLink o.connections socket link
  pub all : (waiting_at o socket ≡ []) ⊎ IsStuck tells wire socket

-- It is there with its link, and less waits; or as much, and no more can be moved; or the node's end is closed with it.
abbrev pub WroteOn : Bool → Wrote → WireState → LinkId → LinkId → NodeState → NodeState → LoopState → LoopState → Type 0
WroteOn tells wrote.Whole wire socket link a b o p = (b ≡ a) × HasLink p.connections socket link × (length (waiting_at p socket) < length (waiting_at o socket))
WroteOn tells wrote.Some wire socket link a b o p = (b ≡ a) × HasLink p.connections socket link × (length (waiting_at p socket) < length (waiting_at o socket))
WroteOn tells wrote.Nothing wire socket link a b o p = (b ≡ a) × IsWritten tells wire socket link p
WroteOn tells wrote.Gone wire socket link a b o p = b ≡ closed_at link a
