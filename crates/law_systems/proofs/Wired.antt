-- What is true of servers and their connections whatever happens, with no World beside them.
use Rattle.std.proofs.Common.{◌≡◌, ◌≤◌, ◌<◌, ℕ, true, Some}
use Rattle.std.specs.Prelude.{slice_get}
use Rattle.mr_links.specs.declared.link_id.LinkId.{LinkId}
use Rattle.mr_connections.specs.State.{AreToldApart, ConnectionState}
use Rattle.mr_links.specs.declared.side.Side.{Side}
use Rattle.mr_loop.specs.Stage.{Stage, connection_at}
use Rattle.law_systems.specs.System.{Connection, End, IsAt, Server, System}
use Rattle.law_systems.specs.Network.{HasEnd, end_of}

-- The node runs; no two connections of the loop have one link of it, and each such link is one that it opened or dialled.
pub record IsKeptStage (s : Stage) : Type 0 where
  pub up : s.node.core.up ≡ true
  pub apart : AreToldApart s.own.connections
  pub older : (socket : LinkId) (c : ConnectionState) (link : LinkId) → connection_at s.own socket ≡ Some c → c.link ≡ Some link → link.generation < s.node.ends.opened

-- The server of an end is there, and the end is of this or an earlier life of it.
pub record IsPast (x : System) (e : End) : Type 0 where
  pub server : Server
  pub found : slice_get x.servers e.server ≡ Some server
  pub life : e.life ≤ server.life

-- The connection of a server's loop is this side of this one.
pub record IsAttached (x : System) (e : End) : Type 0 where
  pub number : ℕ
  pub at : Side
  pub connection : Connection
  pub end : HasEnd x.connections number at connection e

pub record IsWired (x : System) : Type 0 where
  -- a running loop's connection is a side of one of all
  pub attached : (n life : ℕ) (s : Stage) (socket : LinkId) (c : ConnectionState) → IsAt x n life s → connection_at s.own socket ≡ Some c → IsAttached x (end_of n life socket)
  -- no two sides have one end
  pub apart : (c d : ℕ) (at to : Side) (k m : Connection) (e : End) → HasEnd x.connections c at k e → HasEnd x.connections d to m e → (c ≡ d) × (at ≡ to)
  pub past : (c : ℕ) (at : Side) (k : Connection) (e : End) → HasEnd x.connections c at k e → IsPast x e
  -- the wire's next name is newer than those of all ends of this life
  pub older : (c : ℕ) (at : Side) (k : Connection) (e : End) (s : Stage) → HasEnd x.connections c at k e → IsAt x e.server e.life s → e.socket.generation < s.wire.opened
  pub kept : (n life : ℕ) (s : Stage) → IsAt x n life s → IsKeptStage s
