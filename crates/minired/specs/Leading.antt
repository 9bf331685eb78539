-- Which of the node's links a socket's connection has.
use Rattle.std.specs.Prelude.{Option, None, Some}
use Rattle.mr_links.specs.declared.link_id.LinkId.{LinkId}
use Rattle.mr_connections.specs.State.{ConnectionState}
use Rattle.mr_loop.specs.Stage.{LoopState, connection_at}

-- none where there is no connection, or once the node has closed its end
abbrev pub link_in : Option ConnectionState → Option LinkId
link_in None = None
link_in (Some c) = c.link

-- the node's link of the connection under the name of a socket
abbrev pub link_at : LoopState → LinkId → Option LinkId
link_at own socket = link_in (connection_at own socket)
