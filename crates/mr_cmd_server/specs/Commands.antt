-- What commands to the server itself are answered.
use Rattle.std.specs.Prelude.{List, ℕ, codes, Option, Some, None}
use Rattle.mr_resp.specs.Replies as reply
use Rattle.mr_resp.specs.Replies.{Tree}
use Rattle.mr_cmd_shared.specs.Answered.{done}
use Rattle.mr_cmd_server.specs.declared.server_ask.ServerAsk.{ServerAsk}
use Rattle.mr_cmd_server.specs.declared.server_ask.ServerAsk.TheVariants as ask
use Rattle.mr_cmd_shared.specs.Outcomes.{answered}
use Rattle.mr_cmd_shared.specs.Commands.{Command, on_none}

-- PING [message]
abbrev pub pong : Option (List ℕ) → Tree
pong None = reply.simple (codes "PONG")
pong (Some message) = reply.bytes message

-- BGREWRITEAOF
abbrev pub rewriting : Tree
rewriting = reply.simple (codes "Background append only file rewriting started")

-- INFO, ROLE and SHUTDOWN are answered by the node, and not from here
abbrev pub server_reply : ServerAsk → Tree
server_reply (ask.Ping message) = pong message
server_reply (ask.Echo message) = reply.bytes message
server_reply ask.Select = done
server_reply ask.Quit = done
server_reply ask.BgRewriteAof = rewriting
server_reply (ask.Info section) = done
server_reply ask.Role = done
server_reply (ask.Shutdown saving) = done
server_reply (ask.Command arguments) = reply.array reply.none
server_reply (ask.ClientSetName label) = done
server_reply (ask.ClientSetInfo attribute value) = done

-- what a command is
abbrev pub command : ServerAsk → Command
command it = on_none (answered (server_reply it))
