-- The names of commands to the server itself.
use Rattle.mr_arguments.specs.declared.name.Name.{Name}
use Rattle.mr_arguments.specs.declared.name.Name.TheVariants as name
use Rattle.mr_cmd_server.specs.declared.server_ask.ServerAsk.{ServerAsk}
use Rattle.mr_cmd_server.specs.declared.server_ask.ServerAsk.TheVariants as server

-- of a command to the server itself
abbrev pub server_name : ServerAsk → Name
server_name (server.Ping message) = name.Ping
server_name (server.Echo message) = name.Echo
server_name server.Select = name.Select
server_name server.Quit = name.Quit
server_name server.BgRewriteAof = name.BgRewriteAof
server_name (server.Info section) = name.Info
server_name server.Role = name.Role
server_name (server.Shutdown saving) = name.Shutdown
server_name (server.Command arguments) = name.Command
server_name (server.ClientSetName label) = name.Client
server_name (server.ClientSetInfo attribute value) = name.Client
