-- The words that a command to the server itself carries.
use Rattle.std.specs.Prelude.{ℕ, List, [], ◌∷◌, Some, None}
use Rattle.mr_cmd_server.specs.declared.server_ask.ServerAsk.{ServerAsk}
use Rattle.mr_cmd_server.specs.declared.server_ask.ServerAsk.TheVariants as server

-- of a command to the server itself
abbrev pub server_words : ServerAsk → List (List ℕ)
server_words (server.Ping None) = []
server_words (server.Ping (Some message)) = message ∷ []
server_words (server.Echo message) = message ∷ []
server_words server.Select = []
server_words server.Quit = []
server_words server.BgRewriteAof = []
server_words (server.Info None) = []
server_words (server.Info (Some section)) = section ∷ []
server_words server.Role = []
server_words (server.Shutdown saving) = []
server_words (server.Command arguments) = arguments
server_words (server.ClientSetName label) = label ∷ []
server_words (server.ClientSetInfo attribute value) = attribute ∷ value ∷ []
