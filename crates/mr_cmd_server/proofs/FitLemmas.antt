-- The words that a command to the server itself carries are those among its arguments.
use Rattle.std.proofs.Common.{◌≡◌, refl, Some, None}
use Rattle.mr_cmd_server.specs.Carried.{server_words}
use Rattle.mr_cmd_server.specs.Spelled.{server_parts}
use Rattle.mr_arguments.proofs.FitLemmas.{carried, carried-words}
use Rattle.mr_cmd_server.specs.declared.server_ask.ServerAsk.{ServerAsk}
use Rattle.mr_cmd_server.specs.declared.server_ask.ServerAsk.TheVariants as server

pub carried_server : (a : ServerAsk) → carried (server_parts a) ≡ server_words a
unfolding carried
carried_server server.Select = refl
carried_server (server.ClientSetName name) = refl
carried_server (server.ClientSetInfo attribute value) = refl
carried_server (server.Shutdown None) = refl
carried_server (server.Shutdown (Some saving)) = refl
carried_server a = carried-words (server_words a)
