-- Where a transaction is open, what a request comes to tells what it asks.
use Rattle.std.proofs.Common.{◌≡◌, List, Bool, true, false, refl, subst}
use Rattle.std.specs.Prelude.{◌&&◌, if◌then◌else◌, Result, Ok, Err}
use Rattle.mr_map.specs.Bytes.{Bytes}
use Rattle.mr_arguments.specs.declared.fault.AskFault.{AskFault}
use Rattle.mr_arguments.specs.declared.fault.AskFault.TheVariants as fault
use Rattle.mr_cmd_server.specs.declared.server_ask.ServerAsk.{ServerAsk}
use Rattle.mr_cmd_server.specs.declared.server_ask.ServerAsk.TheVariants as server
use Rattle.mr_cmd_node.specs.declared.node_ask.NodeAsk.{NodeAsk}
use Rattle.mr_cmd_node.specs.declared.node_ask.NodeAsk.TheVariants as node
use Rattle.mr_ask.specs.Asks.{asked}
use Rattle.mr_ask.specs.declared.ask.Ask.{Ask}
use Rattle.mr_ask.specs.declared.ask.Ask.TheVariants as ask
use Rattle.mr_commands.specs.Requests.{closes, readonly}
use Rattle.mr_commands.specs.Writes.{writes}
use Rattle.mr_commands.specs.Transactions.{Coming, coming, coming_by, coming_of_ask, coming_of_fault, coming_to_node, coming_to_server}
use Rattle.mr_commands.specs.Transactions.Coming.{waits, marks, nests, drops, ends, quits}

-- the command that comes to this, where one alone does
abbrev pub IsBy : Coming → Result Ask AskFault → Type 0
IsBy waits r = Unit {0}
IsBy (marks reply) r = Unit {0}
IsBy nests r = r ≡ Ok (ask.Node node.Multi)
IsBy drops r = r ≡ Ok (ask.Node node.Discard)
IsBy ends r = r ≡ Ok (ask.Node node.Exec)
IsBy quits r = closes r ≡ true

by_node : (wish : NodeAsk) → IsBy (coming_to_node wish) (Ok (ask.Node wish))
by_node node.Multi = refl
by_node node.Exec = refl
by_node node.Discard = refl
by_node _ = tt

by_server : (command : ServerAsk) → IsBy (coming_to_server command) (Ok (ask.Server command))
by_server server.Quit = refl
by_server server.BgRewriteAof = tt
by_server (server.Shutdown saving) = tt
by_server _ = tt

by_fault : (f : AskFault) → IsBy (coming_of_fault f) (Err f)
by_fault fault.Unknown = tt
by_fault (fault.Arity name) = tt
by_fault _ = tt

-- a command on data waits, or marks
on_data : (refused : Bool) (r : Result Ask AskFault) → IsBy (if refused then marks readonly else waits) r
on_data true r = tt
on_data false r = tt

by_command : (replica : Bool) (command : Ask) → IsBy (coming_of_ask replica command) (Ok command)
by_command replica (ask.Node wish) = by_node wish
by_command replica (ask.Server command) = by_server command
by_command replica (ask.Texts command) = on_data (replica && writes (ask.Texts command)) (Ok (ask.Texts command))
by_command replica (ask.Keys command) = on_data (replica && writes (ask.Keys command)) (Ok (ask.Keys command))
by_command replica (ask.Hashes command) = on_data (replica && writes (ask.Hashes command)) (Ok (ask.Hashes command))
by_command replica (ask.Lists command) = on_data (replica && writes (ask.Lists command)) (Ok (ask.Lists command))
by_command replica (ask.Sets command) = on_data (replica && writes (ask.Sets command)) (Ok (ask.Sets command))
by_command replica (ask.SortedSets command) = on_data (replica && writes (ask.SortedSets command)) (Ok (ask.SortedSets command))

by_read : (replica : Bool) (r : Result Ask AskFault) → IsBy (coming_by replica r) r
by_read replica (Ok command) = by_command replica command
by_read replica (Err f) = by_fault f

pub come_by : (replica : Bool) (words : List Bytes) (c : Coming) → coming replica words ≡ c → IsBy c (asked words)
come_by replica words c e = subst (λ z. IsBy z (asked words)) e (by_read replica (asked words))
