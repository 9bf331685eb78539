-- What a request comes to where a transaction is open.
use Rattle.std.proofs.Common.{◌≡◌, List, ℕ, Bool, true, false, refl}
use Rattle.std.specs.Prelude.{Result, Ok, Err, ◌&&◌, if◌then◌else◌}
use Rattle.mr_ask.specs.Asks.{asked}
use Rattle.mr_ask.specs.declared.ask.Ask.{Ask}
use Rattle.mr_ask.specs.declared.ask.Ask.TheVariants as ask
use Rattle.mr_cmd_node.specs.declared.node_ask.NodeAsk.{NodeAsk}
use Rattle.mr_cmd_node.specs.declared.node_ask.NodeAsk.TheVariants as node
use Rattle.mr_cmd_server.specs.declared.server_ask.ServerAsk.{ServerAsk}
use Rattle.mr_cmd_server.specs.declared.server_ask.ServerAsk.TheVariants as server
use Rattle.mr_arguments.specs.declared.fault.AskFault.{AskFault}
use Rattle.mr_arguments.specs.declared.fault.AskFault.TheVariants as fault
use Rattle.mr_commands.specs.Requests.{closes, quits, readonly}
use Rattle.mr_commands.specs.Writes.{writes}
use Rattle.mr_commands.specs.Transactions.{marks, quits as leaves, waits, coming, coming_by, coming_of_fault, coming_to_node, coming_to_server}

-- only QUIT quits
quit_to_server : (command : ServerAsk) → coming_to_server command ≡ leaves → closes (Ok (ask.Server command)) ≡ true
quit_to_server server.Quit e = refl
quit_to_server server.BgRewriteAof e = absurd (cc)
quit_to_server (server.Shutdown saving) e = absurd (cc)
quit_to_server _ e = absurd (cc)

quit_to_node : (wish : NodeAsk) → coming_to_node wish ≡ leaves → ⊥
quit_to_node node.Multi e = cc
quit_to_node node.Exec e = cc
quit_to_node node.Discard e = cc
quit_to_node _ e = cc

quit_by_fault : (f : AskFault) → coming_of_fault f ≡ leaves → ⊥
quit_by_fault fault.Unknown e = cc
quit_by_fault (fault.Arity name) e = cc
quit_by_fault _ e = cc

no_quit : (b : Bool) → (if b then marks readonly else waits) ≡ leaves → ⊥
no_quit true e = cc
no_quit false e = cc

quit_by : (replica : Bool) (r : Result Ask AskFault) → coming_by replica r ≡ leaves → closes r ≡ true
quit_by replica (Ok (ask.Node wish)) e = absurd (quit_to_node wish e)
quit_by replica (Ok (ask.Server command)) e = quit_to_server command e
quit_by replica (Ok (ask.Texts x)) e = absurd (no_quit (replica && writes (ask.Texts x)) e)
quit_by replica (Ok (ask.Keys x)) e = absurd (no_quit (replica && writes (ask.Keys x)) e)
quit_by replica (Ok (ask.Hashes x)) e = absurd (no_quit (replica && writes (ask.Hashes x)) e)
quit_by replica (Ok (ask.Lists x)) e = absurd (no_quit (replica && writes (ask.Lists x)) e)
quit_by replica (Ok (ask.Sets x)) e = absurd (no_quit (replica && writes (ask.Sets x)) e)
quit_by replica (Ok (ask.SortedSets x)) e = absurd (no_quit (replica && writes (ask.SortedSets x)) e)
quit_by replica (Err f) e = absurd (quit_by_fault f e)

pub by_quit : (replica : Bool) (words : List (List ℕ)) → coming replica words ≡ leaves → quits words ≡ true
by_quit replica words e = quit_by replica (asked words) e
