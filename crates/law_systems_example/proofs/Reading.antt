-- What the words of the requests here ask.
use Rattle.std.proofs.Common.{◌≡◌, ◌<◌, ◌^◌, IsTrue, ℕ, ℤ, pos, List, [], ◌∷◌, Option, None, Some, Ok, codes, refl, ap, arith, lit<}
use Rattle.std.specs.Fmt.{decimal}
use Rattle.std.specs.Option.{ok_or}
use Rattle.std.proofs.lemmas.Bool.Decides.{nat_tests}
use Rattle.mr_bytes.specs.Number.{is_i64, number_of}
use Rattle.mr_bytes.proofs.Numbers.{number_is}
use Rattle.mr_arguments.specs.Names.{named}
use Rattle.mr_arguments.specs.Parts.{with}
use Rattle.mr_arguments.specs.declared.fault.AskFault.TheVariants.{Integer}
use Rattle.mr_ask.specs.Asks.{asked, of_kind}
use Rattle.mr_ask.specs.declared.ask.Ask.TheVariants as ask
use Rattle.mr_cmd_node.specs.Arguments.{port_of}
use Rattle.mr_cmd_node.specs.declared.node_ask.NodeAsk.TheVariants as node
use Rattle.mr_cmd_node.specs.declared.node_ask.ReplicaOption.TheVariants as option
use Rattle.mr_cmd_server.specs.declared.server_ask.ServerAsk.TheVariants as server
use Rattle.mr_cmd_string.specs.declared.text_ask.TextAsk.TheVariants as text
use Rattle.mr_cmd_string.specs.declared.text_ask.SetReply.TheVariants as answer
use Rattle.mr_cmd_string.specs.declared.text_ask.Lifetime.TheVariants as lifetime
use Rattle.mr_commands.specs.Requests.{AsksNode}
use Rattle.mr_wire.specs.Peer.{localhost}

pub ping_asked : asked (codes "PING" ∷ []) ≡ Ok (ask.Server (server.Ping None))
unfolding named
ping_asked = refl

pub set_asked : (key value : List ℕ) → asked (codes "SET" ∷ key ∷ value ∷ []) ≡ Ok (ask.Texts (text.Set key value None answer.Done lifetime.Endless))
unfolding named
set_asked key value = refl

pub no_one_asked : AsksNode (codes "REPLICAOF" ∷ codes "NO" ∷ codes "ONE" ∷ []) node.NoOne
unfolding named
no_one_asked = refl

number : (n : ℕ) → n < 2 ^ 62 → number_of (decimal n) ≡ Some (pos n)
number n few = number_is (decimal n) (pos n) (fits n few) refl
  where
    fits : (n : ℕ) → n < 2 ^ 62 → IsTrue (is_i64 (pos n))
    fits n few = grind (arith, nat_tests, few)

pub follow_asked : AsksNode (codes "REPLICAOF" ∷ localhost ∷ decimal 7001 ∷ []) (node.ReplicaOf localhost 7001)
unfolding named
follow_asked = ap (λ (x : Option ℤ). of_kind ask.Node (with (with (ok_or x Integer) port_of) (λ n. Ok (node.ReplicaOf localhost n)))) (number 7001 (lit< tt))

pub port_asked : (port : ℕ) → AsksNode (codes "REPLCONF" ∷ codes "listening-port" ∷ decimal port ∷ []) (node.ReplConf ((option.ListeningPort, decimal port) ∷ []))
unfolding named
port_asked port = refl

pub capabilities_asked : AsksNode (codes "REPLCONF" ∷ codes "capa" ∷ codes "eof" ∷ codes "capa" ∷ codes "psync2" ∷ []) (node.ReplConf ((option.Capability, codes "eof") ∷ (option.Capability, codes "psync2") ∷ []))
unfolding named
capabilities_asked = refl

pub psync_asked : (id : List ℕ) (n : ℕ) → n < 2 ^ 62 → AsksNode (codes "PSYNC" ∷ id ∷ decimal n ∷ []) (node.Psync id (pos n))
unfolding named
psync_asked id n few = ap (λ (x : Option ℤ). of_kind ask.Node (with (ok_or x Integer) (λ wanted. Ok (node.Psync id wanted)))) (number n few)
