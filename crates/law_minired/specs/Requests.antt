-- What a request asks of a node, by the command that its words are.
use Rattle.std.specs.Prelude.{◌≡◌, ℕ, ℤ, pos, List, ◌∷◌, ◌++◌, Option, Some, None, Result, Ok, Err}
use Rattle.std.specs.Fmt.{decimal}
use Rattle.mr_map.specs.Bytes.{Bytes}
use Rattle.mr_resp.specs.Request.{IsRequest, IsEmptyRequest}
use Rattle.mr_resp.specs.Usual.{usual}
use Rattle.mr_repl.specs.ReplId.{IsId, digits_of}
use Rattle.mr_arguments.specs.declared.fault.AskFault.{AskFault}
use Rattle.mr_cmd_server.specs.declared.server_ask.ServerAsk.{ServerAsk}
use Rattle.mr_cmd_server.specs.declared.server_ask.ServerAsk.TheVariants as server
use Rattle.mr_cmd_node.specs.declared.node_ask.NodeAsk.{NodeAsk}
use Rattle.mr_cmd_node.specs.declared.node_ask.NodeAsk.TheVariants as node
use Rattle.mr_ask.specs.Asks.{asked}
use Rattle.mr_ask.specs.declared.ask.Ask.{Ask}
use Rattle.mr_ask.specs.declared.ask.Ask.TheVariants as ask
use Rattle.law_protocol.specs.Language.{Request, Transaction}
use Rattle.law_protocol.specs.Language.Request.{Handshake, Psync, Ack, Command, ReplicaOfNoOne, ReplicaOf, Empty, Quit}

-- what words ask, but for what PSYNC wants
pub data Kind : Type 0 where
  handshake : Kind
  psync : Bytes → ℤ → Kind
  ack : Kind
  no_one : Kind
  follow : Bytes → ℕ → Kind
  quit : Kind
  command : Kind

-- what a replica says of itself is a line of its handshake
abbrev pub kind_to_node : NodeAsk → Kind
kind_to_node (node.Psync id wanted) = psync id wanted
kind_to_node (node.ReplConf told) = handshake
kind_to_node (node.Ack offset) = ack
kind_to_node (node.ReplicaOf host port) = follow host port
kind_to_node node.NoOne = no_one
kind_to_node node.Multi = command
kind_to_node node.Exec = command
kind_to_node node.Discard = command

-- PING without a message is one too
abbrev pub kind_to_server : ServerAsk → Kind
kind_to_server (server.Ping None) = handshake
kind_to_server server.Quit = quit
kind_to_server _ = command

abbrev pub kind_of_ask : Ask → Kind
kind_of_ask (ask.Node asks) = kind_to_node asks
kind_of_ask (ask.Server asks) = kind_to_server asks
kind_of_ask _ = command

-- words that are no command are answered a fault, by the rules of commands
abbrev pub kind_by : Result Ask AskFault → Kind
kind_by (Ok asks) = kind_of_ask asks
kind_by (Err fault) = command

abbrev pub kind_of : List Bytes → Kind
kind_of words = kind_by (asked words)

-- PSYNC's word and number want the stream of this id from this byte on.
pub record Wants (id_text : Bytes) (wanted : ℤ) (id : List ℕ) (offset : ℕ) : Type 0 where
  pub is_id : IsId id
  pub id_is : id_text ≡ digits_of id
  pub offset_is : wanted ≡ pos offset

-- .. or, where they name neither, all
abbrev pub IsWanted : Bytes → ℤ → Option (List ℕ × ℕ) → Type 0
IsWanted id_text wanted (Some place) = Wants id_text wanted place.0 place.1
IsWanted id_text wanted None = (id : List ℕ) (offset : ℕ) → Wants id_text wanted id offset → ⊥

-- a host and a port as one list, by which those that a replica follows are told from others
abbrev pub address : Bytes → ℕ → List ℕ
address host port = host ++ 32 ∷ decimal port

abbrev pub Asks : Kind → Request (List ℕ) → Type 0
Asks handshake request = request ≡ Handshake
Asks (psync id wanted) request = (query : Option (List ℕ × ℕ)) × IsWanted id wanted query × (request ≡ Psync query)
Asks ack request = request ≡ Ack
Asks no_one request = request ≡ ReplicaOfNoOne
Asks (follow host port) request = request ≡ ReplicaOf (address host port)
Asks quit request = request ≡ Quit
Asks command request = request ≡ Command

-- where a transaction is open, all but QUIT is a command
abbrev pub within_kind : Kind → Kind
within_kind quit = quit
within_kind _ = command

abbrev pub kind_in : Option Transaction → List Bytes → Kind
kind_in None words = kind_of words
kind_in (Some t) words = within_kind (kind_of words)

-- The bytes are one request whose words ask this, in a transaction or in none, or an empty one.
pub data IsAsked (transaction : Option Transaction) (text : List ℕ) (request : Request (List ℕ)) : Type 0 where
  by_words : (words : List Bytes) → IsRequest usual text words → Asks (kind_in transaction words) request → IsAsked transaction text request
  by_nothing : IsEmptyRequest text → request ≡ Empty → IsAsked transaction text request
