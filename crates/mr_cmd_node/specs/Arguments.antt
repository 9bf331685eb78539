-- Commands to the node.
use Rattle.std.specs.Prelude.{ℕ, ℤ, pos, negsuc, nat_le, List, [], ◌∷◌, Bool, ◌&&◌, if◌then◌else◌, Result, Ok, Err, codes}
use Rattle.std.specs.Option.{ok_or}
use Rattle.std.specs.Str.{bytes_eq}
use Rattle.mr_bytes.specs.Number.{number_of}
use Rattle.mr_arguments.specs.Names.{lowered}
use Rattle.mr_arguments.specs.Parts.{with, integer}
use Rattle.mr_arguments.specs.declared.name.Name.{Name}
use Rattle.mr_arguments.specs.declared.name.Name.TheVariants as name
use Rattle.mr_arguments.specs.declared.fault.AskFault.{AskFault}
use Rattle.mr_arguments.specs.declared.fault.AskFault.TheVariants.{Arity, Syntax, Integer}
use Rattle.mr_cmd_node.specs.Options.{told_by}
use Rattle.mr_cmd_node.specs.declared.node_ask.NodeAsk.{NodeAsk}
use Rattle.mr_cmd_node.specs.declared.node_ask.NodeAsk.TheVariants as ask

-- PSYNC id offset
abbrev pub psync : List (List ℕ) → Result NodeAsk AskFault
psync (id ∷ offset ∷ []) = with (integer offset) (λ wanted. Ok (ask.Psync id wanted))
psync _ = Err (Arity name.Psync)

-- option words, in lower case
abbrev pub ack : List ℕ
ack = codes "ack"

abbrev pub no : List ℕ
no = codes "no"

abbrev pub one : List ℕ
one = codes "one"

-- what a replica holds: it is a syntax fault where it is no number
abbrev pub acknowledgement : List ℕ → Result NodeAsk AskFault
acknowledgement offset = with (ok_or (number_of offset) Syntax) (λ n. Ok (ask.Ack n))

-- what a replica says of itself
abbrev pub telling : List (List ℕ) → Result NodeAsk AskFault
telling words = with (ok_or (told_by words) Syntax) (λ told. Ok (ask.ReplConf told))

-- REPLCONF option value .., REPLCONF ACK offset
abbrev pub replconf : List (List ℕ) → Result NodeAsk AskFault
replconf [] = Err Syntax
replconf (option ∷ offset ∷ []) = if bytes_eq (lowered option) ack then acknowledgement offset else telling (option ∷ offset ∷ [])
replconf words = telling words

-- a port is from 1 to 65535
abbrev pub port_of : ℤ → Result ℕ AskFault
port_of (pos n) = if nat_le 1 n && nat_le n 65535 then Ok n else Err Integer
port_of (negsuc n) = Err Integer

abbrev pub port : List ℕ → Result ℕ AskFault
port word = with (integer word) port_of

-- the words NO ONE, in any case
abbrev pub is_no_one : List ℕ → List ℕ → Bool
is_no_one first second = bytes_eq (lowered first) no && bytes_eq (lowered second) one

-- REPLICAOF host port, REPLICAOF NO ONE, or under its other name
abbrev pub replicaof : Name → List (List ℕ) → Result NodeAsk AskFault
replicaof called (host ∷ word ∷ []) = if is_no_one host word then Ok ask.NoOne else with (port word) (λ n. Ok (ask.ReplicaOf host n))
replicaof called _ = Err (Arity called)

-- MULTI
abbrev pub multi : List (List ℕ) → Result NodeAsk AskFault
multi [] = Ok ask.Multi
multi _ = Err (Arity name.Multi)

-- EXEC
abbrev pub exec : List (List ℕ) → Result NodeAsk AskFault
exec [] = Ok ask.Exec
exec _ = Err (Arity name.Exec)

-- DISCARD
abbrev pub discard : List (List ℕ) → Result NodeAsk AskFault
discard [] = Ok ask.Discard
discard _ = Err (Arity name.Discard)
