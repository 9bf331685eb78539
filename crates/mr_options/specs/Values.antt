-- The values of the options: those that a line names, and else the usual ones.
use Rattle.std.specs.Prelude.{◌≡◌, ◌≢◌, ℕ, ◌≤◌, ◌≤ℤ◌, ◌<◌, ◌^◌, ◌++◌, List, [], ◌∷◌, Option, None, pos, Some, Ok, IfSome, IsSomeAnd, codes, decimal, replicate, option_map}
use Rattle.std.specs.Net.Addr.{ipv4_octets}
use Rattle.std.specs.Net.Grammar.{IsIpv4Text}
use Rattle.std.specs.Str.Parse.{ParsesUnsigned}
use Rattle.std.specs.declared.net.ipv4_addr.Ipv4Addr.{Ipv4Addr}
use Rattle.std.specs.declared.num.ParseIntError.{ParseIntError}
use Rattle.clap.specs.Words.{Row, Text, first_of, one_of}
use Rattle.mr_repl.specs.Backlog.{usual_backlog}
use Rattle.mr_repl.specs.ReplId.{IsId, digits_of}
use Rattle.mr_file.specs.declared.sync_mode.SyncMode.{SyncMode}
use Rattle.mr_file.specs.declared.sync_mode.SyncMode.TheVariants.{Always, No}
use Rattle.mr_options.specs.declared.line.Master.{Master}
use Rattle.mr_options.specs.declared.line.Options.{Options}
use Rattle.mr_options.specs.declared.line.Options.TheVariants.{Pipe, Serve, Trio, World}
use Rattle.mr_options.specs.declared.line.PipeOptions.{PipeOptions}
use Rattle.mr_options.specs.declared.line.ServeOptions.{ServeOptions}
use Rattle.mr_options.specs.declared.line.WorldOptions.{WorldOptions}

-- `pipe` with its usual values: the id of forty digits a, time 0, word 0, no file
abbrev pub usual_pipe : PipeOptions
usual_pipe = record { id = replicate 20 170; now = pos 0; word = 0; aof = None }

-- after so many turns `serve` ends, where the line doesn't say
abbrev pub usual_turns : ℕ
usual_turns = 1000000000000

-- so many seconds a peer of replication may be silent, where the line doesn't say
abbrev pub usual_timeout : ℕ
usual_timeout = 60

-- a client may ask nothing for so many seconds, where the line doesn't say: 0 stands for ever
abbrev pub usual_idle : ℕ
usual_idle = 0

-- the system asks for a peer that was silent for so many seconds, where the line doesn't say
abbrev pub usual_keepalive : ℕ
usual_keepalive = 300

-- so many peers may have a link at once, where the line doesn't say: the most that it may name
abbrev pub usual_clients : ℕ
usual_clients = 1000000

-- the number whose text this is, or the usual one where there is none
abbrev pub IsNumber : Option Text → ℕ → ℕ → Type 0
IsNumber None usual n = n ≡ usual
IsNumber (Some text) usual n = ParsesUnsigned {E = ParseIntError} 64 10 text (Ok n)

-- the value of a number's option, where these rows say what the line names
abbrev pub HasNumber : List Row → Text → ℕ → ℕ → Type 0
HasNumber rows name usual n = IsNumber (one_of name rows) usual n

-- the line names this number
abbrev pub NamesNumber : List Row → Text → ℕ → Type 0
NamesNumber rows name n = (text : Text) × ((one_of name rows ≡ Some text) × ParsesUnsigned {E = ParseIntError} 64 10 text (Ok n))

-- the id whose text this is, or the usual one where there is none
abbrev pub IsIdText : Option Text → List ℕ → Type 0
IsIdText None id = id ≡ usual_pipe.id
IsIdText (Some text) id = IsId id × (digits_of id ≡ text)

-- the value of the option `id`
abbrev pub HasId : List Row → List ℕ → Type 0
HasId rows id = IsIdText (first_of (codes "id") rows) id

-- the word of a mode
abbrev pub mode_word : SyncMode → Text
mode_word Always = codes "always"
mode_word No = codes "no"

-- the mode whose word this is, or the usual one where there is none
abbrev pub IsModeWord : Option Text → SyncMode → Type 0
IsModeWord None mode = mode ≡ Always
IsModeWord (Some text) mode = mode_word mode ≡ text

-- the value of the option `sync`
abbrev pub HasMode : List Row → SyncMode → Type 0
HasMode rows mode = IsModeWord (first_of (codes "sync") rows) mode

-- the port of a node
abbrev pub IsPort : ℕ → Type 0
IsPort port = (1 ≤ port) × (port ≤ 65535)

-- `HOST:PORT`: any host, a colon (58), and the one spelling of the port, in which there is none: so the colon is the last
abbrev pub master_text : Text → ℕ → Text
master_text host port = host ++ 58 ∷ decimal port

-- the text names this node
abbrev pub Names : Text → Master → Type 0
Names text master = IsPort master.port × (master_text master.host.now master.port ≡ text)

-- the node that this text names, or none where there is no text
abbrev pub IsMaster : Option Text → Option Master → Type 0
IsMaster None master = master ≡ None
IsMaster (Some text) master = IsSomeAnd master (Names text)

-- the value of the option `replicaof`, or none
abbrev pub HasMaster : List Row → Option Master → Type 0
HasMaster rows master = IsMaster (first_of (codes "replicaof") rows) master

-- the address that this text writes, or the usual one, 127.0.0.1, where there is none
abbrev pub IsAddress : Option Text → Ipv4Addr → Type 0
IsAddress None address = ipv4_octets address ≡ 127 ∷ 0 ∷ 0 ∷ 1 ∷ []
IsAddress (Some text) address = IsIpv4Text text address

-- the value of the option `bind`
abbrev pub HasAddress : List Row → Ipv4Addr → Type 0
HasAddress rows address = IsAddress (first_of (codes "bind") rows) address

-- the path of the append-only file: the value of the option `aof`, or none
abbrev pub HasPath : List Row → Option Text → Type 0
HasPath rows path = path ≡ first_of (codes "aof") rows

-- the values of the options of `pipe`: those that the line names, and else the usual ones
pub record ArePipeOf (rows : List Row) (options : PipeOptions) : Type 0 where
  pub id : HasId rows options.id
  pub now : (n : ℕ) × ((options.now ≡ pos n) × HasNumber rows (codes "now") 0 n)
  pub word : HasNumber rows (codes "word") 0 options.word
  pub aof : HasPath rows (option_map (λ s. s.now) options.aof)

-- the values of the options of `serve`: the port that the line names, and of the others those that
-- it names, and else the usual ones
pub record AreServeOf (rows : List Row) (options : ServeOptions) : Type 0 where
  pub port : NamesNumber rows (codes "port") options.port
  pub aof : HasPath rows (option_map (λ s. s.now) options.aof)
  pub sync : HasMode rows options.sync
  pub turns : HasNumber rows (codes "turns") usual_turns options.turns
  pub backlog : HasNumber rows (codes "backlog") usual_backlog options.backlog
  pub master : HasMaster rows options.master
  pub bind : HasAddress rows options.bind
  pub timeout : HasNumber rows (codes "repl-timeout") usual_timeout options.timeout
  pub idle_timeout : HasNumber rows (codes "timeout") usual_idle options.idle_timeout
  pub keepalive : HasNumber rows (codes "tcp-keepalive") usual_keepalive options.keepalive
  pub most_clients : HasNumber rows (codes "maxclients") usual_clients options.most_clients

-- the value of the option of `world`, which the line names, or else the usual one
abbrev pub AreWorldOf : List Row → WorldOptions → Type 0
AreWorldOf rows options = HasNumber rows (codes "backlog") usual_backlog options.backlog

-- the parser lets through a number of `pipe` that is within its range, or none
pub record PipeNumbersPass (rows : List Row) : Type 0 where
  pub now : (n : ℕ) × ((n ≤ 2 ^ 61) × HasNumber rows (codes "now") 0 n)
  pub word : (n : ℕ) × HasNumber rows (codes "word") 0 n

-- the parser lets through a port within its range, and never none; a number of turns, or none; and a backlog, timeouts and a
-- number of clients within their ranges, or none
pub record ServeNumbersPass (rows : List Row) : Type 0 where
  pub port : (n : ℕ) × ((1 ≤ n) × (n ≤ 65535) × NamesNumber rows (codes "port") n)
  pub turns : (n : ℕ) × HasNumber rows (codes "turns") usual_turns n
  pub backlog : (n : ℕ) × ((1 ≤ n) × (n ≤ 2 ^ 30) × HasNumber rows (codes "backlog") usual_backlog n)
  pub timeout : (n : ℕ) × ((11 ≤ n) × (n ≤ 86400) × HasNumber rows (codes "repl-timeout") usual_timeout n)
  pub idle_timeout : (n : ℕ) × ((0 ≤ n) × (n ≤ 2147483647) × HasNumber rows (codes "timeout") usual_idle n)
  pub keepalive : (n : ℕ) × ((0 ≤ n) × (n ≤ 32767) × HasNumber rows (codes "tcp-keepalive") usual_keepalive n)
  pub most_clients : (n : ℕ) × ((1 ≤ n) × (n ≤ 1000000) × HasNumber rows (codes "maxclients") usual_clients n)

-- the parser lets through a backlog within its range, or none
abbrev pub WorldNumbersPass : List Row → Type 0
WorldNumbersPass rows = (n : ℕ) × ((1 ≤ n) × (n ≤ 2 ^ 30) × HasNumber rows (codes "backlog") usual_backlog n)

-- each number is within its range
abbrev pub IsInRange : Options → Type 0
IsInRange (Pipe options) = (pos 0 ≤ℤ options.now) × (options.now ≤ℤ pos (2 ^ 61)) × (options.word < 2 ^ 64)
IsInRange (Serve options) =
    (1 ≤ options.port) × (options.port ≤ 65535) × (options.turns < 2 ^ 64) × (1 ≤ options.backlog) × (options.backlog ≤ 2 ^ 30)
    × IfSome options.master (λ master. IsPort master.port) × (11 ≤ options.timeout) × (options.timeout ≤ 86400)
    × (options.idle_timeout ≤ 2147483647) × (options.keepalive ≤ 32767)
    × (1 ≤ options.most_clients) × (options.most_clients ≤ 1000000)
IsInRange Trio = Unit {0}
IsInRange (World options) = (1 ≤ options.backlog) × (options.backlog ≤ 2 ^ 30)

-- the line names an id, which is none
abbrev pub NamesNoId : List Row → Type 0
NamesNoId rows = (text : Text) × ((first_of (codes "id") rows ≡ Some text) × ((id : List ℕ) → IsId id → digits_of id ≢ text))

-- the line names a mode, which is none
abbrev pub NamesNoMode : List Row → Type 0
NamesNoMode rows = (text : Text) × ((first_of (codes "sync") rows ≡ Some text) × ((mode : SyncMode) → mode_word mode ≢ text))

-- the line names a master, which is none: the text isn't any host's and port's
abbrev pub NamesNoMaster : List Row → Type 0
NamesNoMaster rows =
    (text : Text) × ((first_of (codes "replicaof") rows ≡ Some text) × ((host : Text) (port : ℕ) → IsPort port → master_text host port ≢ text))

-- the line names an address, which is none
abbrev pub NamesNoAddress : List Row → Type 0
NamesNoAddress rows = (text : Text) × ((first_of (codes "bind") rows ≡ Some text) × ((address : Ipv4Addr) → ¬ (IsIpv4Text text address)))
