-- Commands to the server itself.
use Rattle.std.specs.Prelude.{ℕ, ℤ, pos, List, [], ◌∷◌, if◌then◌else◌, Some, None, Result, Ok, Err, codes}
use Rattle.std.specs.Str.{bytes_eq}
use Rattle.std.specs.Ordering.{int_eq}
use Rattle.mr_arguments.specs.Names.{lowered}
use Rattle.mr_arguments.specs.Parts.{with, integer}
use Rattle.mr_arguments.specs.declared.name.Name.TheVariants as name
use Rattle.mr_arguments.specs.declared.fault.AskFault.{AskFault}
use Rattle.mr_arguments.specs.declared.fault.AskFault.TheVariants.{Arity, Syntax, Other}
use Rattle.mr_arguments.specs.declared.fault.BadValue.TheVariants.{Database}
use Rattle.mr_cmd_server.specs.declared.server_ask.ServerAsk.{ServerAsk}
use Rattle.mr_cmd_server.specs.declared.server_ask.ServerAsk.TheVariants as ask
use Rattle.mr_cmd_server.specs.declared.server_ask.Saving.{Saving}
use Rattle.mr_cmd_server.specs.declared.server_ask.Saving.TheVariants.{First, Never}

-- PING [message]
abbrev pub ping : List (List ℕ) → Result ServerAsk AskFault
ping [] = Ok (ask.Ping None)
ping (message ∷ []) = Ok (ask.Ping (Some message))
ping _ = Err (Arity name.Ping)

-- ECHO message
abbrev pub echo : List (List ℕ) → Result ServerAsk AskFault
echo (message ∷ []) = Ok (ask.Echo message)
echo _ = Err (Arity name.Echo)

-- the only database
abbrev pub database : ℤ → Result ServerAsk AskFault
database index = if int_eq index (pos 0) then Ok ask.Select else Err (Other Database)

-- SELECT 0
abbrev pub select : List (List ℕ) → Result ServerAsk AskFault
select (index ∷ []) = with (integer index) database
select _ = Err (Arity name.Select)

-- QUIT
abbrev pub quit : List (List ℕ) → Result ServerAsk AskFault
quit [] = Ok ask.Quit
quit _ = Err (Arity name.Quit)

-- BGREWRITEAOF
abbrev pub bgrewriteaof : List (List ℕ) → Result ServerAsk AskFault
bgrewriteaof [] = Ok ask.BgRewriteAof
bgrewriteaof _ = Err (Arity name.BgRewriteAof)

-- INFO [section]
abbrev pub info : List (List ℕ) → Result ServerAsk AskFault
info [] = Ok (ask.Info None)
info (section ∷ []) = Ok (ask.Info (Some section))
info _ = Err (Arity name.Info)

-- ROLE
abbrev pub role : List (List ℕ) → Result ServerAsk AskFault
role [] = Ok ask.Role
role _ = Err (Arity name.Role)

-- the option words of SHUTDOWN, in lower case
abbrev pub saving_text : Saving → List ℕ
saving_text First = codes "save"
saving_text Never = codes "nosave"

-- .. in any case
abbrev pub saving_of : List ℕ → Result Saving AskFault
saving_of word = if bytes_eq (lowered word) (saving_text First) then Ok First else (if bytes_eq (lowered word) (saving_text Never) then Ok Never else Err Syntax)

-- SHUTDOWN [SAVE|NOSAVE]
abbrev pub shutdown : List (List ℕ) → Result ServerAsk AskFault
shutdown [] = Ok (ask.Shutdown None)
shutdown (saving ∷ []) = with (saving_of saving) (λ s. Ok (ask.Shutdown (Some s)))
shutdown _ = Err Syntax

-- COMMAND [argument ..]
abbrev pub command : List (List ℕ) → Result ServerAsk AskFault
command arguments = Ok (ask.Command arguments)

-- option words, in lower case
abbrev pub setname : List ℕ
setname = codes "setname"

abbrev pub setinfo : List ℕ
setinfo = codes "setinfo"

-- CLIENT SETNAME name, CLIENT SETINFO attribute value
abbrev pub client : List (List ℕ) → Result ServerAsk AskFault
client (option ∷ name ∷ []) = if bytes_eq (lowered option) setname then Ok (ask.ClientSetName name) else Err Syntax
client (option ∷ attribute ∷ value ∷ []) = if bytes_eq (lowered option) setinfo then Ok (ask.ClientSetInfo attribute value) else Err Syntax
client _ = Err Syntax
