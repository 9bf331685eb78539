-- What a line says as a whole: its options, or why it is refused.
use Rattle.std.specs.Prelude.{◌≡◌, ◌≢◌, List, [], ◌∷◌, Some, codes, string_bytes}
use Rattle.std.specs.Char.{is_control}
use Rattle.std.specs.Str.{NoCharPasses}
use Rattle.clap.specs.Words.{Row, Text, fault_of, kind_of, subcommand_of}
use Rattle.clap.specs.declared.error.Error.{Error}
use Rattle.clap.specs.declared.error.kind.ErrorKind.TheVariants.{OutOfMemory}
use Rattle.mr_options.specs.Lines.{line}
use Rattle.mr_options.specs.Values.{ArePipeOf, AreServeOf, AreWorldOf, NamesNoAddress, NamesNoId, NamesNoMaster, NamesNoMode, usual_pipe}
use Rattle.mr_options.specs.declared.line.Options.{Options}
use Rattle.mr_options.specs.declared.line.Options.TheVariants.{Pipe, Serve, Trio, World}
use Rattle.mr_options.specs.declared.fault.UsageFault.{UsageFault}
use Rattle.mr_options.specs.declared.fault.UsageFault.TheVariants.{Line, BadValue, BadMode, BadMaster, BadAddress, Memory}

-- the parser finds no fault in the line, which names this subcommand with these rows
abbrev pub IsLineOf : Text → List Text → List Row → Type 0
IsLineOf name words rows = (fault_of line words ≡ []) × (subcommand_of line words ≡ Some (name, rows))

abbrev pub IsPipeLine : List Text → List Row → Type 0
IsPipeLine words rows = IsLineOf (codes "pipe") words rows

abbrev pub IsServeLine : List Text → List Row → Type 0
IsServeLine words rows = IsLineOf (codes "serve") words rows

abbrev pub IsTrioLine : List Text → List Row → Type 0
IsTrioLine words rows = IsLineOf (codes "trio") words rows

abbrev pub IsWorldLine : List Text → List Row → Type 0
IsWorldLine words rows = IsLineOf (codes "world") words rows

-- a line that is not empty says these options: its subcommand, and for each option the line's value
-- or the usual one
abbrev pub SaysOptions : List Text → Options → Type 0
SaysOptions words (Pipe options) = (rows : List Row) × (IsPipeLine words rows × ArePipeOf rows options)
SaysOptions words (Serve options) = (rows : List Row) × (IsServeLine words rows × AreServeOf rows options)
SaysOptions words Trio = (rows : List Row) × IsTrioLine words rows
SaysOptions words (World options) = (rows : List Row) × (IsWorldLine words rows × AreWorldOf rows options)

-- the options of a line
abbrev pub AreOptionsOf : List Text → Options → Type 0
AreOptionsOf [] options = options ≡ Pipe usual_pipe
AreOptionsOf (w ∷ ws) options = SaysOptions (w ∷ ws) options

-- no character of the text is a control character
abbrev pub IsOneLine : Text → Type 0
IsOneLine text = NoCharPasses is_control text

-- the fault that an error of the parser comes to
abbrev pub IsFaultOf : Error → UsageFault → Type 0
IsFaultOf error (Line text) = (kind_of error ≢ OutOfMemory) × IsOneLine (string_bytes text)
IsFaultOf error BadValue = ⊥
IsFaultOf error BadMode = ⊥
IsFaultOf error BadMaster = ⊥
IsFaultOf error BadAddress = ⊥
IsFaultOf error Memory = Unit {0}

-- why the values of a line of `serve` are refused: one that it names is none
abbrev pub ExplainsServe : List Row → UsageFault → Type 0
ExplainsServe rows (Line text) = ⊥
ExplainsServe rows BadValue = ⊥
ExplainsServe rows BadMode = NamesNoMode rows
ExplainsServe rows BadMaster = NamesNoMaster rows
ExplainsServe rows BadAddress = NamesNoAddress rows
ExplainsServe rows Memory = ⊥

-- why a line is refused: the parser finds fault with it; or it does not, and a line of `pipe` names
-- an id that is none, or one of `serve` a mode, a master or an address that is none
abbrev pub ExplainsFault : List Text → UsageFault → Type 0
ExplainsFault words (Line text) = (fault_of line words ≢ []) × IsOneLine (string_bytes text)
ExplainsFault words BadValue = (rows : List Row) × (IsPipeLine words rows × NamesNoId rows)
ExplainsFault words BadMode = (rows : List Row) × (IsServeLine words rows × NamesNoMode rows)
ExplainsFault words BadMaster = (rows : List Row) × (IsServeLine words rows × NamesNoMaster rows)
ExplainsFault words BadAddress = (rows : List Row) × (IsServeLine words rows × NamesNoAddress rows)
ExplainsFault words Memory = Unit {0}
