-- What single arguments say.
use Rattle.std.specs.Prelude.{ℕ, List, if◌then◌else◌, Result, Ok, Err, codes}
use Rattle.std.specs.Str.{bytes_eq}
use Rattle.mr_bytes.specs.declared.ends.End.{End}
use Rattle.mr_bytes.specs.declared.ends.End.TheVariants.{Left, Right}
use Rattle.mr_bytes.specs.declared.ends.Side.{Side}
use Rattle.mr_bytes.specs.declared.ends.Side.TheVariants.{Before, After}
use Rattle.mr_arguments.specs.Names.{lowered}
use Rattle.mr_arguments.specs.declared.fault.AskFault.{AskFault}
use Rattle.mr_arguments.specs.declared.fault.AskFault.TheVariants.{Syntax}

-- an option word, in lower case
abbrev pub end_text : End → List ℕ
end_text Left = codes "left"
end_text Right = codes "right"

abbrev pub side_text : Side → List ℕ
side_text Before = codes "before"
side_text After = codes "after"

-- LEFT or RIGHT, in any case
abbrev pub end_of : List ℕ → Result End AskFault
end_of word = if bytes_eq (lowered word) (end_text Left) then Ok Left else (if bytes_eq (lowered word) (end_text Right) then Ok Right else Err Syntax)

-- BEFORE or AFTER, in any case
abbrev pub side_of : List ℕ → Result Side AskFault
side_of word = if bytes_eq (lowered word) (side_text Before) then Ok Before else (if bytes_eq (lowered word) (side_text After) then Ok After else Err Syntax)
