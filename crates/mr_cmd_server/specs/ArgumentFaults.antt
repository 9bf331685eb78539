-- The faults that the arguments of CLIENT and SHUTDOWN have.
use Rattle.std.specs.Prelude.{ℕ, List, [], ◌∷◌, if◌then◌else◌}
use Rattle.std.specs.Str.{bytes_eq}
use Rattle.mr_arguments.specs.Names.{lowered}
use Rattle.mr_arguments.specs.FaultOrder.{in_reading}
use Rattle.mr_cmd_server.specs.Arguments.{saving_of, setinfo, setname}
use Rattle.mr_arguments.specs.declared.fault.AskFault.{AskFault}
use Rattle.mr_arguments.specs.declared.fault.AskFault.TheVariants.{Syntax}

-- of SHUTDOWN
abbrev pub saving_alone : List (List ℕ) → List AskFault
saving_alone [] = []
saving_alone (saving ∷ []) = in_reading (saving_of saving)
saving_alone _ = Syntax ∷ []

abbrev pub of_client : List (List ℕ) → List AskFault
of_client (option ∷ label ∷ []) = if bytes_eq (lowered option) setname then [] else Syntax ∷ []
of_client (option ∷ attribute ∷ value ∷ []) = if bytes_eq (lowered option) setinfo then [] else Syntax ∷ []
of_client _ = Syntax ∷ []
