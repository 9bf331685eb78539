-- The faults that the arguments of REPLCONF, REPLICAOF and SLAVEOF have.
use Rattle.std.specs.Prelude.{ℕ, List, [], ◌∷◌, if◌then◌else◌, Option, Some, None}
use Rattle.std.specs.Str.{bytes_eq}
use Rattle.mr_arguments.specs.Names.{lowered}
use Rattle.mr_arguments.specs.FaultOrder.{in_reading}
use Rattle.mr_arguments.specs.declared.fault.AskFault.{AskFault}
use Rattle.mr_arguments.specs.declared.fault.AskFault.TheVariants.{Syntax}
use Rattle.mr_cmd_node.specs.Arguments.{ack, acknowledgement, is_no_one, port}
use Rattle.mr_cmd_node.specs.Options.{all_tell}

abbrev pub telling_faults : List (List ℕ) → List AskFault
telling_faults words = if all_tell words then [] else Syntax ∷ []

-- of REPLCONF
abbrev pub replconf_faults : List (List ℕ) → List AskFault
replconf_faults [] = Syntax ∷ []
replconf_faults (option ∷ offset ∷ []) = if bytes_eq (lowered option) ack then in_reading (acknowledgement offset) else telling_faults (option ∷ offset ∷ [])
replconf_faults words = telling_faults words

-- of REPLICAOF and SLAVEOF; None where they are too few or too many
abbrev pub following_faults : List (List ℕ) → Option (List AskFault)
following_faults (host ∷ word ∷ []) = Some (if is_no_one host word then [] else in_reading (port word))
following_faults _ = None
