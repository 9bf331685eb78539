-- The faults that the arguments of SET have, each taken by itself.
use Rattle.std.specs.Prelude.{ℕ, List, [], ◌∷◌, Option, Some, None, Result, Ok, Err}
use Rattle.mr_arguments.specs.FaultOrder.{in_reading}
use Rattle.mr_cmd_string.specs.Options.{no_set_options, set_options}
use Rattle.mr_cmd_string.specs.Parts.{lifetime_if_any}
use Rattle.mr_arguments.specs.declared.fault.AskFault.{AskFault}
use Rattle.mr_cmd_string.specs.declared.options.SetOptions.{SetOptions}

-- where options aren't read, nothing is known of the words behind them
abbrev pub in_set_options : Result SetOptions AskFault → List AskFault
in_set_options (Ok options) = in_reading (lifetime_if_any options.lifetime)
in_set_options (Err fault) = fault ∷ []

abbrev pub key_value_options : List (List ℕ) → Option (List AskFault)
key_value_options (key ∷ value ∷ words) = Some (in_set_options (set_options no_set_options words))
key_value_options _ = None
