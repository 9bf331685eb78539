-- The faults that the arguments of SCAN, of EXPIRE and its kin, and of FLUSHALL have, each taken by itself.
use Rattle.std.specs.Prelude.{ℕ, List, [], ◌∷◌, ◌++◌, Option, Some, None, Result, Ok, Err}
use Rattle.mr_arguments.specs.FaultOrder.{in_reading}
use Rattle.mr_cmd_key.specs.Options.{condition_if_any, scan_options}
use Rattle.mr_cmd_key.specs.Parts.{cursor_of, key_expiry, positive_if_any, timing_of}
use Rattle.mr_arguments.specs.declared.fault.AskFault.{AskFault}
use Rattle.mr_arguments.specs.declared.fault.AskFault.TheVariants.{Syntax}
use Rattle.mr_arguments.specs.declared.expiry.ExpiryUnit.{ExpiryUnit}
use Rattle.mr_cmd_key.specs.declared.options.ScanOptions.{ScanOptions}

abbrev pub timing_alone : List (List ℕ) → List AskFault
timing_alone [] = []
timing_alone (timing ∷ []) = in_reading (timing_of timing)
timing_alone _ = Syntax ∷ []

abbrev pub time_and_condition : ExpiryUnit → List (List ℕ) → Option (List AskFault)
time_and_condition u (key ∷ number ∷ words) = Some (in_reading (key_expiry u number) ++ in_reading (condition_if_any words))
time_and_condition u _ = None

abbrev pub in_scan_options : Result ScanOptions AskFault → List AskFault
in_scan_options (Ok options) = in_reading (positive_if_any options.count)
in_scan_options (Err fault) = fault ∷ []

abbrev pub cursor_and_options : List (List ℕ) → Option (List AskFault)
cursor_and_options [] = None
cursor_and_options (cursor ∷ words) = Some (in_reading (cursor_of cursor) ++ in_scan_options (scan_options words))
