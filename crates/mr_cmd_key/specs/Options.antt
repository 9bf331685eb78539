-- The options of SCAN, which stand in any order, each at most once, and the one of EXPIRE.
use Rattle.mr_arguments.specs.Options.{added}
use Rattle.std.specs.Prelude.{ℕ, List, [], ◌∷◌, Bool, if◌then◌else◌, Option, Some, None, Result, Ok, Err, codes, find}
use Rattle.std.specs.Option.{is_some, ok_or}
use Rattle.std.specs.Str.{bytes_eq}
use Rattle.mr_arguments.specs.Names.{lowered}
use Rattle.mr_arguments.specs.Pairing.{pairs_of}
use Rattle.mr_arguments.specs.Parts.{with}
use Rattle.mr_arguments.specs.declared.fault.AskFault.{AskFault}
use Rattle.mr_arguments.specs.declared.fault.AskFault.TheVariants.{Syntax}
use Rattle.mr_cmd_key.specs.declared.key_ask.ExpireCondition.{ExpireCondition}
use Rattle.mr_cmd_key.specs.declared.key_ask.ExpireCondition.TheVariants as expire
use Rattle.mr_cmd_key.specs.declared.options.ScanOption.{ScanOption}
use Rattle.mr_cmd_key.specs.declared.options.ScanOption.TheVariants as scan
use Rattle.mr_cmd_key.specs.declared.options.ScanOptions.{ScanOptions}

abbrev pub expire_text : ExpireCondition → List ℕ
expire_text expire.Endless = codes "nx"
expire_text expire.Expiring = codes "xx"
expire_text expire.Later = codes "gt"
expire_text expire.Earlier = codes "lt"

abbrev pub scan_text : ScanOption → List ℕ
scan_text scan.Pattern = codes "match"
scan_text scan.Count = codes "count"
scan_text scan.Kind = codes "type"

abbrev pub is_expire_condition : List ℕ → ExpireCondition → Bool
is_expire_condition text condition = bytes_eq text (expire_text condition)

abbrev pub all_expire_conditions : List ExpireCondition
all_expire_conditions = expire.Endless ∷ expire.Expiring ∷ expire.Later ∷ expire.Earlier ∷ []

-- the condition of EXPIRE that a word is, in any case
abbrev pub expire_condition : List ℕ → Option ExpireCondition
expire_condition word = find (is_expire_condition (lowered word)) all_expire_conditions

-- .. where there is one; a second word is too many
abbrev pub condition_if_any : List (List ℕ) → Result (Option ExpireCondition) AskFault
condition_if_any [] = Ok None
condition_if_any (word ∷ []) = with (ok_or (expire_condition word) Syntax) (λ condition. Ok (Some condition))
condition_if_any _ = Err Syntax

-- the option of SCAN that a word is, in any case
abbrev pub scan_option : List ℕ → Result ScanOption AskFault
scan_option word = if bytes_eq (lowered word) (scan_text scan.Pattern) then Ok scan.Pattern
    else (if bytes_eq (lowered word) (scan_text scan.Count) then Ok scan.Count
    else (if bytes_eq (lowered word) (scan_text scan.Kind) then Ok scan.Kind else Err Syntax))

abbrev pub no_scan_options : ScanOptions
no_scan_options = record { pattern = None; count = None; kind = None }

-- with one option more and its argument, where it isn't set yet
abbrev pub scan_also : ScanOptions → List ℕ → ScanOption → Result ScanOptions AskFault
scan_also options argument scan.Pattern = if is_some options.pattern then Err Syntax else Ok (record { pattern = Some argument; count = options.count; kind = options.kind })
scan_also options argument scan.Count = if is_some options.count then Err Syntax else Ok (record { pattern = options.pattern; count = Some argument; kind = options.kind })
scan_also options argument scan.Kind = if is_some options.kind then Err Syntax else Ok (record { pattern = options.pattern; count = options.count; kind = Some argument })

abbrev pub scan_pair : ScanOptions → List ℕ × List ℕ → Result ScanOptions AskFault
scan_pair options pair = with (scan_option pair.0) (scan_also options pair.1)

-- what SCAN's options set, each a word with its argument
abbrev pub scan_options : List (List ℕ) → Result ScanOptions AskFault
scan_options words = with (ok_or (pairs_of words) Syntax) (added scan_pair no_scan_options)
