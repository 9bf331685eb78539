-- What single arguments say.
use Rattle.mr_arguments.specs.Parts.{with, integer, not_below_1}
use Rattle.std.specs.Prelude.{ℕ, zero, suc, ℤ, pos, negsuc, List, [], Bool, if◌then◌else◌, Option, Some, None, Result, Ok, Err, codes}
use Rattle.std.specs.Option.{ok_or}
use Rattle.std.specs.Str.{bytes_eq}
use Rattle.mr_bytes.specs.Number.{number_of}
use Rattle.mr_arguments.specs.Names.{lowered}
use Rattle.mr_arguments.specs.declared.fault.AskFault.{AskFault}
use Rattle.mr_arguments.specs.declared.fault.AskFault.TheVariants.{Syntax, Other}
use Rattle.mr_arguments.specs.declared.fault.BadValue.TheVariants as bad
use Rattle.mr_arguments.specs.declared.fault.ExpiringCommand.{ExpiringCommand}
use Rattle.mr_arguments.specs.declared.fault.ExpiringCommand.TheVariants.{Expire, PExpire, ExpireAt, PExpireAt}
use Rattle.mr_arguments.specs.declared.expiry.Expiry.{Expiry}
use Rattle.mr_arguments.specs.declared.expiry.ExpiryUnit.{ExpiryUnit}
use Rattle.mr_arguments.specs.declared.expiry.ExpiryUnit.TheVariants as unit
use Rattle.mr_cmd_key.specs.declared.key_ask.Cursor.{Cursor}
use Rattle.mr_cmd_key.specs.declared.key_ask.Cursor.TheVariants.{Start, Behind}
use Rattle.mr_cmd_key.specs.declared.key_ask.KindName.{KindName}
use Rattle.mr_cmd_key.specs.declared.key_ask.KindName.TheVariants as kind
use Rattle.mr_cmd_key.specs.declared.key_ask.Timing.{Timing}
use Rattle.mr_cmd_key.specs.declared.key_ask.Timing.TheVariants.{Later, Now}
use Rattle.mr_arguments.specs.Expiry.{within_limit}

abbrev pub positive : List ℕ → Result ℤ AskFault
positive word = with (integer word) (not_below_1 Syntax)

-- .. where there is one
abbrev pub positive_if_any : Option (List ℕ) → Result (Option ℤ) AskFault
positive_if_any None = Ok None
positive_if_any (Some word) = with (positive word) (λ n. Ok (Some n))

-- where a scan goes on
abbrev pub cursor_at : ℤ → Result Cursor AskFault
cursor_at (pos zero) = Ok Start
cursor_at (pos (suc n)) = Ok Behind
cursor_at (negsuc n) = Err (Other bad.Cursor)

-- .. at a cursor: a whole number of 64 bits that isn't below 0
abbrev pub cursor_of : List ℕ → Result Cursor AskFault
cursor_of word = with (ok_or (number_of word) (Other bad.Cursor)) cursor_at

-- an option word, in lower case
abbrev pub timing_text : Timing → List ℕ
timing_text Later = codes "async"
timing_text Now = codes "sync"

-- ASYNC or SYNC, in any case
abbrev pub timing_of : List ℕ → Result Timing AskFault
timing_of word = if bytes_eq (lowered word) (timing_text Later) then Ok Later else (if bytes_eq (lowered word) (timing_text Now) then Ok Now else Err Syntax)

-- the names of the kinds that there are, in lower case; an unknown one has none
abbrev pub kind_text : KindName → List ℕ
kind_text kind.Text = codes "string"
kind_text kind.Hash = codes "hash"
kind_text kind.List = codes "list"
kind_text kind.Set = codes "set"
kind_text kind.SortedSet = codes "zset"
kind_text kind.Unknown = []

abbrev pub is_kind : List ℕ → KindName → Bool
is_kind word name = bytes_eq (lowered word) (kind_text name)

-- the kind that a word names, in any case
abbrev pub kind_of : List ℕ → KindName
kind_of word = if is_kind word kind.Text then kind.Text
    else (if is_kind word kind.Hash then kind.Hash
    else (if is_kind word kind.List then kind.List
    else (if is_kind word kind.Set then kind.Set
    else (if is_kind word kind.SortedSet then kind.SortedSet else kind.Unknown))))

-- the command that sets a deadline in this unit
abbrev pub expiring : ExpiryUnit → ExpiringCommand
expiring unit.Seconds = Expire
expiring unit.Milliseconds = PExpire
expiring unit.AtSecond = ExpireAt
expiring unit.AtMillisecond = PExpireAt

-- what the number of EXPIRE says, and of its kin
abbrev pub key_expiry : ExpiryUnit → List ℕ → Result Expiry AskFault
key_expiry unit word = with (integer word) (within_limit (expiring unit) unit)
