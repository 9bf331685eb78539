-- What single arguments say.
use Rattle.mr_arguments.specs.Parts.{with, integer, not_below_1}
use Rattle.std.specs.Prelude.{ℕ, ℤ, pos, negsuc, neg_ℤ, List, if◌then◌else◌, Option, Some, None, Result, Ok, Err}
use Rattle.std.specs.Option.{ok_or}
use Rattle.mr_bytes.specs.Number.{is_i64}
use Rattle.mr_arguments.specs.declared.fault.AskFault.{AskFault}
use Rattle.mr_arguments.specs.declared.fault.AskFault.TheVariants.{ExpireTime, Other}
use Rattle.mr_arguments.specs.declared.fault.BadValue.TheVariants as bad
use Rattle.mr_arguments.specs.declared.fault.ExpiringCommand.TheVariants.{Set, SetEx, PSetEx}
use Rattle.mr_arguments.specs.Amounts.{seconds_of, milliseconds_of}
use Rattle.mr_arguments.specs.declared.expiry.Expiry.{Expiry}
use Rattle.mr_arguments.specs.declared.expiry.ExpiryUnit.{ExpiryUnit}
use Rattle.mr_cmd_string.specs.declared.options.LifetimeOption.{LifetimeOption}
use Rattle.mr_cmd_string.specs.declared.options.LifetimeOption.TheVariants as option
use Rattle.mr_cmd_string.specs.declared.text_ask.Lifetime.{Lifetime}
use Rattle.mr_cmd_string.specs.declared.text_ask.Lifetime.TheVariants.{Endless, Kept, Until}
use Rattle.mr_cmd_string.specs.declared.text_ask.Amount.{Amount}
use Rattle.mr_cmd_string.specs.declared.text_ask.Amount.TheVariants as amount
use Rattle.mr_arguments.specs.Expiry.{within_limit}

-- what is added to a number
abbrev pub amount_number : Amount → ℤ
amount_number amount.One = pos 1
amount_number amount.MinusOne = negsuc 0
amount_number (amount.Number n) = n
amount_number (amount.Opposite n) = n

-- the opposite of a number to be taken away, where it is a number of 64 bits too
abbrev pub opposite : ℤ → Result ℤ AskFault
opposite n = if is_i64 (neg_ℤ n) then Ok (neg_ℤ n) else Err (Other bad.Decrement)

-- the amounts of SETEX and of PSETEX, from 1 on
abbrev pub seconds : ℤ → Result ℤ AskFault
seconds n = with (not_below_1 (ExpireTime SetEx) n) (λ m. ok_or (seconds_of m) (ExpireTime SetEx))

abbrev pub milliseconds : ℤ → Result ℤ AskFault
milliseconds n = with (not_below_1 (ExpireTime PSetEx) n) (λ m. ok_or (milliseconds_of m) (ExpireTime PSetEx))

-- what the word behind EX, PX, EXAT or PXAT says: a number from 1 on
abbrev pub set_expiry : ExpiryUnit → List ℕ → Result Expiry AskFault
set_expiry unit word = with (integer word) (λ n. with (not_below_1 (ExpireTime Set) n) (within_limit Set unit))

-- how long a value stays, by the option of SET that says it
abbrev pub lifetime_if_any : Option LifetimeOption → Result Lifetime AskFault
lifetime_if_any None = Ok Endless
lifetime_if_any (Some option.Kept) = Ok Kept
lifetime_if_any (Some (option.Until unit number)) = with (set_expiry unit number) (λ e. Ok (Until e))
