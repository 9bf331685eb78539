-- When a key expires, as a request says it.
use Rattle.std.specs.Prelude.{ℤ, ◌+ℤ◌, if◌then◌else◌, Option, Some, None, Result}
use Rattle.mr_arguments.specs.Amounts.{is_amount, of_seconds}
use Rattle.mr_arguments.specs.declared.expiry.Expiry.{Expiry}
use Rattle.mr_arguments.specs.declared.expiry.Expiry.TheVariants.{Seconds, Milliseconds, AtSecond, AtMillisecond}
use Rattle.mr_arguments.specs.declared.expiry.ExpiryUnit.{ExpiryUnit}
use Rattle.mr_arguments.specs.declared.expiry.ExpiryUnit.TheVariants as unit
use Rattle.std.specs.Option.{ok_or}
use Rattle.mr_arguments.specs.declared.fault.AskFault.{AskFault}
use Rattle.mr_arguments.specs.declared.fault.AskFault.TheVariants.{ExpireTime}
use Rattle.mr_arguments.specs.declared.fault.ExpiringCommand.{ExpiringCommand}

-- in milliseconds
abbrev pub milliseconds : Expiry → ℤ
milliseconds (Seconds n) = of_seconds n
milliseconds (Milliseconds n) = n
milliseconds (AtSecond n) = of_seconds n
milliseconds (AtMillisecond n) = n

-- the moment from which on the key is expired, where it was said at the moment `now`
abbrev pub deadline_at : ℤ → Expiry → ℤ
deadline_at now (Seconds n) = now +ℤ milliseconds (Seconds n)
deadline_at now (Milliseconds n) = now +ℤ milliseconds (Milliseconds n)
deadline_at now (AtSecond n) = milliseconds (AtSecond n)
deadline_at now (AtMillisecond n) = milliseconds (AtMillisecond n)

-- so many of a unit
abbrev pub said : ExpiryUnit → ℤ → Expiry
said unit.Seconds n = Seconds n
said unit.Milliseconds n = Milliseconds n
said unit.AtSecond n = AtSecond n
said unit.AtMillisecond n = AtMillisecond n

-- .. if they are within the limit
abbrev pub expiry_of : ExpiryUnit → ℤ → Option Expiry
expiry_of unit n = if is_amount (milliseconds (said unit n)) then Some (said unit n) else None

-- the unit in which it was said
abbrev pub unit_said : Expiry → ExpiryUnit
unit_said (Seconds n) = unit.Seconds
unit_said (Milliseconds n) = unit.Milliseconds
unit_said (AtSecond n) = unit.AtSecond
unit_said (AtMillisecond n) = unit.AtMillisecond

-- the number that stood in the request
abbrev pub number_said : Expiry → ℤ
number_said (Seconds n) = n
number_said (Milliseconds n) = n
number_said (AtSecond n) = n
number_said (AtMillisecond n) = n

-- so many of a unit, which are within the limit
abbrev pub within_limit : ExpiringCommand → ExpiryUnit → ℤ → Result Expiry AskFault
within_limit command unit n = ok_or (expiry_of unit n) (ExpireTime command)
