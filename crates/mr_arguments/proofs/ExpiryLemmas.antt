-- What is said in a unit, within the limit.
use Rattle.std.proofs.Common.{ℤ, ◌≡◌, Bool, true, false, Some, None, refl}
use Rattle.std.specs.Prelude.{if◌then◌else◌, Ok}
use Rattle.std.specs.Option.{ok_or}
use Rattle.mr_arguments.specs.Expiry.{within_limit, said, unit_said, number_said}
use Rattle.mr_arguments.specs.Amounts.{is_amount}
use Rattle.mr_arguments.specs.Expiry as expiries
use Rattle.mr_arguments.specs.declared.fault.AskFault.{AskFault}
use Rattle.mr_arguments.specs.declared.fault.AskFault.TheVariants.{ExpireTime}
use Rattle.mr_arguments.specs.declared.fault.ExpiringCommand.{ExpiringCommand}
use Rattle.mr_arguments.specs.declared.expiry.Expiry.{Expiry}
use Rattle.mr_arguments.specs.declared.expiry.ExpiryUnit.{ExpiryUnit}
use Rattle.mr_arguments.specs.declared.expiry.ExpiryUnit.TheVariants as unit

-- what is said in a unit has that unit and that number
pub unit_is : (u : ExpiryUnit) (n : ℤ) → unit_said (said u n) ≡ u
unit_is unit.Seconds n = refl
unit_is unit.Milliseconds n = refl
unit_is unit.AtSecond n = refl
unit_is unit.AtMillisecond n = refl

pub number_is : (u : ExpiryUnit) (n : ℤ) → number_said (said u n) ≡ n
number_is unit.Seconds n = refl
number_is unit.Milliseconds n = refl
number_is unit.AtSecond n = refl
number_is unit.AtMillisecond n = refl

-- what is within the limit is what was said
pub limit_passed : {A : Type 0} (b : Bool) (f : AskFault) (x y : A) → ok_or (if b then Some x else None) f ≡ Ok y → x ≡ y
limit_passed true f x y h = cc
limit_passed false f x y h = cc

pub within_read : (c : ExpiringCommand) (u : ExpiryUnit) (n : ℤ) (e : Expiry) → within_limit c u n ≡ Ok e → said u n ≡ e
within_read c u n e h = limit_passed (is_amount (expiries.milliseconds (said u n))) (ExpireTime c) (said u n) e h
