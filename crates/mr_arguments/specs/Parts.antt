-- What single arguments say.
use Rattle.std.specs.Prelude.{ℕ, ℤ, pos, negsuc, List, Result, Ok, Err, int_lt, if◌then◌else◌}
use Rattle.std.specs.Option.{ok_or}
use Rattle.mr_bytes.specs.Number.{number_of}
use Rattle.mr_arguments.specs.declared.fault.AskFault.{AskFault}
use Rattle.mr_arguments.specs.declared.fault.AskFault.TheVariants.{Integer, Other}
use Rattle.mr_arguments.specs.declared.fault.BadValue.{BadValue}
use Rattle.mr_arguments.specs.declared.fault.BadValue.TheVariants as bad

-- what is read with an argument that was read, or that argument's fault
abbrev pub with : {A B : Type 0} → Result A AskFault → (A → Result B AskFault) → Result B AskFault
with (Ok a) next = next a
with (Err fault) next = Err fault

-- a whole number of 64 bits
abbrev pub integer : List ℕ → Result ℤ AskFault
integer word = ok_or (number_of word) Integer

-- a number that isn't below 0, where one below 0 is that bad value
abbrev pub not_below_0 : BadValue → ℤ → Result ℕ AskFault
not_below_0 otherwise (pos n) = Ok n
not_below_0 otherwise (negsuc n) = Err (Other otherwise)

abbrev pub count : List ℕ → Result ℕ AskFault
count word = with (integer word) (not_below_0 bad.Negative)

abbrev pub offset : List ℕ → Result ℕ AskFault
offset word = with (integer word) (not_below_0 bad.Offset)

-- a number from 1 on, or else that fault
abbrev pub not_below_1 : AskFault → ℤ → Result ℤ AskFault
not_below_1 otherwise n = if int_lt n (pos 1) then Err otherwise else Ok n
