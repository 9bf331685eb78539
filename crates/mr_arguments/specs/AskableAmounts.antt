-- Which amounts of time words can say.
use Rattle.std.specs.Prelude.{IsTrue}
use Rattle.mr_arguments.specs.Askable.{IsI64}
use Rattle.mr_arguments.specs.Amounts.{is_amount}
use Rattle.mr_arguments.specs.Expiry.{milliseconds, number_said}
use Rattle.mr_arguments.specs.declared.expiry.Expiry.{Expiry}

-- an amount of time within the limit, whose number has 64 bits
abbrev pub IsAmount : Expiry → Type 0
IsAmount expiry = IsI64 (number_said expiry) × IsTrue (is_amount (milliseconds expiry))
