-- How a call answers what may be undefined.
use Rattle.std.specs.Prelude.{◌≡◌, ◌≢◌, Option, Some, None, Result, Err, OnOk}
use Rattle.mr_keyspace.specs.Dataset.{Dataset}
use Rattle.mr_keyspace.specs.declared.fault.ApplyFault.{ApplyFault}
use Rattle.mr_keyspace.specs.declared.fault.ApplyFault.TheVariants.{Refused}

-- what is undefined is refused, and nothing has changed; else it is done, unless memory ran out
abbrev pub Applies : Option Dataset → Dataset → Result (Unit {0}) ApplyFault → Dataset → Type 0
Applies None old result new = (result ≡ Err Refused) × (new ≡ old)
Applies (Some m) old result new = (result ≢ Err Refused) × OnOk result (new ≡ m)
