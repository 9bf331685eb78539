-- Which faults a reading can have, and where they stand in the order of faults.
use Rattle.std.proofs.Common.{ℕ, ◌≡◌, true, false, Option, Some, None, refl}
use Rattle.std.specs.Prelude.{nat_lt, Result, Ok, Err}
use Rattle.std.specs.Option.{ok_or}
use Rattle.mr_arguments.specs.FaultOrder.{place_of}
use Rattle.mr_arguments.proofs.OrderLemmas.{OnlySyntax}
use Rattle.mr_arguments.specs.declared.fault.AskFault.{AskFault}
use Rattle.mr_arguments.specs.declared.fault.AskFault.TheVariants.{Syntax}

-- there is no other fault
abbrev pub OnlyFault : {A : Type 0} → AskFault → Result A AskFault → Type 0
OnlyFault fault (Ok a) = Unit {0}
OnlyFault fault (Err other) = other ≡ fault

pub found_or : {A : Type 0} (o : Option A) (fault : AskFault) → OnlyFault fault (ok_or o fault)
found_or None fault = refl
found_or (Some a) fault = tt

-- a fault comes later than a place in their order, or not before it, or before it
abbrev pub ComesLater : {A : Type 0} → ℕ → Result A AskFault → Type 0
ComesLater place (Ok a) = Unit {0}
ComesLater place (Err fault) = nat_lt place (place_of fault) ≡ true

abbrev pub ComesNotBefore : {A : Type 0} → ℕ → Result A AskFault → Type 0
ComesNotBefore place (Ok a) = Unit {0}
ComesNotBefore place (Err fault) = nat_lt (place_of fault) place ≡ false

abbrev pub ComesBefore : {A : Type 0} → ℕ → Result A AskFault → Type 0
ComesBefore place (Ok a) = Unit {0}
ComesBefore place (Err fault) = nat_lt (place_of fault) place ≡ true

pub no_other : {A : Type 0} (r : Result A AskFault) → OnlySyntax r → OnlyFault Syntax r
unfolding OnlySyntax
no_other (Ok a) h = tt
no_other (Err f) h = h
