-- The order of faults: of several the first is answered.
use Rattle.std.specs.Prelude.{◌≤◌, All, Contains, ℕ, List, [], ◌∷◌, if◌then◌else◌, nat_lt, Option, Some, None, Result, Ok, Err}
use Rattle.mr_arguments.specs.declared.name.Name.{Name}
use Rattle.mr_arguments.specs.declared.fault.AskFault.{AskFault}
use Rattle.mr_arguments.specs.declared.fault.AskFault.TheVariants.{Unknown, Arity, Syntax, Integer, ExpireTime, Other}

abbrev pub place_of : AskFault → ℕ
place_of Unknown = 1
place_of (Arity name) = 2
place_of Syntax = 3
place_of Integer = 4
place_of (ExpireTime command) = 5
place_of (Other value) = 6

abbrev pub earlier : AskFault → AskFault → AskFault
earlier f g = if nat_lt (place_of g) (place_of f) then g else f

abbrev pub earlier_of_any : AskFault → Option AskFault → AskFault
earlier_of_any f None = f
earlier_of_any f (Some g) = earlier f g

-- the one that comes first
abbrev pub first_of : List AskFault → Option AskFault
first_of [] = None
first_of (f ∷ fs) = Some (earlier_of_any f (first_of fs))

-- it is among them, and none comes before it
abbrev pub IsFirst : List AskFault → AskFault → Type 0
IsFirst faults fault = Contains faults fault × All (λ other. place_of fault ≤ place_of other) faults

-- the fault that is answered, if one is
abbrev pub answered_fault : {A : Type 0} → Result A AskFault → Option AskFault
answered_fault (Ok a) = None
answered_fault (Err fault) = Some fault

-- the fault that a reading has, if it has one
abbrev pub in_reading : {A : Type 0} → Result A AskFault → List AskFault
in_reading (Ok a) = []
in_reading (Err fault) = fault ∷ []

-- the faults of arguments; None where they are too few or too many
abbrev pub counted : Name → Option (List AskFault) → List AskFault
counted name None = Arity name ∷ []
counted name (Some faults) = faults
