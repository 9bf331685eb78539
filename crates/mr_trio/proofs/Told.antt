-- What is so of an answer, where there is one.
use Rattle.std.specs.Prelude.{Result, Ok, Err, Option, Some, None, IfOk, IfSome}

pub if_told : {X F : Type 0} {A : Type 0} (r : Result (Option X) F) → A → IfOk r (λ o. IfSome o (λ _. A))
if_told (Ok (Some x)) a = a
if_told (Ok None) a = tt
if_told (Err f) a = tt
