-- What holds of what is read of one kind holds of the command.
use Rattle.std.specs.Prelude.{IfOk, Result, Ok, Err}
use Rattle.mr_ask.specs.Asks.{of_kind}
use Rattle.mr_arguments.specs.declared.fault.AskFault.{AskFault}
use Rattle.mr_ask.specs.declared.ask.Ask.{Ask}

pub of_kind_carries : {A : Type 0} (r : Result A AskFault) (kind : A → Ask) (P : Ask → Type 0) → IfOk r (λ a. P (kind a)) → IfOk (of_kind kind r) P
of_kind_carries (Ok a) kind P h = h
of_kind_carries (Err f) kind P h = tt
