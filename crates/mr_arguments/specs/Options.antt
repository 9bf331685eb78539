-- Options, one after another.
use Rattle.std.specs.Prelude.{List, [], ◌∷◌, Result, Ok}
use Rattle.mr_arguments.specs.Parts.{with}
use Rattle.mr_arguments.specs.declared.fault.AskFault.{AskFault}

-- what stands once each item was added, or the first fault
abbrev pub added : {A S : Type 0} → (S → A → Result S AskFault) → S → List A → Result S AskFault
added add so_far [] = Ok so_far
added add so_far (item ∷ items) = with (add so_far item) (λ next. added add next items)
