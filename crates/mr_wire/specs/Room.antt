-- For how many links there is room.
use Rattle.std.specs.Prelude.{◌≡◌, ℕ, Bool, false, ◌-◌, Option, None, Some, IfOk, IfSome, Result, max, min}

-- so many peers may have a link at once where so many are to, and there are so many descriptors: 32 are kept, and there is room for one
abbrev pub most_links : ℕ → Option ℕ → ℕ
most_links wanted None = wanted
most_links wanted (Some count) = max (min wanted (count - 32)) 1

-- whoever comes is let in only where not all room is taken
abbrev pub ComesIn : {E X : Type 0} → Bool → Result (Option X) E → Type 0
ComesIn is_full result = IfOk result (λ next. IfSome next (λ _. is_full ≡ false))
