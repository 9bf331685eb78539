use Rattle.std.proofs.Common.{◌≡◌, ℕ, ◌+◌, ◌-◌, None, get_or, length}
use Rattle.mr_silence.proofs.silence.fill_to.Given as goal

abbrev pub invariant-loop-places : goal.invariant-loop-places
invariant-loop-places l = (k : ℕ) → get_or l.places.items k None ≡ get_or l.fn.places.items k None

abbrev pub decreases-loop-places : goal.decreases-loop-places
decreases-loop-places l = l.place + 1 - length l.places.items
