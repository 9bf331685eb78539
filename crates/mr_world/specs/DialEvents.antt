-- What a dial is among histories, and what its two parts are.
use Rattle.std.specs.Prelude.{ℕ}
use Rattle.law_protocol.specs.History.{Book}
use Rattle.law_protocol.specs.Event as events
use Rattle.law_minired.specs.Minired.{minired}
use Rattle.law_refinement.specs.State.{WorldState}
use Rattle.law_refinement.specs.Events.{Holds, IsEvent}
use Rattle.mr_world.specs.Accepting.{Accepted, CanAccept, CanConnect, Connected}
use Rattle.mr_world.specs.Connecting.{CanDial, Dialled}

-- A dial, as it is taken, is one of histories, whatever came of it.
abbrev pub DialsAreEvents : Type 0
DialsAreEvents = (w : WorldState) (book : Book minired) (n m : ℕ) (v : WorldState) → Holds w book → CanDial w n m → Dialled w n m v → IsEvent w book (events.Event.Dial n m) v

-- So is a connect, and an accept.
abbrev pub ConnectsAreEvents : Type 0
ConnectsAreEvents = (w : WorldState) (book : Book minired) (n : ℕ) (v : WorldState) → Holds w book → CanConnect w n → Connected w n v → IsEvent w book (events.Event.Connect n) v

abbrev pub AcceptsAreEvents : Type 0
AcceptsAreEvents = (w : WorldState) (book : Book minired) (l m : ℕ) (v : WorldState) → Holds w book → CanAccept w l m → Accepted w l m v → IsEvent w book (events.Event.Accept l m) v
