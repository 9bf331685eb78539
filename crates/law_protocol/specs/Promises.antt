-- What is promised of every run of a language.
use Rattle.std.specs.Prelude.{ℕ, List, ◌≡◌, ◌≤◌}
use Rattle.law_protocol.specs.Language.{Language}
use Rattle.law_protocol.specs.History.{IsAt, Grows}
use Rattle.law_protocol.specs.Node.{Node}
use Rattle.law_protocol.specs.World.{World, Shows}
use Rattle.law_protocol.specs.Event.{Event}
use Rattle.law_protocol.specs.Runs.{IsMoment, CaughtUp}
use Rattle.law_protocol.specs.Invariant.{Invariant}

-- At any two moments, nodes that show one id and offset hold one dataset.
abbrev pub NoSilentDifference : Language → Type 0
NoSilentDifference L = (events : List (Event L)) (moments : List (World L)) (j k : ℕ) (u v : World L)
    → IsMoment events moments j u → IsMoment events moments k v
    → (n m : ℕ) (i : L.Id) (o : ℕ) (x y : L.Dataset) → Shows u n i o x → Shows v m i o y → x ≡ y

-- At each moment a node that shows an id and an offset holds the dataset of that id's history at the offset.
abbrev pub TrueToHistory : Language → Type 0
TrueToHistory L = (events : List (Event L)) (moments : List (World L)) (k : ℕ) (v : World L) → IsMoment events moments k v
    → (n : ℕ) (i : L.Id) (o : ℕ) (m : L.Dataset) → Shows v n i o m → IsAt L v.book i o m

-- The book of a later moment begins with that of an earlier one.
abbrev pub HistoriesStay : Language → Type 0
HistoriesStay L = (events : List (Event L)) (moments : List (World L)) (j k : ℕ) (u v : World L)
    → IsMoment events moments j u → IsMoment events moments k v → j ≤ k → Grows L u.book v.book

-- A replica whose link is caught up shows its master's id and offset, and holds its dataset.
pub record IsLevel {L : Language} (replica master : Node L) : Type 0 where
  pub id : replica.id ≡ master.id
  pub offset : replica.offset ≡ master.offset
  pub held : replica.held ≡ master.held

abbrev pub CaughtUpIsLevel : Language → Type 0
CaughtUpIsLevel L = (events : List (Event L)) (moments : List (World L)) (k : ℕ) (v : World L) → IsMoment events moments k v
    → (l : ℕ) (replica master : Node L) → CaughtUp v l replica master → IsLevel replica master

-- What all this rests on holds at each moment.
abbrev pub InvariantHolds : Language → Type 0
InvariantHolds L = (events : List (Event L)) (moments : List (World L)) (k : ℕ) (v : World L) → IsMoment events moments k v → Invariant v
