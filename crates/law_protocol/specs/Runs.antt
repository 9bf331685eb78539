-- Runs, their moments, and what may be seen at them.
use Rattle.std.specs.Prelude.{ℕ, List, [], ◌∷◌, ◌≡◌, ◌≤◌, None, Some, true, length, slice_get}
use Rattle.law_protocol.specs.Language.{Language}
use Rattle.law_protocol.specs.Node.{Phase, Node}
use Rattle.law_protocol.specs.World.{Link, World, unread}
use Rattle.law_protocol.specs.Event.{Event}
use Rattle.law_protocol.specs.FollowerRows.{Usable}
use Rattle.law_protocol.specs.Rows.{Row}

-- the world before the first event
abbrev pub nowhere : (L : Language) → World L
nowhere L = record { node = λ n. None; link = λ l. None; book = λ i. None }

-- the worlds after each event, one by its row after the other
abbrev pub Moments : {L : Language} → World L → List (Event L) → List (World L) → Type 0
Moments w [] [] = Unit {0}
Moments w (e ∷ es) (v ∷ vs) = Row w e v × Moments v es vs
Moments w [] (v ∷ vs) = ⊥
Moments w (e ∷ es) [] = ⊥

-- Of the moments of a run of these events, the world before it counted as 0, v is the one of this number.
pub record IsMoment {L : Language} (events : List (Event L)) (moments : List (World L)) (number : ℕ) (v : World L) : Type 0 where
  pub run : Moments (nowhere L) events moments
  pub there : slice_get (nowhere L ∷ moments) number ≡ Some v

-- A link of two running nodes on which PSYNC was answered, both of whose ends are open. All that was sent was taken, and nothing
-- is unread that the replica uses.
pub record CaughtUp {L : Language} (w : World L) (l : ℕ) (replica master : Node L) : Type 0 where
  pub link : Link
  pub found : w.link l ≡ Some link
  pub n : ℕ
  pub replica_found : w.node n ≡ Some replica
  pub replica_up : replica.up ≡ true
  pub phase : Phase L.Id
  pub follow : replica.follow ≡ Some (record { link = l; phase = phase })
  pub m : ℕ
  pub to : link.to ≡ Some m
  pub master_found : w.node m ≡ Some master
  pub master_up : master.up ≡ true
  pub serving : link.serving ≡ true
  pub streams : link.streams ≡ true
  pub all_taken : length link.tell.left ≤ link.tell.taken
  pub nothing_left : Usable L phase (unread link.tell) → ⊥
