-- What is promised of every run of Worlds.
use Rattle.std.specs.Prelude.{◌≡◌, ◌≤◌, ℕ, List, [], ◌∷◌, ◌++◌, Bool}
use Rattle.std.specs.FinMap.{empty}
use Rattle.mr_keyspace.specs.Dataset.{Dataset}
use Rattle.law_protocol.specs.History.{Book}
use Rattle.law_minired.specs.Minired.{minired}
use Rattle.mr_node_spec.specs.State.{started}
use Rattle.mr_node_spec.specs.Sound.{IsSound}
use Rattle.law_refinement.specs.State.{Slot, WorldState}
use Rattle.law_refinement.specs.Worlds.{no_world}
use Rattle.law_refinement.specs.Carrying.{begun_slot, started_with}
use Rattle.law_refinement.specs.Events.{Holds}
use Rattle.law_refinement.specs.Showing.{Shows, Gives, HistoriesGoOn}
use Rattle.law_refinement.specs.Runs.{Run, IsMoment, last_of, CaughtUp}

-- At any two moments, nodes that show one id and offset hold one dataset.
abbrev pub NoSilentDifference : Type 0
NoSilentDifference = (moments : List WorldState) (j k : ℕ) (u v : WorldState) → IsMoment moments j u → IsMoment moments k v
    → (n m : ℕ) (id : List ℕ) (offset : ℕ) (x y : Dataset) → Shows u n id offset x → Shows v m id offset y → x ≡ y

-- At each moment a node that shows an id and an offset holds what the history of the id gives there.
abbrev pub TrueToHistory : Type 0
TrueToHistory = (moments : List WorldState) (k : ℕ) (v : WorldState) → IsMoment moments k v
    → (n : ℕ) (id : List ℕ) (offset : ℕ) (m : Dataset) → Shows v n id offset m → Gives v id offset m

-- And that is one dataset.
abbrev pub HistoriesGiveOne : Type 0
HistoriesGiveOne = (w : WorldState) (id : List ℕ) (offset : ℕ) (m n : Dataset) → Gives w id offset m → Gives w id offset n → m ≡ n

-- At a later moment each id has the history that it had, and perhaps more of it.
abbrev pub HistoriesStay : Type 0
HistoriesStay = (moments : List WorldState) (j k : ℕ) (u v : WorldState) → IsMoment moments j u → IsMoment moments k v → j ≤ k → HistoriesGoOn u v

-- The replica shows its master's id and offset, and holds its dataset.
pub record IsLevel (replica master : Slot) : Type 0 where
  pub id : replica.node.core.lineage.id ≡ master.node.core.lineage.id
  pub offset : replica.node.core.lineage.stream.offset ≡ master.node.core.lineage.stream.offset
  pub held : replica.node.core.held ≡ master.node.core.held

-- .. where its link is caught up
abbrev pub CaughtUpIsLevel : Type 0
CaughtUpIsLevel = (moments : List WorldState) (k : ℕ) (v : WorldState) → IsMoment moments k v
    → (l : ℕ) (replica master : Slot) → CaughtUp v l replica master → IsLevel replica master

-- What is asked of a World before an event holds at each moment.
abbrev pub MomentsAreKnown : Type 0
MomentsAreKnown = (moments : List WorldState) (k : ℕ) (v : WorldState) → IsMoment moments k v → (book : Book minired) × Holds v book

-- A run, and one from where it ended, are one run, which ends where the second does.
abbrev pub RunsGoOn : Type 0
RunsGoOn = (w : WorldState) (us vs : List WorldState) → Run w us → Run (last_of w us) vs → Run w (us ++ vs) × (last_of w (us ++ vs) ≡ last_of (last_of w us) vs)

-- There are runs: where nothing has begun a node may start, and it shows offset 0 and the empty dataset.
abbrev pub StartsAreRuns : Type 0
StartsAreRuns = (as_replica : Bool) (port backlog : ℕ) (id file : List ℕ) → IsSound (started as_replica port backlog id empty)
    → let v = started_with no_world (begun_slot as_replica port backlog id empty file) id in
    IsMoment (v ∷ []) 1 v × Shows v 0 id 0 empty
