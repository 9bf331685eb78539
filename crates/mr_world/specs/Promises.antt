-- What is promised of all that happens to one World, over any runs of it.
use Rattle.std.specs.Prelude.{◌≡◌, ℕ, List, [], ◌∷◌, ◌++◌, Result, Ok, Err, Some, true, length, take, drop, slice_get}
use Rattle.mr_keyspace.specs.Dataset.{Dataset}
use Rattle.mr_groups.specs.Folding.{MakesByGroups}
use Rattle.law_refinement.specs.State.{Slot, WorldState}
use Rattle.law_files.specs.Worlds.{GoOn, GrownSince, HasGrown}
use Rattle.law_refinement.specs.Worlds.{no_world}
use Rattle.law_refinement.specs.Showing.{Shows, Gives, HistoriesGoOn}
use Rattle.law_refinement.specs.Runs.{CaughtUp, last_of}
use Rattle.law_refinement.specs.Headline.{IsLevel}
use Rattle.mr_world.specs.declared.event.Event.{Event}
use Rattle.mr_world.specs.declared.refusal.Refusal.{Refusal}
use Rattle.mr_world.specs.Running.{RunCall, TookAll}

-- These lists of events were handed to the World, one after another, each whatever came of it. A moment within a run is the end of one of
-- fewer events.
abbrev pub Ran : WorldState → List (List Event) → WorldState → Type 0
Ran w [] v = v ≡ w
Ran w (es ∷ more) v = (u : WorldState) × (result : Result (Unit {0}) (ℕ × Refusal)) × RunCall w es u result × Ran u more v

-- the Worlds behind the events of a run: behind each that was taken, and behind the one that was refused
abbrev pub run_moments : (w : WorldState) (es : List Event) (v : WorldState) (result : Result (Unit {0}) (ℕ × Refusal)) → RunCall w es v result → List WorldState
run_moments w es v (Ok done) t = t.moments
run_moments w es v (Err p) t = t.took.moments ++ v ∷ []

-- .. of runs one after another
abbrev pub moments_of : (w : WorldState) (runs : List (List Event)) (v : WorldState) → Ran w runs v → List WorldState
moments_of w [] v r = []
moments_of w (es ∷ more) v r = run_moments w es r.0 r.1 r.2 ++ moments_of r.0 more v r.3

-- So it is: at a moment of a run the first events were taken, and from there the others are.
abbrev pub MomentsAreRuns : Type 0
MomentsAreRuns = (w : WorldState) (es : List Event) (v : WorldState) (t : TookAll w es v) (k : ℕ) (u : WorldState) → slice_get (w ∷ t.moments) k ≡ Some u
    → TookAll w (take k es) u × TookAll u (drop k es) v

-- At any two moments, nodes that show one id and offset hold one dataset.
abbrev pub NodesNeverDiffer : Type 0
NodesNeverDiffer = (first later : List (List Event)) (u v : WorldState) → Ran no_world first u → Ran u later v
    → (n m : ℕ) (id : List ℕ) (offset : ℕ) (x y : Dataset) → Shows u n id offset x → Shows v m id offset y → x ≡ y

-- At each moment a node that shows an id and an offset holds what the history of the id gives there.
abbrev pub NodesAreTrue : Type 0
NodesAreTrue = (runs : List (List Event)) (v : WorldState) → Ran no_world runs v
    → (n : ℕ) (id : List ℕ) (offset : ℕ) (m : Dataset) → Shows v n id offset m → Gives v id offset m

-- At a later moment each id has the history that it had, and perhaps more of it.
abbrev pub BookGrows : Type 0
BookGrows = (first later : List (List Event)) (u v : WorldState) → Ran no_world first u → Ran u later v → HistoriesGoOn u v

-- A replica whose link is caught up shows its master's id and offset, and holds its dataset.
abbrev pub ReplicasAreLevel : Type 0
ReplicasAreLevel = (runs : List (List Event)) (v : WorldState) → Ran no_world runs v
    → (l : ℕ) (replica master : Slot) → CaughtUp v l replica master → IsLevel replica master

-- The node n, whose slot is this, runs at these moments too, and from each to the next its file only grows, by the texts of the groups that were
-- applied, but for heartbeats. In the end its slot is t.
abbrev pub OnlyGrows : ℕ → Slot → List WorldState → Slot → Type 0
OnlyGrows n s [] t = s ≡ t
OnlyGrows n s (v ∷ later) t = (u : Slot) × (slice_get v.slots n ≡ Some u) × (u.node.core.up ≡ true) × HasGrown s u × OnlyGrows n u later t

-- The file of a node, whose slot is t at the last of these moments, makes its dataset. At one of them it was written anew, or the node started: the file
-- is what it was then, and behind that the texts of the groups that were applied since, but for heartbeats. Since then it has only grown.
pub record IsFiled (moments : List WorldState) (n : ℕ) (t : Slot) : Type 0 where
  pub made : MakesByGroups t.file t.node.core.held
  pub go : GoOn no_world moments
  pub since : GrownSince moments n (length moments) t
  pub later : OnlyGrows n since.slot (drop since.since moments) t

-- Behind any runs that is so of each node that isn't stopped, of the moments of these runs.
abbrev pub FilesAreDatasets : Type 0
FilesAreDatasets = (runs : List (List Event)) (v : WorldState) (r : Ran no_world runs v) → (last_of no_world (moments_of no_world runs v r) ≡ v)
    × ((n : ℕ) (t : Slot) → slice_get v.slots n ≡ Some t → t.node.core.up ≡ true → IsFiled (moments_of no_world runs v r) n t)
