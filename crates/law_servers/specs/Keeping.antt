-- What the file says of its node in the event loop: within turns, between them, and behind a fault.
use Rattle.std.specs.Prelude.{◌≡◌, ◌++◌, ℕ, List, [], Bool, Some, Ok, Err, length}
use Rattle.mr_keyspace.specs.Dataset.{Dataset}
use Rattle.mr_groups.specs.Folding.{LeadsByGroups, LoadsGroups, MakesByGroups}
use Rattle.mr_source.specs.Drawn.{DrawnState}
use Rattle.mr_file.specs.declared.sync_mode.SyncMode.{SyncMode}
use Rattle.mr_loop.specs.declared.fault.LoopFault.{LoopFault}
use Rattle.mr_loop.specs.declared.told.Turn.{Turn}
use Rattle.mr_loop.specs.Stage.{Stage}
use Rattle.mr_loop.specs.Rows.{Went}
use Rattle.mr_loop.specs.Outcomes.{Fails, Serves, Turns}

-- The file makes a dataset, and the texts that no append has taken yet lead from there to the node's.
pub record IsKept (s : Stage) : Type 0 where
  pub file : List ℕ
  pub told : s.told ≡ Some file
  pub filed : Dataset
  pub made : MakesByGroups file filed
  pub waiting : LeadsByGroups s.own.batch filed s.node.core.held

-- The file is read whole, and as the node's dataset.
pub record IsWhole (s : Stage) : Type 0 where
  pub file : List ℕ
  pub told : s.told ≡ Some file
  pub loads : LoadsGroups file (length file) s.node.core.held

-- The file makes a dataset, and behind that stands at most a beginning of texts of groups that lead on from there.
pub record IsTorn (s : Stage) : Type 0 where
  pub front : List ℕ
  pub torn : List ℕ
  pub told : s.told ≡ Some (front ++ torn)
  pub filed : Dataset
  pub made : MakesByGroups front filed
  pub more : List ℕ
  pub next : Dataset
  pub leads : LeadsByGroups (torn ++ more) filed next

-- ---- where nothing waits for the file
abbrev pub WholeFilesAreKept : Type 0
WholeFilesAreKept = (s : Stage) → s.own.batch ≡ [] → IsWhole s → IsKept s

abbrev pub KeptFilesAreWhole : Type 0
KeptFilesAreWhole = (s : Stage) → s.own.batch ≡ [] → IsKept s → IsWhole s

-- ---- whatever happens while turns go on
abbrev pub TurnsKeep : Type 0
TurnsKeep = (tells : Bool) (mode : SyncMode) (s t : Stage) → Went tells mode s t → IsKept s → IsKept t

-- behind a turn that went well, and behind turns one after another
abbrev pub TurnsLeaveWhole : Type 0
TurnsLeaveWhole = (tells : Bool) (mode : SyncMode) (s t : Stage) → s.own.batch ≡ [] → t.own.batch ≡ [] → IsWhole s
    → ((unused : List (List ℕ)) (drawn after : DrawnState) (turn : Turn) → Turns tells mode unused drawn after (Ok turn) s t → IsWhole t)
    × ((turns : ℕ) (drawn after : DrawnState) → Serves tells mode turns (Ok tt) drawn after s t → IsWhole t)

-- ---- behind a fault, of one turn or of the last of some
abbrev pub FaultsTear : Type 0
FaultsTear = (tells : Bool) (mode : SyncMode) (why : LoopFault) (s t : Stage) → IsKept s
    → ((unused : List (List ℕ)) (drawn after : DrawnState) → Fails tells mode unused drawn after why s t → IsTorn t)
    × ((turns : ℕ) (drawn after : DrawnState) → Serves tells mode turns (Err why) drawn after s t → IsTorn t)
