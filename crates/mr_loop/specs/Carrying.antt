-- What becomes of the outs of a call on the node, as they are carried out one after another.
use Rattle.std.specs.Prelude.{◌≡◌, ℕ, List, [], ◌∷◌, ◌++◌, Result, Ok, Err}
use Rattle.mr_file.specs.LogFile.{Replaces, IsOldOrNew, IsSynced}
use Rattle.mr_node_output.specs.Outs.{OutState, grow, append, replace, send, close, use_id, follow, halt}
use Rattle.mr_node_spec.specs.LinkRows.{closed_at}
use Rattle.mr_connections.specs.State.{sent, parted}
use Rattle.mr_loop.specs.declared.fault.LoopFault.{LoopFault}
use Rattle.mr_loop.specs.declared.fault.LoopFault.TheVariants as fault
use Rattle.mr_loop.specs.Stage.{Stage, with_connections, filed, committed, halting, lacking}

abbrev pub SameFile : Stage → Stage → Type 0
SameFile s t = (t.told ≡ s.told) × (t.synced ≡ s.synced)

-- The file is replaced by these bytes at once, and synced. They have all effects so far, so that nothing waits for the file any more.
pub record IsRewritten (bytes : List ℕ) (s t : Stage) : Type 0 where
  pub written : Replaces s.told t.told bytes
  pub synced : IsSynced t.told t.synced
  pub own : t.own ≡ committed s.own
  pub node : t.node ≡ s.node
  pub wire : t.wire ≡ s.wire
  pub failed : t.failed ≡ s.failed

-- An out is carried out: texts wait for the file; the file is replaced; bytes wait on a link; the node's end of a link is closed, and its connection
-- gets nothing more. That the stream grew, whom the node follows and which id it took are its own affair.
abbrev pub Carries : OutState → Stage → Stage → Type 0
Carries (grow bytes) s t = t ≡ s
Carries (append bytes) s t = t ≡ record s { own = filed bytes s.own }
Carries (replace bytes) s t = IsRewritten bytes s t
Carries (send link bytes) s t = t ≡ record s { own = with_connections (sent link bytes) s.own }
Carries (close link) s t = t ≡ record s { own = with_connections (parted link) s.own; node = closed_at link s.node }
Carries (use_id id) s t = t ≡ s
Carries (follow address) s t = t ≡ s
Carries halt s t = t ≡ record s { own = halting s.own }

-- one after another
abbrev pub Carried : List OutState → Stage → Stage → Type 0
Carried [] s t = t ≡ s
Carried (out ∷ outs) s t = (mid : Stage) × Carries out s mid × Carried outs mid t

-- Some of all were carried out, and these are left.
pub record SoFar (all rest : List OutState) (s t : Stage) : Type 0 where
  pub done : List OutState
  pub are : all ≡ done ++ rest
  pub carried : Carried done s t

-- room has to be found for what waits
abbrev pub WantsRoom : OutState → Type 0
WantsRoom (append bytes) = Unit {0}
WantsRoom (send link bytes) = Unit {0}
WantsRoom _ = ⊥

-- **Memory ran out for an out**, which the loop remembers: those before it were carried out, and no more.
pub record Spilled (outs : List OutState) (s t : Stage) : Type 0 where
  pub done : List OutState
  pub last : OutState
  pub rest : List OutState
  pub are : outs ≡ done ++ last ∷ rest
  pub before : Stage
  pub carried : Carried done s before
  pub wants : WantsRoom last
  pub lacks : t ≡ record before { own = lacking before.own }

-- The file was to be replaced, and failed: it has the old bytes, or the new ones. The outs before were carried out, and no more.
pub record Torn (outs : List OutState) (s t : Stage) : Type 0 where
  pub done : List OutState
  pub bytes : List ℕ
  pub rest : List OutState
  pub are : outs ≡ done ++ replace bytes ∷ rest
  pub before : Stage
  pub carried : Carried done s before
  pub written : IsOldOrNew before.told t.told bytes
  pub own : t.own ≡ before.own
  pub node : t.node ≡ before.node
  pub wire : t.wire ≡ before.wire
  pub failed : t.failed ≡ before.failed

-- what comes of carrying outs out, by what is answered
abbrev pub CarriesAs : Result (Unit {0}) LoopFault → List OutState → Stage → Stage → Type 0
CarriesAs (Ok _) outs s t = Carried outs s t
CarriesAs (Err fault.File) outs s t = Torn outs s t
CarriesAs (Err fault.Stopped) outs s t = Spilled outs s t
CarriesAs (Err fault.Listener) outs s t = ⊥

-- .. one of them
abbrev pub CarriesOneAs : Result (Unit {0}) LoopFault → OutState → Stage → Stage → Type 0
CarriesOneAs r out s t = CarriesAs r (out ∷ []) s t
