-- What a turn and its parts did, by what they answer.
use Rattle.std.specs.Prelude.{◌≡◌, ◌<◌, ◌⊎◌, ℕ, ℤ, zero, suc, List, [], ◌∷◌, ◌++◌, Bool, true, false, Some, Result, Ok, Err}
use Rattle.mr_source.specs.Drawn.{DrawnState, with_more}
use Rattle.mr_file.specs.LogFile.{Rose}
use Rattle.mr_file.specs.declared.sync_mode.SyncMode.{SyncMode}
use Rattle.mr_loop.specs.declared.fault.LoopFault.{LoopFault}
use Rattle.mr_loop.specs.declared.fault.LoopFault.TheVariants as fault
use Rattle.mr_loop.specs.declared.told.Turn.{Turn}
use Rattle.mr_loop.specs.Stage.{Stage}
use Rattle.mr_loop.specs.Rows.{Event, fault_of, Happens, IsToldToStop, Went}
use Rattle.mr_loop.specs.Giving.{AreAmong, Rises, Supplies, moments_in, ids_taken_in}
use Rattle.mr_loop.specs.Counting.{CountsStill, MomentState, Reaches, ReachesAny, TellsOf}

module _ (tells : Bool) (mode : SyncMode) where
  -- Some events, behind each of which the turn goes on, and then one that is told as this fault. It is the last. They have what the source of a turn gives, of whose
  -- ids these were not taken before.
  pub record Broke (unused : List (List ℕ)) (drawn after : DrawnState) (why : LoopFault) (s t : Stage) : Type 0 where
    pub before : Stage
    pub went : Went tells mode s before
    pub last : Event
    pub told : fault_of last ≡ Some why
    pub happens : Happens tells mode before last t
    pub left : List (List ℕ)
    pub given : Supplies unused drawn (went.events ++ last ∷ []) left after

  -- .. of a turn on its way
  abbrev pub HasBroken : LoopFault → (old new : MomentState) → Stage → Stage → Type 0
  HasBroken why old new s t = Broke (old.fresh ∷ []) old.drawn new.drawn why s t

  -- What a part of a turn did that answers this: behind a value each event went on and is counted, and none was a tick; behind a fault the last one is told as it, and no
  -- count is told.
  abbrev pub Does : {A : Type 0} → Result A LoopFault → (old new : MomentState) → Stage → Stage → Type 0
  Does (Ok value) old new s t = CountsStill tells mode old new s t
  Does (Err why) old new s t = HasBroken why old new s t

  -- .. and so many at least are told of by this count, where there may be more
  abbrev pub DoesUpTo : (Event → ℕ) → ℕ → Result Bool LoopFault → (old new : MomentState) → Stage → Stage → Type 0
  DoesUpTo f most (Ok more) old new s t = Reaches tells mode f most more old new s t
  DoesUpTo f most (Err why) old new s t = HasBroken why old new s t

  -- .. by that of the pieces of some connection
  abbrev pub DoesUpToAny : ℕ → Result Bool LoopFault → (old new : MomentState) → Stage → Stage → Type 0
  DoesUpToAny most (Ok more) old new s t = ReachesAny tells mode most more old new s t
  DoesUpToAny most (Err why) old new s t = HasBroken why old new s t

  -- .. that tells what it counted
  abbrev pub DoesTelling : Result Turn LoopFault → (old new : MomentState) → Stage → Stage → Type 0
  DoesTelling (Ok turn) old new s t = TellsOf tells mode (old.fresh ∷ []) old.drawn new.drawn turn s t
  DoesTelling (Err why) old new s t = HasBroken why old new s t

  -- .. and then the node is stopped, and nothing else changes
  pub record BreaksDown (unused : List (List ℕ)) (drawn after : DrawnState) (why : LoopFault) (s t : Stage) : Type 0 where
    pub behind : Stage
    pub broke : Broke unused drawn after why s behind
    pub stopped : IsToldToStop behind t

  -- The wire couldn't be waited on: it failed, and nothing else has changed. Nothing is drawn from the source.
  pub record CannotWait (drawn after : DrawnState) (s t : Stage) : Type 0 where
    pub rose : Rose s.failed t.failed
    pub is : t ≡ record s { failed = t.failed }
    pub none_drawn : after ≡ drawn

  -- What a turn did that ends for this.
  abbrev pub Fails : List (List ℕ) → (drawn after : DrawnState) → LoopFault → Stage → Stage → Type 0
  Fails unused drawn after fault.Listener s t = CannotWait drawn after s t
  Fails unused drawn after fault.File s t = BreaksDown unused drawn after fault.File s t
  Fails unused drawn after fault.Stopped s t = BreaksDown unused drawn after fault.Stopped s t

  -- What a turn did that answers this.
  abbrev pub Turns : List (List ℕ) → (drawn after : DrawnState) → Result Turn LoopFault → Stage → Stage → Type 0
  Turns unused drawn after (Ok turn) s t = TellsOf tells mode unused drawn after turn s t
  Turns unused drawn after (Err why) s t = Fails unused drawn after why s t

  -- A turn went on, and this is whether a client asked in it that the program end.
  pub record HasTurned (halted : Bool) (drawn after : DrawnState) (s t : Stage) : Type 0 where
    pub turn : Turn
    pub tells_of : TellsOf tells mode [] drawn after turn s t
    pub is : turn.halted ≡ halted

  -- So many turns, one after another, in none of which a client asked so. The moments of a turn, and the ids that it takes, are given in it, behind those of all turns before.
  abbrev pub TurnsOn : ℕ → (drawn after : DrawnState) → Stage → Stage → Type 0
  TurnsOn zero drawn after s t = (t ≡ s) × (after ≡ drawn)
  TurnsOn (suc n) drawn after s t = (mid : Stage) × (between : DrawnState) × TurnsOn n drawn between s mid × HasTurned false between after mid t

  -- the ids that so many turns took
  abbrev pub taken_over : (n : ℕ) (drawn after : DrawnState) (s t : Stage) → TurnsOn n drawn after s t → List (List ℕ)
  taken_over zero drawn after s t turns = []
  taken_over (suc n) drawn after s t turns = taken_over n drawn turns.1 s turns.0 turns.2 ++ ids_taken_in turns.3.tells_of.went.events

  -- the moments of so many turns
  abbrev pub moments_over : (n : ℕ) (drawn after : DrawnState) (s t : Stage) → TurnsOn n drawn after s t → List ℤ
  moments_over zero drawn after s t turns = []
  moments_over (suc n) drawn after s t turns = moments_over n drawn turns.1 s turns.0 turns.2 ++ moments_in turns.3.tells_of.went.events

  -- What ends them behind so many: all were made, or a client asked so in the next, or that met a fault.
  abbrev pub Ends : (turns count : ℕ) → Result (Unit {0}) LoopFault → (drawn after : DrawnState) → Stage → Stage → Type 0
  Ends turns count (Ok value) drawn after s t = ((count ≡ turns) × (t ≡ s) × (after ≡ drawn)) ⊎ ((count < turns) × HasTurned true drawn after s t)
  Ends turns count (Err why) drawn after s t = (count < turns) × Fails [] drawn after why s t

  -- **So many turns, or fewer where one meets a fault, or in one a client asks that the program end.**
  pub record Serves (turns : ℕ) (result : Result (Unit {0}) LoopFault) (drawn after : DrawnState) (s t : Stage) : Type 0 where
    pub count : ℕ
    pub before : Stage
    pub between : DrawnState
    pub went : TurnsOn count drawn between s before
    pub last : Ends turns count result between after before t

-- **Over turns none is taken twice**: of the ids that their source gave in them, those that they took are some, in their order.
pub record TakesAmong (tells : Bool) (mode : SyncMode) (n : ℕ) (drawn after : DrawnState) (s t : Stage) (turns : TurnsOn tells mode n drawn after s t) : Type 0 where
  pub given : List (List ℕ)
  pub is : after.ids ≡ with_more given drawn.ids
  pub among : AreAmong (taken_over tells mode n drawn after s t turns) given

abbrev pub TurnsTakeEachOnce : Type 0
TurnsTakeEachOnce = (tells : Bool) (mode : SyncMode) (n : ℕ) (drawn after : DrawnState) (s t : Stage) (turns : TurnsOn tells mode n drawn after s t) → TakesAmong tells mode n drawn after s t turns

-- **Over turns no moment goes back**: those that their source told in them are those of their calls, in order, and of their beginnings.
pub record GoesForward (tells : Bool) (mode : SyncMode) (n : ℕ) (drawn after : DrawnState) (s t : Stage) (turns : TurnsOn tells mode n drawn after s t) : Type 0 where
  pub told : after.moments ≡ with_more (moments_over tells mode n drawn after s t turns) drawn.moments
  pub rises : Rises drawn.clock (moments_over tells mode n drawn after s t turns) after.clock

abbrev pub TurnsGoForward : Type 0
TurnsGoForward = (tells : Bool) (mode : SyncMode) (n : ℕ) (drawn after : DrawnState) (s t : Stage) (turns : TurnsOn tells mode n drawn after s t) → GoesForward tells mode n drawn after s t turns
