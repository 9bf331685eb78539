-- What a host is to a turn: the stage that it lends, and what stays of it.
use Rattle.std.specs.Prelude.{◌≡◌, ◌⊎◌, ◌≤◌, ℕ, Bool, true, List, Option}
use Rattle.mr_aof.specs.declared.log.Log.{Log}
use Rattle.mr_file.specs.LogFile.{Rose}
use Rattle.mr_source.specs.Drawn.{DrawnState}
use Rattle.mr_wire.specs.Wire.{WireState}
use Rattle.mr_wire.specs.declared.waited.Waited.{Waited}
use Rattle.mr_loop.specs.declared.host.Host.{Host}
use Rattle.mr_loop.specs.Stage.{Stage, stage}
use Rattle.mr_loop.specs.Counting.{MomentState}

-- The file's failures are counted on, and nothing more is to be done to it only where that was so before, or it has failed since.
pub record FileGoes {F : Type 0} (broke : F → ℕ) (a b : Log F) : Type 0 where
  pub later : broke a.file ≤ broke b.file
  pub cause : b.broken ≡ true → (a.broken ≡ true) ⊎ Rose (broke a.file) (broke b.file)

module _ {W F S : Type 0} where
  -- the stage: of a wire its links and how often it failed, and of a file its bytes and how many are synced
  abbrev pub stage_in : (W → WireState) → (W → ℕ) → (F → Option (List ℕ)) → (F → Option ℕ) → Host W F S → Stage
  stage_in links failures told synced h = stage h.node.now h.own.now (links h.wire.now) (failures h.wire.now) (told h.log.now.file) (synced h.log.now.file)

  -- its moment, with what was drawn from the source
  abbrev pub moment_in : (S → DrawnState) → Host W F S → MomentState
  moment_in drawn h = record { fresh = h.moment.fresh; drawn = drawn h.source.now; turn = h.moment.turn }

  -- The values that it borrowed are those that it borrows, in whatever state. How the file is synced stays, the file goes on, and the wire isn't waited on again.
  pub record IsSame (waited : W → Waited) (broke : F → ℕ) (a b : Host W F S) : Type 0 where
    pub node : b.node ≡ record a.node { now = b.node.now }
    pub own : b.own ≡ record a.own { now = b.own.now }
    pub wire : b.wire ≡ record a.wire { now = b.wire.now }
    pub log : b.log ≡ record a.log { now = b.log.now }
    pub source : b.source ≡ record a.source { now = b.source.now }
    pub mode : b.log.now.mode ≡ a.log.now.mode
    pub goes : FileGoes broke a.log.now b.log.now
    pub wait_stays : waited b.wire.now ≡ waited a.wire.now
