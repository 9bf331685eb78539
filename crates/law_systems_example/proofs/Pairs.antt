-- Steps of two servers.
use Rattle.std.proofs.Common.{◌≡◌, ◌++◌, ℕ, List, false, length, length-append, take, refl, sym, ap, ◌∙◌, arith}
use Rattle.std.proofs.Math.Seq.{drop-append_seam, take-length}
use Rattle.mr_file.specs.declared.sync_mode.SyncMode.TheVariants as sync
use Rattle.mr_loop.specs.Giving.{taken_by}
use Rattle.mr_loop.specs.Rows.{Event, Happens, fault_of}
use Rattle.mr_loop.specs.Stage.{Stage}
use Rattle.law_systems.specs.System.{Connection, Doing, Pipe, runs}
use Rattle.law_systems.specs.Network.{Goes, IsNext, read_on}
use Rattle.law_systems.specs.Steps.{AreNew, Step, behind, drawn_in}
use Rattle.law_systems_example.proofs.Parts.{two}

-- an event of a turn of the first, or of the second
pub first_turns : (other : Doing) (s t : Stage) (event : Event) (cs ds : List Connection) (ids : List (List ℕ)) → AreNew (two 0 (runs s) other cs ids) (drawn_in event) → Happens false sync.No s event t → Goes 0 0 cs event ds
    → Step (two 0 (runs s) other cs ids) (two 0 (behind (fault_of event) t) other ds (taken_by event ++ ids))
first_turns other s t event cs ds ids new happens goes = Step.turns 0 0 s t false sync.No event ds (record { found = refl }) new happens goes refl

pub other_turns : (one : Doing) (s t : Stage) (event : Event) (cs ds : List Connection) (ids : List (List ℕ)) → AreNew (two 0 one (runs s) cs ids) (drawn_in event) → Happens false sync.No s event t → Goes 1 0 cs event ds
    → Step (two 0 one (runs s) cs ids) (two 0 one (behind (fault_of event) t) ds (taken_by event ++ ids))
other_turns one s t event cs ds ids new happens goes = Step.turns 1 0 s t false sync.No event ds (record { found = refl }) new happens goes refl

-- ---- what was written, all of which was read
abbrev pub drained : List ℕ → Pipe
drained before = record { written = before; read = length before }

abbrev pub filled : List ℕ → List ℕ → Pipe
filled before bytes = record { written = before ++ bytes; read = length before }

pub all_next : (before bytes : List ℕ) → IsNext bytes (filled before bytes)
all_next before bytes = record {
  written = let a = length-append before bytes in omega (arith, a);
  next = sym (ap (take (length bytes)) (drop-append_seam before bytes) ∙ take-length bytes);
}

pub all_read : (before bytes : List ℕ) → drained (before ++ bytes) ≡ read_on bytes (filled before bytes)
all_read before bytes = ap (λ (n : ℕ). record { written = before ++ bytes; read = n }) (length-append before bytes)
