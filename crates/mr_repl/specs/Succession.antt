-- Who may go on from a stream once its id has changed.
use Rattle.std.specs.Prelude.{◌≡◌, ◌≢◌, ◌↔◌, ℕ, ◌+◌, ◌≤◌, List}
use Rattle.mr_repl.specs.Lineage.{LineageState, begun, grown, renamed, standing_of}
use Rattle.mr_repl.specs.ReplId.{IsId, digits_of}
use Rattle.mr_repl.specs.Standing.{MayContinue}

-- at the moment of the change, who may go on under the old id is who might before
abbrev pub RenamingStrandsNobody : Type 0
RenamingStrandsNobody = (a : LineageState) (fresh : List ℕ) (from : ℕ) → MayContinue (standing_of (renamed fresh a)) (digits_of a.id) from ↔ MayContinue (standing_of a) (digits_of a.id) from

-- However the stream goes on, nobody goes on under the old id from behind the change: what follows may differ there.
abbrev pub OldIdEndsAtTheChange : Type 0
OldIdEndsAtTheChange = (a : LineageState) (fresh bytes : List ℕ) (from : ℕ) → IsId a.id → IsId fresh → a.id ≢ fresh
    → MayContinue (standing_of (grown (renamed fresh a) bytes)) (digits_of a.id) from → from ≤ a.stream.offset + 1

-- after a snapshot only who stands at its offset, under its id, may go on
abbrev pub SnapshotEndsAllElse : Type 0
SnapshotEndsAllElse = (id text : List ℕ) (capacity offset from : ℕ) → MayContinue (standing_of (begun id capacity offset)) text from → (text ≡ digits_of id) × (from ≡ offset + 1)
