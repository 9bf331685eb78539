-- What a restart comes to: a node that begins anew with what a file holds. As in `Calls`.
use Rattle.std.specs.Prelude.{◌≡◌, ℕ, List, not, true, false, None, Some, Result, Ok, Err, slice_get}
use Rattle.law_refinement.specs.State.{Slot, WorldState}
use Rattle.law_refinement.specs.Carrying.{restarted_with}
use Rattle.mr_world_parts.specs.AtNode.{is_spent, IsLoaded}
use Rattle.mr_world.specs.declared.refusal.Refusal.{Refusal}
use Rattle.mr_world.specs.declared.refusal.Refusal.TheVariants as refusal

-- the node n, stopped or not, begins anew in the role in which it started; the id begins with what its file makes
pub record Restarts (w : WorldState) (n : ℕ) (kept id : List ℕ) (port backlog : ℕ) (v : WorldState) : Type 0 where
  pub slot : Slot
  pub at : slice_get w.slots n ≡ Some slot
  pub anew : Slot
  pub loaded : IsLoaded kept (not slot.as_master) port backlog id anew
  pub is : v ≡ restarted_with w n anew id anew.file

-- The node is there, running or not.
pub record IsThere (w : WorldState) (n : ℕ) : Type 0 where
  pub slot : Slot
  pub at : slice_get w.slots n ≡ Some slot

abbrev pub RestartCall : WorldState → ℕ → List ℕ → List ℕ → (port backlog : ℕ) → WorldState → Result (Unit {0}) Refusal → Type 0
RestartCall w n kept id port backlog v (Ok done) = (is_spent w.book id ≡ false) × Restarts w n kept id port backlog v
RestartCall w n kept id port backlog v (Err refusal.Drawn) = (is_spent w.book id ≡ true) × (v ≡ w)
RestartCall w n kept id port backlog v (Err refusal.Nobody) = (is_spent w.book id ≡ false) × (slice_get w.slots n ≡ None) × (v ≡ w)
RestartCall w n kept id port backlog v (Err refusal.Memory) = (is_spent w.book id ≡ false) × IsThere w n × (v ≡ w)
RestartCall w n kept id port backlog v (Err refusal.TooMuch) = ⊥
RestartCall w n kept id port backlog v (Err refusal.InputFull) = ⊥
