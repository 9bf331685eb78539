-- What the events come to in which a node gives something out. A refusal leaves the World as it is; where what a node gave out takes memory, and there is
-- none, the node stops, and nothing else changes.
use Rattle.std.specs.Prelude.{◌≡◌, ℕ, ℤ, None, Result, Ok, Err, slice_get}
use Rattle.mr_node_output.specs.Outs.{OutsState}
use Rattle.mr_node_spec.specs.Sound.{IsSound}
use Rattle.mr_node_spec.specs.State.{NodeState, stopped_as}
use Rattle.mr_node_spec.specs.TimeRows.{HasDue, TickRow}
use Rattle.law_refinement.specs.State.{Slot, WorldState}
use Rattle.law_refinement.specs.Carrying.{put_node, ticked}
use Rattle.law_refinement.specs.Events.{IsRunning}
use Rattle.mr_world_parts.specs.Memory.{TakesMemory}
use Rattle.mr_world.specs.declared.refusal.Refusal.{Refusal}
use Rattle.mr_world.specs.declared.refusal.Refusal.TheVariants as refusal
use Rattle.mr_world.specs.Calls.{IsDown}

-- A tick is a row of the node, that comes to this.
pub record HasTicked (w : WorldState) (n : ℕ) (now : ℤ) : Type 0 where
  pub slot : Slot
  pub running : IsRunning w n slot
  pub node : NodeState
  pub outs : OutsState
  pub row : TickRow slot.node now node outs
  pub sound : IsSound node

-- what it gave out is carried; or that takes memory, and the node stops; or the node is stopped, and nothing happens
pub data Ticks (w : WorldState) (n : ℕ) (now : ℤ) (v : WorldState) : Type 0 where
  carries : (t : HasTicked w n now) → v ≡ ticked w n t.slot t.node t.outs → Ticks w n now v
  fails : (t : HasTicked w n now) → TakesMemory t.outs → v ≡ put_node w n t.slot (stopped_as t.node) → Ticks w n now v
  rests : IsDown w n → v ≡ w → Ticks w n now v

-- Something is due at a node that runs, for which its tick takes memory.
pub record NeedsTick (w : WorldState) (n : ℕ) (now : ℤ) : Type 0 where
  pub slot : Slot
  pub running : IsRunning w n slot
  pub due : HasDue slot.node now

-- memory is lacking only where something is due
abbrev pub TickCall : WorldState → ℕ → ℤ → WorldState → Result (Unit {0}) Refusal → Type 0
TickCall w n now v (Ok done) = Ticks w n now v
TickCall w n now v (Err refusal.Nobody) = (slice_get w.slots n ≡ None) × (v ≡ w)
TickCall w n now v (Err refusal.Memory) = NeedsTick w n now × (v ≡ w)
TickCall w n now v (Err refusal.Drawn) = ⊥
TickCall w n now v (Err refusal.TooMuch) = ⊥
TickCall w n now v (Err refusal.InputFull) = ⊥
