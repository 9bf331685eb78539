-- What comes of a node that dials another, or itself, which accepts at once. As in `Calls`.
use Rattle.std.specs.Prelude.{◌≡◌, ◌≤◌, ℕ, true, false, Some, None, Result, Ok, Err, slice_get, slice_set}
use Rattle.mr_links.specs.declared.link_id.LinkId.{LinkId}
use Rattle.mr_links.specs.Links.{links_limit}
use Rattle.mr_node_output.specs.Outs.{OutsState}
use Rattle.mr_node_spec.specs.State.{NodeState, stopped_as}
use Rattle.mr_node_spec.specs.Sound.{IsSound}
use Rattle.mr_node_spec.specs.LinkRows.{Opens, Dials}
use Rattle.law_refinement.specs.State.{Slot, WorldState}
use Rattle.law_refinement.specs.Events.{IsRunning}
use Rattle.law_refinement.specs.Carrying.{connected, put_node}
use Rattle.mr_world.specs.declared.refusal.Refusal.{Refusal}
use Rattle.mr_world.specs.declared.refusal.Refusal.TheVariants as refusal
use Rattle.mr_world.specs.Calls.{IsDown, StopsForLinks}

-- The node n is a replica that follows nobody, stopped or not; and m is there.
pub record CanDial (w : WorldState) (n m : ℕ) : Type 0 where
  pub dialler : Slot
  pub at : slice_get w.slots n ≡ Some dialler
  pub replica : dialler.node.core.master ≡ false
  pub alone : dialler.node.follow ≡ None
  pub server : Slot
  pub found : slice_get w.slots m ≡ Some server

-- .. and both run
pub record BothRun (w : WorldState) (n m : ℕ) : Type 0 where
  pub can : CanDial w n m
  pub dialler_up : can.dialler.node.core.up ≡ true
  pub server_up : can.server.node.core.up ≡ true

-- m opens its end, and n, as it is behind that, its own; n says its first line
pub record Connects (w : WorldState) (n m : ℕ) (v : WorldState) : Type 0 where
  pub server : Slot
  pub running : IsRunning w m server
  pub at : LinkId
  pub served : NodeState
  pub opens : Opens server.node at served
  pub dialler : Slot
  pub found : slice_get (slice_set w.slots m (record server { node = served })) n ≡ Some dialler
  pub up : dialler.node.core.up ≡ true
  pub name : LinkId
  pub node : NodeState
  pub outs : OutsState
  pub dials : Dials dialler.node name node outs
  pub sound : IsSound node
  pub is : v ≡ connected w n dialler node name outs m server served at

-- m could open its end, but n, as it is behind that, has opened as many links as it may: n stops, and m has no end more
pub record DiallerStops (w : WorldState) (n m : ℕ) (v : WorldState) : Type 0 where
  pub server : Slot
  pub running : IsRunning w m server
  pub at : LinkId
  pub served : NodeState
  pub opens : Opens server.node at served
  pub behind : Slot
  pub found : slice_get (slice_set w.slots m (record server { node = served })) n ≡ Some behind
  pub spent : links_limit ≤ behind.node.ends.opened
  pub dialler : Slot
  pub dialling : IsRunning w n dialler
  pub is : v ≡ put_node w n dialler (stopped_as dialler.node)

pub data Dialled (w : WorldState) (n m : ℕ) (v : WorldState) : Type 0 where
  connects : Connects w n m v → Dialled w n m v
  server_stops : BothRun w n m → StopsForLinks w m v → Dialled w n m v
  dialler_stops : BothRun w n m → DiallerStops w n m v → Dialled w n m v
  dialler_rests : IsDown w n → v ≡ w → Dialled w n m v
  server_rests : IsDown w m → v ≡ w → Dialled w n m v

abbrev pub DialCall : WorldState → ℕ → ℕ → WorldState → Result (Unit {0}) Refusal → Type 0
DialCall w n m v (Ok done) = CanDial w n m × Dialled w n m v
DialCall w n m v (Err refusal.Nobody) = (CanDial w n m → ⊥) × (v ≡ w)
DialCall w n m v (Err refusal.Memory) = BothRun w n m × (v ≡ w)
DialCall w n m v (Err refusal.Drawn) = ⊥
DialCall w n m v (Err refusal.TooMuch) = ⊥
DialCall w n m v (Err refusal.InputFull) = ⊥
