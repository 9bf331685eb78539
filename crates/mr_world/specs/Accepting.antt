-- What comes of a replica that opens its end of a link, and of a node that accepts the link later. As in `Calls`.
use Rattle.std.specs.Prelude.{◌≡◌, ℕ, true, false, Some, None, Result, Ok, Err, slice_get}
use Rattle.mr_links.specs.declared.link_id.LinkId.{LinkId}
use Rattle.mr_node_output.specs.Outs.{OutsState}
use Rattle.mr_node_spec.specs.State.{NodeState}
use Rattle.mr_node_spec.specs.Sound.{IsSound}
use Rattle.mr_node_spec.specs.LinkRows.{Opens, Dials}
use Rattle.law_refinement.specs.State.{Link, Slot, WorldState}
use Rattle.law_refinement.specs.Events.{IsRunning, IsWaiting}
use Rattle.law_refinement.specs.Carrying.{accepting, connecting}
use Rattle.mr_world.specs.declared.refusal.Refusal.{Refusal}
use Rattle.mr_world.specs.declared.refusal.Refusal.TheVariants as refusal
use Rattle.mr_world.specs.Calls.{IsDown, Runs, StopsForLinks}

-- The node n is a replica that follows nobody, stopped or not.
pub record CanConnect (w : WorldState) (n : ℕ) : Type 0 where
  pub dialler : Slot
  pub at : slice_get w.slots n ≡ Some dialler
  pub replica : dialler.node.core.master ≡ false
  pub alone : dialler.node.follow ≡ None

-- n opens its end of a link, which waits for a node to accept it, and says its first line there
pub record OpensEnd (w : WorldState) (n : ℕ) (v : WorldState) : Type 0 where
  pub slot : Slot
  pub running : IsRunning w n slot
  pub name : LinkId
  pub node : NodeState
  pub outs : OutsState
  pub dials : Dials slot.node name node outs
  pub sound : IsSound node
  pub is : v ≡ connecting w n slot node name outs.reply

pub data Connected (w : WorldState) (n : ℕ) (v : WorldState) : Type 0 where
  opens : OpensEnd w n v → Connected w n v
  stops : StopsForLinks w n v → Connected w n v
  rests : IsDown w n → v ≡ w → Connected w n v

abbrev pub ConnectCall : WorldState → ℕ → WorldState → Result (Unit {0}) Refusal → Type 0
ConnectCall w n v (Ok done) = CanConnect w n × Connected w n v
ConnectCall w n v (Err refusal.Nobody) = (CanConnect w n → ⊥) × (v ≡ w)
ConnectCall w n v (Err refusal.Memory) = CanConnect w n × Runs w n × (v ≡ w)
ConnectCall w n v (Err refusal.Drawn) = ⊥
ConnectCall w n v (Err refusal.TooMuch) = ⊥
ConnectCall w n v (Err refusal.InputFull) = ⊥

-- The link l waits for a node to accept it; and m is there, stopped or not.
pub record CanAccept (w : WorldState) (l m : ℕ) : Type 0 where
  pub link : Link
  pub waiting : IsWaiting w l link
  pub server : Slot
  pub at : slice_get w.slots m ≡ Some server

-- m opens its end of the link, and serves it from now on, under a name of its own. What the node that dialled is by now doesn't matter: it may follow by
-- the link, have left it or have stopped, or be m itself.
pub record AcceptsLink (w : WorldState) (l m : ℕ) (v : WorldState) : Type 0 where
  pub link : Link
  pub waiting : IsWaiting w l link
  pub slot : Slot
  pub running : IsRunning w m slot
  pub at : LinkId
  pub node : NodeState
  pub opens : Opens slot.node at node
  pub is : v ≡ accepting w m slot node at l link

pub data Accepted (w : WorldState) (l m : ℕ) (v : WorldState) : Type 0 where
  accepts : AcceptsLink w l m v → Accepted w l m v
  stops : StopsForLinks w m v → Accepted w l m v
  rests : IsDown w m → v ≡ w → Accepted w l m v

abbrev pub AcceptCall : WorldState → ℕ → ℕ → WorldState → Result (Unit {0}) Refusal → Type 0
AcceptCall w l m v (Ok done) = CanAccept w l m × Accepted w l m v
AcceptCall w l m v (Err refusal.Nobody) = (CanAccept w l m → ⊥) × (v ≡ w)
AcceptCall w l m v (Err refusal.Memory) = CanAccept w l m × Runs w m × (v ≡ w)
AcceptCall w l m v (Err refusal.Drawn) = ⊥
AcceptCall w l m v (Err refusal.TooMuch) = ⊥
AcceptCall w l m v (Err refusal.InputFull) = ⊥
