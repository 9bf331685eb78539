-- What a step comes to that a node makes at the server's end of a link. A refusal leaves the World as it is; where what the node gave out takes memory,
-- and there is none, the node stops, and nothing else changes.
use Rattle.std.specs.Prelude.{◌≡◌, ℕ, List, Bool, true, false, Result, Ok, Err}
use Rattle.mr_data.specs.declared.given.Given.{Given}
use Rattle.mr_node_links.specs.State.{Transaction}
use Rattle.mr_node_output.specs.Outs.{OutsState}
use Rattle.mr_node_spec.specs.Sound.{IsSound}
use Rattle.mr_node_spec.specs.State.{Agrees, AgreesWithin, NodeState, stopped_as}
use Rattle.mr_node_spec.specs.ClientRows.{ClientRow, Idles, MayLack}
use Rattle.mr_node_spec.specs.Transactions.{WithinRow}
use Rattle.mr_node_spec.specs.ReplicaRows.{ReplicaRow}
use Rattle.mr_node.specs.Noting.{BeginsWithWords}
use Rattle.mr_node.specs.Steps.{StopsAt}
use Rattle.mr_node.specs.Within.{StopsAtOpen}
use Rattle.law_refinement.specs.Way.{unread}
use Rattle.law_refinement.specs.State.{Link, Slot, WorldState}
use Rattle.law_refinement.specs.Carrying.{put_node, stepped}
use Rattle.law_refinement.specs.Events.{IsServed}
use Rattle.mr_world_parts.specs.AtNode.{is_spent}
use Rattle.mr_world_parts.specs.Answering.{Carries}
use Rattle.mr_world_parts.specs.Memory.{TakesMemory}
use Rattle.mr_world.specs.declared.refusal.Refusal.{Refusal}
use Rattle.mr_world.specs.declared.refusal.Refusal.TheVariants as refusal
use Rattle.mr_world.specs.Calls.{IsDown, NoneServes, ServesAt}

-- The step used something of the link's unread bytes, or closed the link: it is a row of a client's end, where no transaction is open or one is, or of
-- a replica's.
pub data ServedRow (k : Link) (a : NodeState) (given : Given) (fresh : List ℕ) (b : NodeState) (outs : OutsState) : Type 0 where
  client : k.streams ≡ false → Agrees a k.name (unread k.ask) → ClientRow a k.name (unread k.ask) given fresh b outs → ServedRow k a given fresh b outs
  within : (t : Transaction) → k.streams ≡ false → AgreesWithin a k.name t (unread k.ask) → WithinRow a k.name t (unread k.ask) given b outs → ServedRow k a given fresh b outs
  replica : k.streams ≡ true → ReplicaRow a k.name (unread k.ask) b outs → ServedRow k a given fresh b outs

-- A step at the server's end of the link comes to this node and these outs.
pub record HasServed (w : WorldState) (l : ℕ) (given : Given) (fresh : List ℕ) : Type 0 where
  pub link : Link
  pub slot : Slot
  pub served : IsServed w l link slot
  pub node : NodeState
  pub outs : OutsState
  pub row : ServedRow link slot.node given fresh node outs
  pub sound : IsSound node

-- Nothing whole is unread there.
pub record HasIdled (w : WorldState) (l : ℕ) : Type 0 where
  pub link : Link
  pub slot : Slot
  pub served : IsServed w l link slot
  pub node : NodeState
  pub idles : Idles slot.node (unread link.ask) node

-- Memory ran out within the effects of a client's request, or within what waits in its transaction, and the node is stopped, with its dataset spent.
pub data Spends (k : Link) (a : NodeState) (given : Given) (b : NodeState) : Type 0 where
  client : k.streams ≡ false → Agrees a k.name (unread k.ask) → StopsAt a (unread k.ask) given b → Spends k a given b
  within : (t : Transaction) → k.streams ≡ false → AgreesWithin a k.name t (unread k.ask) → StopsAtOpen a t (unread k.ask) given b → Spends k a given b

-- A step there comes to that.
pub record HasSpent (w : WorldState) (l : ℕ) (given : Given) : Type 0 where
  pub link : Link
  pub slot : Slot
  pub served : IsServed w l link slot
  pub node : NodeState
  pub spends : Spends link slot.node given node

-- What a node gave out at this link is carried, or that takes memory, and the node stops.
pub record IsCarried (w : WorldState) (n l : ℕ) (id : List ℕ) (offset : ℕ) (outs : OutsState) (v : WorldState) : Type 0 where
  pub carries : Carries w n l id offset outs v

-- what the node gave out is carried; or that takes memory, and the node stops; or nothing whole is there; or the node spends its dataset; or it is stopped,
-- and nothing happens
pub data ServesLink (w : WorldState) (l : ℕ) (given : Given) (fresh : List ℕ) (v : WorldState) : Type 0 where
  carries : (t : HasServed w l given fresh) → v ≡ stepped w t.link.to t.slot l t.link t.node t.outs → ServesLink w l given fresh v
  fails : (t : HasServed w l given fresh) → TakesMemory t.outs → v ≡ put_node w t.link.to t.slot (stopped_as t.node) → ServesLink w l given fresh v
  idles : (t : HasIdled w l) → v ≡ put_node w t.link.to t.slot t.node → ServesLink w l given fresh v
  spends : (t : HasSpent w l given) → v ≡ put_node w t.link.to t.slot t.node → ServesLink w l given fresh v
  rests : (k : Link) → ServesAt w l k → IsDown w k.to → v ≡ w → ServesLink w l given fresh v

-- Memory can be lacking for these unread bytes of a client, or of a replica.
abbrev pub MayLackAt : Bool → List ℕ → Type 0
MayLackAt false unread = MayLack unread
MayLackAt true unread = BeginsWithWords unread

-- .. for those of the link, whose server's end is open; its node runs
pub record NeedsMemory (w : WorldState) (l : ℕ) : Type 0 where
  pub link : Link
  pub slot : Slot
  pub served : IsServed w l link slot
  pub may_lack : MayLackAt link.streams (unread link.ask)

abbrev pub StepCall : WorldState → ℕ → Given → List ℕ → WorldState → Result (Unit {0}) Refusal → Type 0
StepCall w l given fresh v (Ok done) = (is_spent w.book fresh ≡ false) × ServesLink w l given fresh v
StepCall w l given fresh v (Err refusal.Drawn) = (is_spent w.book fresh ≡ true) × (v ≡ w)
StepCall w l given fresh v (Err refusal.Nobody) = (is_spent w.book fresh ≡ false) × NoneServes w l × (v ≡ w)
StepCall w l given fresh v (Err refusal.Memory) = (is_spent w.book fresh ≡ false) × NeedsMemory w l × (v ≡ w)
StepCall w l given fresh v (Err refusal.TooMuch) = ⊥
StepCall w l given fresh v (Err refusal.InputFull) = ⊥
