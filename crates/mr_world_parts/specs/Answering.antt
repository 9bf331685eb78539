-- How a step at a server's end is made, and how what it gave out goes to the links: the reply on its own, what replicas are sent on the others.
use Rattle.std.specs.Prelude.{◌≡◌, ◌⊎◌, ℕ, List, Bool, true, false, Some, map, slice_get, slice_set}
use Rattle.mr_links.specs.declared.link_id.LinkId.{LinkId}
use Rattle.mr_node_links.specs.State.{Transaction}
use Rattle.mr_node_links.specs.State.EndState.{client, waiting, replica, shut}
use Rattle.mr_node_links.specs.Replicas.{is_named}
use Rattle.mr_node_output.specs.Outs.{OutsState}
use Rattle.mr_node_spec.specs.State.{NodeState, end_of, stopped_as}
use Rattle.law_refinement.specs.State.{Link, Slot, WorldState}
use Rattle.law_refinement.specs.Carrying.{booked_as, filed, put_node, reached, settled, told}
use Rattle.law_refinement.specs.Events.{IsServed}
use Rattle.mr_world_parts.specs.Memory.{TakesMemory}

-- The node n serves the link l, which it knows by this name; it runs, and its end is open.
pub record IsServing (w : WorldState) (l n : ℕ) (name : LinkId) : Type 0 where
  pub link : Link
  pub slot : Slot
  pub served : IsServed w l link slot
  pub number : n ≡ link.to
  pub named : name ≡ link.name

-- Behind a step whose outs say that the link is closed its end is shut; else it is open: a client's, in no transaction or in one, or a replica's.
pub data EndsAs (b : NodeState) (name : LinkId) (closes : Bool) : Type 0 where
  closed : closes ≡ true → end_of b name ≡ Some shut → EndsAs b name closes
  asks : closes ≡ false → (u : List ℕ) → end_of b name ≡ Some (client u) → EndsAs b name closes
  waits : closes ≡ false → (t : Transaction) (u : List ℕ) → end_of b name ≡ Some (waiting t u) → EndsAs b name closes
  streams : closes ≡ false → (u : List ℕ) → end_of b name ≡ Some (replica u) → EndsAs b name closes

-- The node runs behind its step on the link; the end is as the outs tell, and nothing that goes to replicas goes there.
pub record IsBehind (b : NodeState) (name : LinkId) (outs : OutsState) : Type 0 where
  pub up : b.core.up ≡ true
  pub end : EndsAs b name outs.closes
  pub unfed : is_named outs.fed name ≡ false
  pub unclosed : is_named outs.closed name ≡ false

-- the link gets the reply, and its end is as the node has it now; the others get what goes to replicas
abbrev pub answered_links : ℕ → ℕ → Link → NodeState → OutsState → List Link → List Link
answered_links n l k b outs links = slice_set (map (reached n outs) links) l (settled (end_of b k.name) (told outs.reply k))

-- What was given out is carried. The id and the offset are those of before the step.
abbrev pub carried_as : WorldState → ℕ → Slot → ℕ → Link → List ℕ → ℕ → OutsState → WorldState
carried_as w n s l k id offset outs = record {
  slots = slice_set w.slots n (record s { file = filed outs s.file });
  links = answered_links n l k s.node outs w.links;
  book = booked_as outs.used w.book id offset outs.grown;
}

-- It is carried; or the node stops, where to carry it takes memory.
abbrev pub Carries : WorldState → ℕ → ℕ → List ℕ → ℕ → OutsState → WorldState → Type 0
Carries w n l id offset outs v = (s : Slot) (k : Link) → slice_get w.slots n ≡ Some s → slice_get w.links l ≡ Some k
    → (v ≡ carried_as w n s l k id offset outs) ⊎ (TakesMemory outs × (v ≡ put_node w n s (stopped_as s.node)))
