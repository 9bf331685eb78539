-- What the events between links and nodes come to: bytes that come at a node, and ends that a node closes. As in `Calls`.
use Rattle.std.specs.Prelude.{◌≡◌, ◌≢◌, ◌≤◌, ◌+◌, ℕ, Result, Ok, Err, length, take, drop, false, Some, slice_get}
use Rattle.mr_links.specs.declared.link_id.LinkId.{LinkId}
use Rattle.mr_follower.specs.State.{FollowState}
use Rattle.mr_node_spec.specs.State.{NodeState, IsTooMuch}
use Rattle.mr_node_spec.specs.Sound.{IsSound}
use Rattle.mr_node_spec.specs.LinkRows.{Feeds, closed_at}
use Rattle.mr_node.specs.Calls.{FitsMore}
use Rattle.law_refinement.specs.State.{a_node, Link, Slot, WorldState}
use Rattle.law_refinement.specs.Events.{IsFollowed, IsServed}
use Rattle.law_refinement.specs.Carrying.{fed_server, put_node}
use Rattle.mr_world_parts.specs.AtNode.{IsFollowing}
use Rattle.mr_world.specs.Calls.{IsDown, NoneServes, ServesAt}
use Rattle.mr_world.specs.declared.refusal.Refusal.{Refusal}
use Rattle.mr_world.specs.declared.refusal.Refusal.TheVariants as refusal

-- So many bytes more were sent to the server's end, which is open; its node runs.
pub record CanHear (w : WorldState) (l count : ℕ) (k : Link) (s : Slot) : Type 0 where
  pub served : IsServed w l k s
  pub sent : k.ask.taken + count ≤ length k.ask.sent

-- the node that serves a link takes them
pub record Hears (w : WorldState) (l count : ℕ) (v : WorldState) : Type 0 where
  pub link : Link
  pub slot : Slot
  pub can : CanHear w l count link slot
  pub node : NodeState
  pub feeds : Feeds slot.node link.name (take count (drop link.ask.taken link.ask.sent)) node
  pub sound : IsSound node
  pub few : FitsMore slot.node link.name count
  pub is : v ≡ fed_server w link.to slot node l link count

-- So many more weren't sent to the server's end, which is open.
pub record WereNotAsked (w : WorldState) (l count : ℕ) : Type 0 where
  pub link : Link
  pub at : ServesAt w l link
  pub fewer : link.ask.taken + count ≤ length link.ask.sent → ⊥

-- They are there, and its node is stopped.
pub record RestsUnheard (w : WorldState) (l count : ℕ) : Type 0 where
  pub link : Link
  pub at : ServesAt w l link
  pub sent : link.ask.taken + count ≤ length link.ask.sent
  pub down : IsDown w link.to

-- They are there, and are too many for what is unread.
pub record IsOverfull (w : WorldState) (l count : ℕ) : Type 0 where
  pub link : Link
  pub slot : Slot
  pub can : CanHear w l count link slot
  pub over : IsTooMuch slot.node link.name count

-- They are there, some, and aren't too many.
pub record NeedsRoom (w : WorldState) (l count : ℕ) : Type 0 where
  pub link : Link
  pub slot : Slot
  pub can : CanHear w l count link slot
  pub some : count ≢ 0
  pub fits : FitsMore slot.node link.name count

pub data Delivers (w : WorldState) (l count : ℕ) (v : WorldState) : Type 0 where
  hears : Hears w l count v → Delivers w l count v
  rests : RestsUnheard w l count → v ≡ w → Delivers w l count v

abbrev pub DeliverCall : WorldState → ℕ → ℕ → WorldState → Result (Unit {0}) Refusal → Type 0
DeliverCall w l count v (Ok done) = Delivers w l count v
DeliverCall w l count v (Err refusal.Nobody) = NoneServes w l × (v ≡ w)
DeliverCall w l count v (Err refusal.TooMuch) = WereNotAsked w l count × (v ≡ w)
DeliverCall w l count v (Err refusal.InputFull) = IsOverfull w l count × (v ≡ w)
DeliverCall w l count v (Err refusal.Memory) = NeedsRoom w l count × (v ≡ w)
DeliverCall w l count v (Err refusal.Drawn) = ⊥

-- ---- the end of the node that dialled
-- The node n dialled the link l, which has this name there; and its end is open: n follows by it. It may be stopped.
pub record FollowsAt (w : WorldState) (l n : ℕ) (name : LinkId) (k : Link) (s : Slot) : Type 0 where
  pub found : slice_get w.links l ≡ Some k
  pub caller : k.caller ≡ a_node n name
  pub at : slice_get w.slots n ≡ Some s
  pub following : IsFollowing s l

-- There is no such end.
abbrev pub NoneFollows : WorldState → ℕ → Type 0
NoneFollows w l = (n : ℕ) (name : LinkId) (k : Link) (s : Slot) → FollowsAt w l n name k s → ⊥

-- There is one, and it is this node's.
pub record IsDialler (w : WorldState) (l n : ℕ) (name : LinkId) : Type 0 where
  pub link : Link
  pub slot : Slot
  pub at : FollowsAt w l n name link slot

-- .. which is stopped
pub record FollowerRests (w : WorldState) (l : ℕ) : Type 0 where
  pub number : ℕ
  pub name : LinkId
  pub who : IsDialler w l number name
  pub down : who.slot.node.core.up ≡ false

-- The node n runs, and follows by the link l.
pub record FollowsBy (w : WorldState) (l n : ℕ) (k : Link) (s : Slot) (name : LinkId) (f : FollowState) : Type 0 where
  pub followed : IsFollowed w n s k
  pub follows : s.node.follow ≡ Some (name, f)
  pub dialled : s.dialled ≡ l

-- the node that follows by a link closes its end
pub record Drops (w : WorldState) (l : ℕ) (v : WorldState) : Type 0 where
  pub number : ℕ
  pub link : Link
  pub slot : Slot
  pub name : LinkId
  pub reader : FollowState
  pub by : FollowsBy w l number link slot name reader
  pub is : v ≡ put_node w number slot (closed_at name slot.node)

pub data BreaksOff (w : WorldState) (l : ℕ) (v : WorldState) : Type 0 where
  drops : Drops w l v → BreaksOff w l v
  rests : FollowerRests w l → v ≡ w → BreaksOff w l v

abbrev pub DropCall : WorldState → ℕ → WorldState → Result (Unit {0}) Refusal → Type 0
DropCall w l v (Ok done) = BreaksOff w l v
DropCall w l v (Err refusal.Nobody) = NoneFollows w l × (v ≡ w)
DropCall w l v (Err refusal.TooMuch) = ⊥
DropCall w l v (Err refusal.InputFull) = ⊥
DropCall w l v (Err refusal.Memory) = ⊥
DropCall w l v (Err refusal.Drawn) = ⊥
