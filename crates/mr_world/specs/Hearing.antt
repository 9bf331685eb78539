-- What it comes to that bytes come at the node that dialled a link. As in `Calls`.
use Rattle.std.specs.Prelude.{◌≡◌, ◌≢◌, ◌≤◌, ◌+◌, ℕ, Result, Ok, Err, length, take, drop}
use Rattle.mr_links.specs.declared.link_id.LinkId.{LinkId}
use Rattle.mr_follower.specs.State.{FollowState}
use Rattle.mr_node_spec.specs.State.{NodeState}
use Rattle.mr_node_spec.specs.Sound.{IsSound}
use Rattle.mr_node_spec.specs.LinkRows.{Feeds}
use Rattle.law_refinement.specs.State.{Link, Slot, WorldState}
use Rattle.law_refinement.specs.Carrying.{fed_caller}
use Rattle.mr_world.specs.Linking.{FollowsBy, IsDialler, NoneFollows, FollowerRests}
use Rattle.mr_world.specs.declared.refusal.Refusal.{Refusal}
use Rattle.mr_world.specs.declared.refusal.Refusal.TheVariants as refusal

-- The node n runs and follows by the link l, and the server told it so many bytes more.
pub record IsTold (w : WorldState) (l count n : ℕ) (k : Link) (s : Slot) (name : LinkId) (f : FollowState) : Type 0 where
  pub by : FollowsBy w l n k s name f
  pub sent : k.tell.taken + count ≤ length k.tell.sent

-- that node takes them
pub record Listens (w : WorldState) (l count : ℕ) (v : WorldState) : Type 0 where
  pub number : ℕ
  pub link : Link
  pub slot : Slot
  pub name : LinkId
  pub reader : FollowState
  pub told : IsTold w l count number link slot name reader
  pub node : NodeState
  pub feeds : Feeds slot.node name (take count (drop link.tell.taken link.tell.sent)) node
  pub sound : IsSound node
  pub is : v ≡ fed_caller w number slot node l link count

-- They were told, and the node is stopped.
pub record RestsUntold (w : WorldState) (l count : ℕ) : Type 0 where
  pub rests : FollowerRests w l
  pub sent : rests.who.link.tell.taken + count ≤ length rests.who.link.tell.sent

-- The end of the node that dialled is open, and so many more weren't sent there.
pub record WereNotTold (w : WorldState) (l count : ℕ) : Type 0 where
  pub number : ℕ
  pub name : LinkId
  pub who : IsDialler w l number name
  pub fewer : who.link.tell.taken + count ≤ length who.link.tell.sent → ⊥

-- It was told them, and they are some, which it has to keep.
pub record KeepsTold (w : WorldState) (l count : ℕ) : Type 0 where
  pub number : ℕ
  pub link : Link
  pub slot : Slot
  pub name : LinkId
  pub reader : FollowState
  pub told : IsTold w l count number link slot name reader
  pub some : count ≢ 0

pub data Tells (w : WorldState) (l count : ℕ) (v : WorldState) : Type 0 where
  listens : Listens w l count v → Tells w l count v
  rests : RestsUntold w l count → v ≡ w → Tells w l count v

-- The link to a master takes any number of bytes: its input is never full.
abbrev pub ListenCall : WorldState → ℕ → ℕ → WorldState → Result (Unit {0}) Refusal → Type 0
ListenCall w l count v (Ok done) = Tells w l count v
ListenCall w l count v (Err refusal.Nobody) = NoneFollows w l × (v ≡ w)
ListenCall w l count v (Err refusal.TooMuch) = WereNotTold w l count × (v ≡ w)
ListenCall w l count v (Err refusal.Memory) = KeepsTold w l count × (v ≡ w)
ListenCall w l count v (Err refusal.Drawn) = ⊥
ListenCall w l count v (Err refusal.InputFull) = ⊥
