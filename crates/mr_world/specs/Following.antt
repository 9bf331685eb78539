-- What a step comes to of the node that follows by a link, at that link. As in `Stepping`; but where the node itself lacks memory it may have taken what is
-- there of a snapshot, and keeps that.
use Rattle.std.specs.Prelude.{◌≡◌, ◌≢◌, ℕ, List, None, true, false, Result, Ok, Err}
use Rattle.mr_links.specs.declared.link_id.LinkId.{LinkId}
use Rattle.mr_follower.specs.State.{FollowState}
use Rattle.mr_replication.specs.declared.upstream.UpstreamStep.{UpstreamStep}
use Rattle.mr_replication.specs.declared.upstream.UpstreamStep.TheVariants as outcome
use Rattle.mr_node_output.specs.Outs.{OutsState, no_outs}
use Rattle.mr_node_spec.specs.Sound.{IsSound}
use Rattle.mr_node_spec.specs.State.{NodeState, stopped_as}
use Rattle.mr_node_spec.specs.UpstreamRows as master
use Rattle.law_refinement.specs.State.{Link, Slot, WorldState}
use Rattle.law_refinement.specs.Carrying.{followed, put_node}
use Rattle.mr_world_parts.specs.AtNode.{is_spent}
use Rattle.mr_world_parts.specs.Memory.{TakesMemory}
use Rattle.mr_world.specs.declared.refusal.Refusal.{Refusal}
use Rattle.mr_world.specs.declared.refusal.Refusal.TheVariants as refusal
use Rattle.mr_world.specs.Linking.{FollowsBy, NoneFollows, FollowerRests}

-- The node n runs, and follows by the link l, which has this name there.
pub record IsFollower (w : WorldState) (l n : ℕ) (name : LinkId) : Type 0 where
  pub link : Link
  pub slot : Slot
  pub reader : FollowState
  pub by : FollowsBy w l n link slot name reader

-- It finds something whole there, and this is what it does.
pub record HasHeard (w : WorldState) (l : ℕ) : Type 0 where
  pub number : ℕ
  pub name : LinkId
  pub who : IsFollower w l number name
  pub came : UpstreamStep
  pub whole : came ≢ outcome.Idle
  pub node : NodeState
  pub outs : OutsState
  pub row : master.Hears who.slot.node name came node outs
  pub sound : IsSound node

-- .. it finds nothing whole. Nothing but the node may be another.
pub record HasWaited (w : WorldState) (l : ℕ) (v : WorldState) : Type 0 where
  pub number : ℕ
  pub name : LinkId
  pub who : IsFollower w l number name
  pub node : NodeState
  pub row : master.Waits who.slot.node name node
  pub sound : IsSound node
  pub carried : v ≡ followed w number who.slot who.link node no_outs
  pub is : v ≡ put_node w number who.slot node

-- .. memory ran out within a group, or its effects don't all apply, and it stops. Its end of the link stays open.
pub record HasSpent (w : WorldState) (l : ℕ) (v : WorldState) : Type 0 where
  pub number : ℕ
  pub name : LinkId
  pub who : IsFollower w l number name
  pub node : NodeState
  pub row : master.Spends who.slot.node name node
  pub still : node.follow ≢ None
  pub is : v ≡ put_node w number who.slot node

-- .. it lacks memory. Nothing but the node may be another, by what it took of a snapshot; the bytes that are unread are the same.
pub record HasLacked (w : WorldState) (l : ℕ) (v : WorldState) : Type 0 where
  pub number : ℕ
  pub name : LinkId
  pub who : IsFollower w l number name
  pub node : NodeState
  pub row : master.Lacks who.slot.node name node
  pub sound : IsSound node
  pub carried : v ≡ followed w number who.slot who.link node no_outs
  pub is : v ≡ put_node w number who.slot node

-- What it gives out is carried: its line is sent to its master, its file is what it is behind that, and the rest of the bytes is left. Or that takes memory,
-- there is none, and it stops. Where it is stopped, nothing happens.
pub data Follows (w : WorldState) (l : ℕ) (v : WorldState) : Type 0 where
  carries : (h : HasHeard w l) → v ≡ followed w h.number h.who.slot h.who.link h.node h.outs → Follows w l v
  fails : (h : HasHeard w l) → TakesMemory h.outs → v ≡ put_node w h.number h.who.slot (stopped_as h.node) → Follows w l v
  waits : HasWaited w l v → Follows w l v
  spends : HasSpent w l v → Follows w l v
  rests : FollowerRests w l → v ≡ w → Follows w l v

abbrev pub FollowCall : WorldState → ℕ → List ℕ → WorldState → Result (Unit {0}) Refusal → Type 0
FollowCall w l fresh v (Ok done) = (is_spent w.book fresh ≡ false) × Follows w l v
FollowCall w l fresh v (Err refusal.Drawn) = (is_spent w.book fresh ≡ true) × (v ≡ w)
FollowCall w l fresh v (Err refusal.Nobody) = (is_spent w.book fresh ≡ false) × NoneFollows w l × (v ≡ w)
FollowCall w l fresh v (Err refusal.Memory) = (is_spent w.book fresh ≡ false) × HasLacked w l v
FollowCall w l fresh v (Err refusal.TooMuch) = ⊥
FollowCall w l fresh v (Err refusal.InputFull) = ⊥
