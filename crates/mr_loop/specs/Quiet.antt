-- That a turn leaves nothing that could be stepped, and how much a step may still use.
use Rattle.std.specs.Prelude.{◌≡◌, ◌≢◌, ◌+◌, List, ℕ, Bool, true, false, Option, None, Some, length, if◌then◌else◌}
use Rattle.std.specs.Ordering.{eq_by_cmp}
use Rattle.mr_links.specs.LinkId.{id_cmp}
use Rattle.mr_links.specs.declared.link_id.LinkId.{LinkId}
use Rattle.mr_node_links.specs.State.{EndState, Transaction}
use Rattle.mr_node_links.specs.State.EndState.{client, waiting, replica, upstream, shut}
use Rattle.mr_follower.specs.State.{FollowState, Agrees as FollowAgrees}
use Rattle.mr_follower.specs.Rows as follow
use Rattle.mr_follower.specs.declared.taking.Taking.{Taking}
use Rattle.mr_node_spec.specs.State.{NodeState, Agrees, AgreesWithin, ReplicaAgrees, end_of}
use Rattle.mr_node_spec.specs.Requests.{Waits}

-- What reads at the link to the master waits for more: bytes that can be unread there hold nothing whole.
pub record Awaits (f : FollowState) : Type 0 where
  pub unread : List ℕ
  pub agrees : FollowAgrees f unread
  pub waits : follow.Waits f.phase unread f.kept

-- A step at the node's end of this link would use nothing.
pub record IsStill (a : NodeState) (l : LinkId) : Type 0 where
  pub at_client : (u : List ℕ) → Agrees a l u → Waits u
  pub at_waiting : (t : Transaction) (u : List ℕ) → AgreesWithin a l t u → Waits u
  pub at_replica : (u : List ℕ) → ReplicaAgrees a l u → Waits u
  pub at_master : (f : FollowState) → a.follow ≡ Some (l, f) → Awaits f

-- .. of any link
pub record AllWait (a : NodeState) : Type 0 where
  pub each : (l : LinkId) → IsStill a l

-- .. but maybe of this one
pub record OthersWait (a : NodeState) (l : LinkId) : Type 0 where
  pub each : (x : LinkId) → x ≢ l → IsStill a x

-- .. or of any, where nothing more is to be stepped at it
abbrev pub WaitsUnless : Bool → LinkId → NodeState → Type 0
WaitsUnless true l a = OthersWait a l
WaitsUnless false l a = AllWait a

-- .. or where there is none
abbrev pub WaitsBut : Option LinkId → NodeState → Type 0
WaitsBut None a = AllWait a
WaitsBut (Some l) a = OthersWait a l

-- ---- how much is left

-- the unread bytes of an end, and one more where it is open, so that what closes it leaves less
abbrev pub left_in : Option EndState → ℕ
left_in None = 0
left_in (Some (client unread)) = 1 + length unread
left_in (Some (waiting t unread)) = 1 + length unread
left_in (Some (replica unread)) = 1 + length unread
left_in (Some upstream) = 1
left_in (Some shut) = 0

abbrev pub taken_so_far : Option Taking → ℕ
taken_so_far None = 0
taken_so_far (Some t) = t.head + t.done

-- what was fed at the link to the master and isn't used
abbrev pub left_of : LinkId → Option (LinkId × FollowState) → ℕ
left_of l None = 0
left_of l (Some f) = if eq_by_cmp id_cmp f.0 l then taken_so_far f.1.taking + length f.1.kept else 0

abbrev pub left_at : NodeState → LinkId → ℕ
left_at a l = left_in (end_of a l) + left_of l a.follow
