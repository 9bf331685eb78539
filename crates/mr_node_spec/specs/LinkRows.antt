-- What becomes of a node as links come, are fed and go.
use Rattle.std.specs.Prelude.{◌≡◌, ◌≢◌, ◌++◌, ℕ, List, [], false, Option, Some, None, if◌then◌else◌}
use Rattle.std.specs.Ordering.{eq_by_cmp}
use Rattle.mr_links.specs.LinkId.{id_cmp}
use Rattle.mr_links.specs.declared.link_id.LinkId.{LinkId}
use Rattle.mr_follower.specs.State.{FollowState, heard, started}
use Rattle.mr_follower.specs.Handshake.{ping_line}
use Rattle.mr_replication.specs.State.{name_of, offer_of}
use Rattle.mr_node_links.specs.State.{Transaction, opened_as, without}
use Rattle.mr_node_links.specs.State.EndState.{client, upstream}
use Rattle.mr_node_output.specs.Outs.{OutsState, no_outs}
use Rattle.mr_node_spec.specs.State.{AgreesWithin, NodeState, Agrees, ReplicaAgrees, MasterAgrees, IsShut, OthersStay, end_of}

-- A client's end is there, with nothing unread, under a name that was never given before; and nothing else changes.
pub record Opens (a : NodeState) (l : LinkId) (b : NodeState) : Type 0 where
  pub fresh : end_of a l ≡ None
  pub generation : l.generation ≡ a.ends.opened
  pub agrees : Agrees b l []
  pub node : b ≡ record a { ends = opened_as a.ends l (client []) }

-- A replica without a link to its master has one: its end is there under a name that was never given before, and the first line of the handshake
-- is sent.
pub record Dials (a : NodeState) (l : LinkId) (b : NodeState) (outs : OutsState) : Type 0 where
  pub replica : a.core.master ≡ false
  pub alone : a.follow ≡ None
  pub fresh : end_of a l ≡ None
  pub generation : l.generation ≡ a.ends.opened
  pub node : b ≡ record a { ends = opened_as a.ends l upstream; follow = Some (l, started (offer_of a.core.offers a.core.lineage) a.core.port) }
  pub outs_are : outs ≡ record no_outs { link = Some l; reply = ping_line }

-- whom it follows once a link is gone
abbrev pub follow_without : LinkId → Option (LinkId × FollowState) → Option (LinkId × FollowState)
follow_without l None = None
follow_without l (Some f) = if eq_by_cmp id_cmp f.0 l then None else Some f

-- the node without its end of a link, and what was unread there
abbrev pub closed_at : LinkId → NodeState → NodeState
closed_at l a = record a { ends = without a.ends l; follow = follow_without l a.follow }

-- Bytes come behind the unread ones of an open link; on one that the node closed they are dropped. Nothing else changes: what reads at the link to
-- the master has these bytes more to read, and is the same otherwise.
pub record Feeds (a : NodeState) (l : LinkId) (bytes : List ℕ) (b : NodeState) : Type 0 where
  pub at_client : (u : List ℕ) → Agrees a l u → Agrees b l (u ++ bytes)
  pub at_waiting : (t : Transaction) (u : List ℕ) → AgreesWithin a l t u → AgreesWithin b l t (u ++ bytes)
  pub at_replica : (u : List ℕ) → ReplicaAgrees a l u → ReplicaAgrees b l (u ++ bytes)
  pub at_master : (u : List ℕ) → MasterAgrees a l u → MasterAgrees b l (u ++ bytes)
  pub at_shut : IsShut a l → b ≡ a
  pub others : OthersStay a b l
  pub core : b.core ≡ a.core
  pub follow : name_of a.follow ≢ Some l → b.follow ≡ a.follow
  pub heard : (f : FollowState) → a.follow ≡ Some (l, f) → b.follow ≡ Some (l, heard f bytes)
