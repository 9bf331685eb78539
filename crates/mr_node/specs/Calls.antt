-- What the other calls on a node come to.
use Rattle.std.specs.Prelude.{◌≡◌, ◌≢◌, ◌≤◌, ◌<◌, ℕ, ℤ, List, [], true, false, Option, Some, None, Result, Ok, Err, length}
use Rattle.mr_links.specs.declared.link_id.LinkId.{LinkId}
use Rattle.mr_links.specs.Links.{links_limit}
use Rattle.mr_node_output.specs.Outs.{OutsState}
use Rattle.mr_node_links.specs.State.{Transaction}
use Rattle.mr_node_links.specs.State.EndState.{shut as closed}
use Rattle.mr_node_spec.specs.State.{NodeState, Agrees, AgreesWithin, IsShut, IsTooMuch, MasterAgrees, ReplicaAgrees, end_of, stopped_as}
use Rattle.mr_node_spec.specs.LinkRows.{Opens, Dials, Feeds}
use Rattle.mr_node_spec.specs.TimeRows.{HasDue, TickRow}
use Rattle.mr_node.specs.declared.fault.NodeFault.{NodeFault}
use Rattle.mr_node.specs.declared.fault.NodeFault.TheVariants as fault

-- It is told so of a stopped node, which stays; and of one that has opened as many links as there may be, which stops.
pub data OpensNoMore (a b : NodeState) : Type 0 where
  down : a.core.up ≡ false → b ≡ a → OpensNoMore a b
  spent : a.core.up ≡ true → links_limit ≤ a.ends.opened → b ≡ stopped_as a → OpensNoMore a b

-- a client's link is opened, of those that there may be
abbrev pub OpenRow : NodeState → NodeState → Result LinkId NodeFault → Type 0
OpenRow a b (Ok l) = (a.core.up ≡ true) × Opens a l b × (a.ends.opened < links_limit)
OpenRow a b (Err fault.Memory) = (a.core.up ≡ true) × (b ≡ a) × (a.ends.opened < links_limit)
OpenRow a b (Err fault.Stopped) = OpensNoMore a b
OpenRow a b (Err fault.NoLink) = ⊥
OpenRow a b (Err fault.InputFull) = ⊥

-- the master is dialled, by a link of those that there may be
abbrev pub DialRow : NodeState → NodeState → Result (LinkId × OutsState) NodeFault → Type 0
DialRow a b (Ok dialled) = (a.core.up ≡ true) × Dials a dialled.0 b dialled.1 × (a.ends.opened < links_limit)
DialRow a b (Err fault.Memory) = (a.core.up ≡ true) × (b ≡ a) × (a.ends.opened < links_limit)
DialRow a b (Err fault.Stopped) = OpensNoMore a b
DialRow a b (Err fault.NoLink) = ⊥
DialRow a b (Err fault.InputFull) = ⊥

-- So many bytes more, if any, aren't too many for what is unread on the link.
abbrev pub FitsMore : NodeState → LinkId → ℕ → Type 0
FitsMore a l count = count ≢ 0 → IsTooMuch a l count → ⊥

-- bytes come on a link
abbrev pub FeedRow : NodeState → LinkId → List ℕ → ℕ → NodeState → Result (Unit {0}) NodeFault → Type 0
FeedRow a l bytes count b (Ok done) = (a.core.up ≡ true) × (end_of a l ≢ None) × FitsMore a l count × Feeds a l bytes b
FeedRow a l bytes count b (Err fault.Memory) = (a.core.up ≡ true) × (end_of a l ≢ None) × (end_of a l ≢ Some closed) × (bytes ≢ []) × FitsMore a l count × (b ≡ a)
FeedRow a l bytes count b (Err fault.Stopped) = (a.core.up ≡ false) × (b ≡ a)
FeedRow a l bytes count b (Err fault.NoLink) = (a.core.up ≡ true) × (end_of a l ≡ None) × (b ≡ a)
FeedRow a l bytes count b (Err fault.InputFull) = IsTooMuch a l count × (b ≡ a)

-- time passes; memory is lacking only where something is due
abbrev pub TickStep : NodeState → ℤ → NodeState → Result OutsState NodeFault → Type 0
TickStep a now b (Ok outs) = TickRow a now b outs
TickStep a now b (Err fault.Memory) = (a.core.up ≡ true) × (b ≡ a) × HasDue a now
TickStep a now b (Err fault.Stopped) = (a.core.up ≡ false) × (b ≡ a)
TickStep a now b (Err fault.NoLink) = ⊥
TickStep a now b (Err fault.InputFull) = ⊥

-- one more link may be opened
pub record OpensOn (a b : NodeState) : Type 0 where
  pub up : a.core.up ≡ true
  pub few : a.ends.opened < links_limit
  pub same : b ≡ a

-- how many bytes of a link are unread
pub record IsUnread (a : NodeState) (l : LinkId) (count : Option ℕ) : Type 0 where
  pub down : a.core.up ≡ false → count ≡ None
  pub absent : end_of a l ≡ None → count ≡ None
  pub at_client : (u : List ℕ) → a.core.up ≡ true → Agrees a l u → count ≡ Some (length u)
  pub at_waiting : (t : Transaction) (u : List ℕ) → a.core.up ≡ true → AgreesWithin a l t u → count ≡ Some (length u)
  pub at_replica : (u : List ℕ) → a.core.up ≡ true → ReplicaAgrees a l u → count ≡ Some (length u)
  pub at_master : (u : List ℕ) → a.core.up ≡ true → MasterAgrees a l u → count ≡ Some (length u)
  pub at_shut : a.core.up ≡ true → IsShut a l → count ≡ Some 0

-- The end agrees with these bytes: as a client's, with a transaction open or without, as a replica's, as that of the link to the master, or as one that
-- the node closed.
pub data Agreeing (a : NodeState) (l : LinkId) (bytes : List ℕ) : Type 0 where
  client : Agrees a l bytes → Agreeing a l bytes
  waiting : (t : Transaction) → AgreesWithin a l t bytes → Agreeing a l bytes
  replica : ReplicaAgrees a l bytes → Agreeing a l bytes
  master : MasterAgrees a l bytes → Agreeing a l bytes
  shut : IsShut a l → bytes ≡ [] → Agreeing a l bytes

-- So many bytes of a link are unread: there are some, so many, with which its end agrees.
pub record Unreads (a : NodeState) (l : LinkId) (count : ℕ) : Type 0 where
  pub up : a.core.up ≡ true
  pub bytes : List ℕ
  pub counted : count ≡ length bytes
  pub agree : Agreeing a l bytes

-- The link is a client's, and open, whether a transaction is open there or not.
pub data IsClients (a : NodeState) (l : LinkId) : Type 0 where
  alone : (unread : List ℕ) → Agrees a l unread → IsClients a l
  within : (t : Transaction) (unread : List ℕ) → AgreesWithin a l t unread → IsClients a l
