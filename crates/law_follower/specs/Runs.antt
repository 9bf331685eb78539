-- Calls on a node that follows its master, one after another, each by the contract of `Node`.
use Rattle.std.specs.Prelude.{◌≡◌, ◌≢◌, ℕ, ℤ, List, [], ◌∷◌, ◌++◌, true, Some, Result, Ok, Err, length}
use Rattle.mr_links.specs.declared.link_id.LinkId.{LinkId}
use Rattle.mr_data.specs.declared.given.Given.{Given}
use Rattle.mr_follower.specs.declared.phase.Phase.TheVariants as phase
use Rattle.mr_replication.specs.State.{name_of}
use Rattle.mr_node_output.specs.Outs.{OutsState}
use Rattle.mr_node_spec.specs.State.{NodeState, MasterAgrees}
use Rattle.mr_node_spec.specs.Sound.{IsSound}
use Rattle.mr_node_spec.specs.LinkRows.{closed_at}
use Rattle.mr_node.specs.Calls.{FeedRow, OpenRow, TickStep}
use Rattle.mr_node.specs.Steps.{Steps}
use Rattle.mr_node.specs.declared.step.Step.{Step}
use Rattle.mr_node.specs.declared.fault.NodeFault.{NodeFault}

-- The node isn't stopped, and follows its master at this link. It is sound, as each node is (`Node::sound`).
pub record IsFollowing (a : NodeState) (l : LinkId) : Type 0 where
  pub up : a.core.up ≡ true
  pub at : name_of a.follow ≡ Some l
  pub sound : IsSound a

-- The node isn't stopped, and is in its master's stream at this link. These bytes are unread there: they came, and no step used them.
pub record Streams (a : NodeState) (l : LinkId) (unread : List ℕ) : Type 0 where
  pub up : a.core.up ≡ true
  pub reads : MasterAgrees a l unread
  pub streams : reads.reader.phase ≡ phase.Stream

-- A call that feeds nothing from the master, and makes no step there: it is on another link, or bytes from the master are refused; or it is a tick,
-- a link is opened for a client or closed, or the node is only asked. (Who has a master dials none.)
pub data IsAnotherCall (a : NodeState) (l : LinkId) (b : NodeState) : Type 0 where
  steps : (x : LinkId) → x ≢ l → (given : Given) (fresh : List ℕ) (result : Result Step NodeFault) → Steps a x given fresh b result → IsAnotherCall a l b
  feeds : (x : LinkId) → x ≢ l → (bytes : List ℕ) (result : Result (Unit {0}) NodeFault) → FeedRow a x bytes (length bytes) b result → IsAnotherCall a l b
  refuses : (bytes : List ℕ) (why : NodeFault) → FeedRow a l bytes (length bytes) b (Err why) → IsAnotherCall a l b
  ticks : (now : ℤ) (result : Result OutsState NodeFault) → TickStep a now b result → IsAnotherCall a l b
  opens : (result : Result LinkId NodeFault) → OpenRow a b result → IsAnotherCall a l b
  closes : (x : LinkId) → b ≡ closed_at x a → IsAnotherCall a l b
  asks : b ≡ a → IsAnotherCall a l b

-- Bytes come from the master, and are taken; a step is made at the link to it, with this result; or there is another call.
pub data Call : Type 0 where
  feed : (bytes : List ℕ) → Call
  step : (result : Result Step NodeFault) → Call
  another : Call

-- what it does, by the contract of `Node::feed`, of `Node::step`, or of another
abbrev pub CallRow : NodeState → LinkId → Call → NodeState → Type 0
CallRow a l (feed bytes) b = FeedRow a l bytes (length bytes) b (Ok tt)
CallRow a l (step result) b = (given : Given) × (fresh : List ℕ) × Steps a l given fresh b result
CallRow a l another b = IsAnotherCall a l b

-- Calls lead from one node to another, and behind each of them the node isn't stopped and still follows its master at this link.
abbrev pub Runs : List Call → NodeState → LinkId → NodeState → Type 0
Runs [] a l b = b ≡ a
Runs (call ∷ calls) a l b = (c : NodeState) × CallRow a l call c × IsFollowing c l × Runs calls c l b

-- the bytes that came from the master, all together
abbrev pub came_by : Call → List ℕ
came_by (feed bytes) = bytes
came_by (step result) = []
came_by another = []

abbrev pub all_that_came : List Call → List ℕ
all_that_came [] = []
all_that_came (call ∷ calls) = came_by call ++ all_that_came calls
