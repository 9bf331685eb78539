-- What is to be done about a client's unread bytes where a transaction is open, and what a step there comes to.
use Rattle.std.specs.Prelude.{◌≡◌, ℕ, List, Bool, true, Result, Ok, Err, length, ◌<◌}
use Rattle.mr_links.specs.declared.link_id.LinkId.{LinkId}
use Rattle.mr_resp.specs.Replies.{Tree}
use Rattle.mr_keyspace.specs.Dataset.{Dataset}
use Rattle.mr_data.specs.declared.given.Given.{Given}
use Rattle.mr_commands.specs.Transactions.{coming, IsWithin}
use Rattle.mr_commands.specs.declared.transactions.Within.{Within}
use Rattle.mr_node_links.specs.State.{Transaction, full}
use Rattle.mr_node_links.specs.Progresses.{AgreesAlong}
use Rattle.mr_node_spec.specs.State.{AgreesWithin, NodeState, spent_as}
use Rattle.mr_node_spec.specs.Requests.{Waits, IsDoomedBy}
use Rattle.mr_node_spec.specs.ClientRows.{Idles, MayLack}
use Rattle.mr_node_spec.specs.Transactions.{DropsBy, StopsWithin, WithinRow}
use Rattle.mr_node.specs.Reading.{Passes, Reads}
use Rattle.mr_node.specs.declared.fault.NodeFault.{NodeFault}
use Rattle.mr_node.specs.declared.fault.NodeFault.TheVariants as fault
use Rattle.mr_node.specs.declared.step.Step.{Step}
use Rattle.mr_node.specs.declared.step.Step.TheVariants as step
use Rattle.mr_node.specs.declared.within.TodoWithin.{TodoWithin}
use Rattle.mr_node.specs.declared.within.TodoWithin.TheVariants as todo

-- So many bytes are a request that comes to this.
pub record Comes (replica : Bool) (u : List ℕ) (used : ℕ) (within : Within) : Type 0 where
  pub words : List (List ℕ)
  pub reads : Reads u used words
  pub is_within : IsWithin (coming replica words) within

abbrev pub IsTodoWithin : Bool → List ℕ → TodoWithin → Type 0
IsTodoWithin replica u (todo.Wait progress) = Waits u × (length u < full)
IsTodoWithin replica u (todo.Skip used) = Passes u used
IsTodoWithin replica u (todo.Refuse f) = IsDoomedBy u f
IsTodoWithin replica u (todo.Come used within) = Comes replica u used within

-- So many bytes end the transaction with this answer, and nothing of it is done.
pub record EndsWith (replica : Bool) (t : Transaction) (u : List ℕ) (used : ℕ) (reply : Tree) : Type 0 where
  pub words : List (List ℕ)
  pub reads : Reads u used words
  pub drops : DropsBy (coming replica words) t reply

-- where more is waited for, the progress is over the unread bytes
abbrev pub KeepsAlong : TodoWithin → List ℕ → Type 0
KeepsAlong (todo.Wait progress) unread = AgreesAlong progress unread
KeepsAlong _ unread = Unit {0}

-- .. or memory is lacking
abbrev pub TodoAtOpen : {E : Type 0} → Bool → List ℕ → Result TodoWithin E → Type 0
TodoAtOpen replica u (Ok todo) = IsTodoWithin replica u todo × KeepsAlong todo u
TodoAtOpen replica u (Err lacks) = MayLack u

-- The node runs, and the link is a client's with this transaction and these unread bytes.
pub record IsAtOpen (a : NodeState) (l : LinkId) (t : Transaction) (u : List ℕ) : Type 0 where
  pub up : a.core.up ≡ true
  pub agrees : AgreesWithin a l t u

-- Memory ran out within what waits: the node is stopped, with its dataset spent.
pub record StopsAtOpen (a : NodeState) (t : Transaction) (u : List ℕ) (given : Given) (b : NodeState) : Type 0 where
  pub cause : StopsWithin a t u given
  pub held : Dataset
  pub spent : b ≡ spent_as held a

-- a step where a transaction is open
abbrev pub WithinStep : NodeState → LinkId → Transaction → List ℕ → Given → NodeState → Result Step NodeFault → Type 0
WithinStep a l t u given b (Ok step.Idle) = Idles a u b
WithinStep a l t u given b (Ok (step.Done outs)) = WithinRow a l t u given b outs
WithinStep a l t u given b (Ok step.Closed) = ⊥
WithinStep a l t u given b (Err fault.Memory) = MayLack u × (b ≡ a)
WithinStep a l t u given b (Err fault.Stopped) = StopsAtOpen a t u given b
WithinStep a l t u given b (Err fault.NoLink) = ⊥
WithinStep a l t u given b (Err fault.InputFull) = ⊥
