-- What a step at a client's end may do where a transaction is open, one row for each.
use Rattle.std.specs.Prelude.{◌≡◌, ◌≢◌, ◌⊎◌, ◌+◌, ◌≤◌, ◌++◌, ℕ, List, [], ◌∷◌, true, false, not, Some, length}
use Rattle.mr_links.specs.declared.link_id.LinkId.{LinkId}
use Rattle.mr_resp.specs.Replies.{Tree, Trees, array, none, more, reply_text}
use Rattle.mr_keyspace.specs.Dataset.{Dataset}
use Rattle.mr_effect.specs.declared.effect.Effect.{Effect}
use Rattle.mr_data.specs.declared.given.Given.{Given}
use Rattle.mr_repl.specs.Backlog.{offset_limit}
use Rattle.mr_groups.specs.Groups.{grown_text}
use Rattle.mr_repl.specs.Lineage.{grown}
use Rattle.mr_cmd_shared.specs.Answered.{done}
use Rattle.mr_commands.specs.Transactions.{Coming, waits, marks, nests, drops as discards, ends, quits, coming, queued, nested, aborted, Frame, DoesAll, FirstTakesMemory}
use Rattle.mr_node_links.specs.State.{Transaction, with_text, as_marked}
use Rattle.mr_node_links.specs.State.EndState.{client, waiting}
use Rattle.mr_node_output.specs.Outs.{OutsState, no_outs, outs_with, growth}
use Rattle.mr_node_spec.specs.State.{NodeState}
use Rattle.mr_node_spec.specs.Requests.{Asks, AsksNothing}
use Rattle.mr_node_spec.specs.Growing.{FedTo}
use Rattle.mr_node_spec.specs.Telling.{Around, IsAround, answer_about}
use Rattle.mr_node_spec.specs.Ends.{Leaves}
use Rattle.mr_node_spec.specs.ClientRows.{Closes}

-- only this is said on the link
abbrev pub only_says : LinkId → Tree → OutsState
only_says l reply = record no_outs { link = Some l; reply = reply_text reply }

-- ---- a request that ends no transaction
-- What it leaves of the transaction, by what it comes to, and what is answered; and nothing else changes. Its text is the bytes in front of
-- the rest.
abbrev pub StandsBy : Coming → List ℕ → Transaction → Transaction → Tree → Type 0
StandsBy waits text t s reply = (s ≡ with_text text t) × (reply ≡ queued)
StandsBy (marks told) text t s reply = (s ≡ as_marked t) × (reply ≡ told)
StandsBy nests text t s reply = (s ≡ t) × (reply ≡ nested)
StandsBy discards text t s reply = ⊥
StandsBy ends text t s reply = ⊥
StandsBy quits text t s reply = ⊥

pub record Stands (a : NodeState) (l : LinkId) (t : Transaction) (u : List ℕ) (b : NodeState) (outs : OutsState) : Type 0 where
  pub up : a.core.up ≡ true
  pub words : List (List ℕ)
  pub rest : List ℕ
  pub asks : Asks u words rest
  pub next : Transaction
  pub reply : Tree
  pub stands : StandsBy (coming (not a.core.master) words) asks.text t next reply
  pub core : b.core ≡ a.core
  pub leaves : Leaves a l b (waiting next rest)
  pub outs_are : outs ≡ only_says l reply

-- an empty request is used
pub record Passes (a : NodeState) (l : LinkId) (t : Transaction) (u : List ℕ) (b : NodeState) (outs : OutsState) : Type 0 where
  pub up : a.core.up ≡ true
  pub rest : List ℕ
  pub asks : AsksNothing u rest
  pub core : b.core ≡ a.core
  pub leaves : Leaves a l b (waiting t rest)
  pub outs_are : outs ≡ record no_outs { link = Some l }

-- ---- one that ends it
-- DISCARD, or EXEC where it was marked: nothing is done
abbrev pub DropsBy : Coming → Transaction → Tree → Type 0
DropsBy waits t reply = ⊥
DropsBy (marks told) t reply = ⊥
DropsBy nests t reply = ⊥
DropsBy discards t reply = reply ≡ done
DropsBy ends t reply = (t.marked ≡ true) × (reply ≡ aborted)
DropsBy quits t reply = ⊥

pub record Drops (a : NodeState) (l : LinkId) (t : Transaction) (u : List ℕ) (b : NodeState) (outs : OutsState) : Type 0 where
  pub up : a.core.up ≡ true
  pub words : List (List ℕ)
  pub rest : List ℕ
  pub asks : Asks u words rest
  pub reply : Tree
  pub drops : DropsBy (coming (not a.core.master) words) t reply
  pub core : b.core ≡ a.core
  pub leaves : Leaves a l b (client rest)
  pub outs_are : outs ≡ only_says l reply

-- the replies one after another are one
abbrev pub as_trees : List Tree → Trees
as_trees [] = none
as_trees (reply ∷ replies) = more reply (as_trees replies)

-- Effects may be done as one as long as their text leads up to the offset limit at most, and questions are answered of the node before them.
abbrev pub frame_of : NodeState → Frame
frame_of a = record {
  Fits = λ effects. a.core.lineage.stream.offset + length (grown_text effects) ≤ offset_limit;
  Told = λ question reply. (around : Around) × IsAround a around × (reply ≡ answer_about question a.core around);
}

-- EXEC where it wasn't marked: what waits is done, one after another, in this one step. Their effects are one group, by which the stream and the
-- file grow.
pub record Executes (a : NodeState) (l : LinkId) (t : Transaction) (u : List ℕ) (given : Given) (b : NodeState) (outs : OutsState) : Type 0 where
  pub up : a.core.up ≡ true
  pub words : List (List ℕ)
  pub rest : List ℕ
  pub asks : Asks u words rest
  pub runs : coming (not a.core.master) words ≡ ends
  pub whole : t.marked ≡ false
  pub replies : List Tree
  pub effects : List Effect
  pub held : Dataset
  pub does : DoesAll (frame_of a) (not a.core.master) given t.queued [] a.core.held replies effects held
  pub core : b.core ≡ record a.core { held = held; lineage = grown a.core.lineage (grown_text effects) }
  pub leaves : Leaves a l b (client rest)
  pub fed : FedTo (grown_text effects) a outs.fed
  pub outs_are : outs ≡ record (outs_with (Some l) (record (growth (grown_text effects)) { said = reply_text (array (as_trees replies)) })) { fed = outs.fed }

-- a step that used something where a transaction is open
pub data WithinRow (a : NodeState) (l : LinkId) (t : Transaction) (u : List ℕ) (given : Given) (b : NodeState) (outs : OutsState) : Type 0 where
  stands : Stands a l t u b outs → WithinRow a l t u given b outs
  passes : Passes a l t u b outs → WithinRow a l t u given b outs
  drops : Drops a l t u b outs → WithinRow a l t u given b outs
  executes : Executes a l t u given b outs → WithinRow a l t u given b outs
  closes : Closes a l u b outs → WithinRow a l t u given b outs

-- Memory ran out for one of those that wait, of which some has changed the dataset: those in front of it are done, and they had effects or its own take
-- some. Once all are done nothing takes any, their frame's room was taken before.
pub record StopsWithin (a : NodeState) (t : Transaction) (u : List ℕ) (given : Given) : Type 0 where
  pub words : List (List ℕ)
  pub rest : List ℕ
  pub asks : Asks u words rest
  pub runs : coming (not a.core.master) words ≡ ends
  pub whole : t.marked ≡ false
  pub done_first : List (List ℕ)
  pub left : List (List ℕ)
  pub first : t.queued ≡ done_first ++ left
  pub replies : List Tree
  pub effects : List Effect
  pub held : Dataset
  pub does : DoesAll (frame_of a) (not a.core.master) given done_first [] a.core.held replies effects held
  pub some : (effects ≢ []) ⊎ FirstTakesMemory (frame_of a) (not a.core.master) given left effects held
  pub undone : left ≢ []
