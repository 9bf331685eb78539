-- What is to be done about a replica's unread bytes.
use Rattle.std.specs.Prelude.{◌<◌, ℕ, ℤ, List, Result, Ok, Err, length}
use Rattle.mr_cmd_node.specs.declared.node_ask.NodeAsk.TheVariants as node
use Rattle.mr_node_links.specs.State.{full}
use Rattle.mr_node_links.specs.Progresses.{AgreesAlong}
use Rattle.mr_node_spec.specs.Requests.{Asks, Waits}
use Rattle.mr_node_spec.specs.ReplicaRows.{IsUnwanted}
use Rattle.mr_commands.specs.Requests.{AsksNode}
use Rattle.mr_node.specs.Reading.{Passes, Wishes}
use Rattle.mr_node.specs.declared.noted.Noted.{Noted}
use Rattle.mr_node.specs.declared.noted.Noted.TheVariants as noted

abbrev pub Acknowledges : List (List ℕ) → ℤ → Type 0
Acknowledges words offset = AsksNode words (node.Ack offset)

abbrev pub AcknowledgesNothing : List (List ℕ) → Type 0
AcknowledgesNothing words = (offset : ℤ) → AsksNode words (node.Ack offset) → ⊥

-- These bytes begin with a request that has words.
pub record BeginsWithWords (u : List ℕ) : Type 0 where
  pub words : List (List ℕ)
  pub rest : List ℕ
  pub asks : Asks u words rest

abbrev pub IsNoted : List ℕ → Noted → Type 0
IsNoted u (noted.Wait progress) = Waits u × (length u < full)
IsNoted u (noted.Skip used) = Passes u used
IsNoted u (noted.Acknowledgement used offset) = Wishes u used (node.Ack offset)
IsNoted u noted.Part = IsUnwanted u

abbrev pub KeepsNoted : Noted → List ℕ → Type 0
KeepsNoted (noted.Wait progress) unread = AgreesAlong progress unread
KeepsNoted _ unread = Unit {0}

-- .. or memory is lacking
abbrev pub NotedAt : {E : Type 0} → List ℕ → Result Noted E → Type 0
NotedAt u (Ok noted) = IsNoted u noted × KeepsNoted noted u
NotedAt u (Err lacks) = BeginsWithWords u
