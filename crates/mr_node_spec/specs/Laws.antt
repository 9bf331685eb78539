-- What the rows of a step keep to.
use Rattle.std.specs.Prelude.{◌≡◌, ◌⊎◌, ◌≤◌, ℕ, List, [], false, Some}
use Rattle.mr_links.specs.declared.link_id.LinkId.{LinkId}
use Rattle.mr_data.specs.declared.given.Given.{Given}
use Rattle.mr_node_links.specs.State.{Transaction}
use Rattle.mr_node_output.specs.Outs.{OutsState}
use Rattle.mr_node_spec.specs.State.{NodeState}
use Rattle.mr_node_spec.specs.ClientRows.{ClientRow}
use Rattle.mr_node_spec.specs.Transactions.{WithinRow}

-- The stream has no fewer bytes than before, under its name; or under a fresh one, which the outs say was taken.
pub record GoesOn (a b : NodeState) (fresh : List ℕ) (outs : OutsState) : Type 0 where
  pub onward : a.core.lineage.stream.offset ≤ b.core.lineage.stream.offset
  pub name : (b.core.lineage.id ≡ a.core.lineage.id) ⊎ ((b.core.lineage.id ≡ fresh) × (outs.used ≡ Some fresh))

abbrev pub StreamsOnlyGrow : Type 0
StreamsOnlyGrow = (a b : NodeState) (l : LinkId) (u : List ℕ) (given : Given) (fresh : List ℕ) (outs : OutsState) → ClientRow a l u given fresh b outs → GoesOn a b fresh outs

-- .. where a transaction is open
abbrev pub StreamsOnlyGrowWithin : Type 0
StreamsOnlyGrowWithin = (a b : NodeState) (l : LinkId) (t : Transaction) (u : List ℕ) (given : Given) (fresh : List ℕ) (outs : OutsState) → WithinRow a l t u given b outs → GoesOn a b fresh outs

-- Dataset and offset stay, and nothing is sent as a stream.
pub record OnlyAnswers (a b : NodeState) (outs : OutsState) : Type 0 where
  pub held : b.core.held ≡ a.core.held
  pub offset : b.core.lineage.stream.offset ≡ a.core.lineage.stream.offset
  pub grown : outs.grown ≡ []

abbrev pub ReplicasOnlyAnswer : Type 0
ReplicasOnlyAnswer = (a b : NodeState) (l : LinkId) (u : List ℕ) (given : Given) (fresh : List ℕ) (outs : OutsState) → ClientRow a l u given fresh b outs
    → a.core.master ≡ false → b.core.master ≡ false → OnlyAnswers a b outs

-- .. where a transaction is open: what waits has no effect there
abbrev pub ReplicasOnlyAnswerWithin : Type 0
ReplicasOnlyAnswerWithin = (a b : NodeState) (l : LinkId) (t : Transaction) (u : List ℕ) (given : Given) (outs : OutsState) → WithinRow a l t u given b outs → a.core.master ≡ false → OnlyAnswers a b outs
