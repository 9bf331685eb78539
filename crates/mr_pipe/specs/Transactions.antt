-- What an open transaction leaves alone, and what a file keeps of one.
use Rattle.std.specs.Prelude.{◌≡◌, ◌≢◌, ◌⊎◌, ℕ, List, [], None, Some}
use Rattle.mr_keyspace.specs.Dataset.{Dataset}
use Rattle.mr_data.specs.declared.given.Given.{Given}
use Rattle.mr_groups.specs.Folding.{LoadsGroups, MakesByGroups}
use Rattle.mr_node_links.specs.State.{Transaction}
use Rattle.mr_node_output.specs.Outs.{Output}
use Rattle.mr_pipe.specs.Outside.{Kept, IsTorn}
use Rattle.mr_pipe.specs.State.{PipeState}
use Rattle.mr_pipe.specs.Sessions.{IsServed, IsServedWithin, changes_of}

-- The node stays as it is, and nothing is put behind its stream or done to the file.
pub record LeavesAll (s t : PipeState) (out : Output) : Type 0 where
  pub core : t.core ≡ s.core
  pub grown : out.grown ≡ []
  pub changes : changes_of out ≡ []

-- so of each request behind which a transaction is open: the one that begins it, and those that don't end it
abbrev pub OpenTransactionsWait : Type 0
OpenTransactionsWait = (g : Given) (s : PipeState) (u : List ℕ) (t : PipeState) (rest : List ℕ) (out : Output) → IsServed g s u t rest out → t.transaction ≢ None → LeavesAll s t out

-- Where a file made the node's dataset, and failed at what a request within a transaction was to do to it, what is loaded of it is the dataset
-- before that request or the one behind it: all that waited, or nothing.
abbrev pub TransactionsLoadWhole : Type 0
TransactionsLoadWhole = (g : Given) (s : PipeState) (held : Transaction) (u : List ℕ) (t : PipeState) (rest : List ℕ) (out : Output) → IsServedWithin g s held u t rest out
    → (a b : Kept) (xs ys : List ℕ) → a.told ≡ Some xs → MakesByGroups xs s.core.held → IsTorn a b (changes_of out) → b.told ≡ Some ys
    → (used : ℕ) (loaded : Dataset) → LoadsGroups ys used loaded → (loaded ≡ s.core.held) ⊎ (loaded ≡ t.core.held)
