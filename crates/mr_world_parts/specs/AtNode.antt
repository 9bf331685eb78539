-- A node among others: which ids can't be drawn, how it begins with what a file holds, how it dials, and by which link it follows.
use Rattle.std.specs.Prelude.{◌≡◌, ◌≢◌, ◌<◌, ◌||◌, ℕ, List, Bool, true, None, Result, Ok, Err, bytes_eq, is_some, take}
use Rattle.mr_links.specs.declared.link_id.LinkId.{LinkId}
use Rattle.mr_links.specs.Links.{links_limit}
use Rattle.mr_keyspace.specs.Dataset.{Dataset}
use Rattle.mr_groups.specs.Folding.{LoadsGroups}
use Rattle.mr_repl.specs.ReplId.{zero_id}
use Rattle.mr_node_output.specs.Outs.{OutsState}
use Rattle.mr_node_spec.specs.State.{NodeState}
use Rattle.mr_node_spec.specs.LinkRows.{Dials}
use Rattle.mr_node.specs.Calls.{OpensNoMore}
use Rattle.mr_node.specs.declared.fault.NodeFault.{NodeFault}
use Rattle.mr_node.specs.declared.fault.NodeFault.TheVariants as fault
use Rattle.law_refinement.specs.State.{Slot, BookEntry}
use Rattle.law_refinement.specs.Books.{entry_of}
use Rattle.law_refinement.specs.Carrying.{begun_slot}

-- It was drawn before, or is that of zeros.
abbrev pub is_spent : List BookEntry → List ℕ → Bool
is_spent es id = bytes_eq id zero_id || is_some (entry_of es id)

-- A node in this role begins with what the longest beginning of these bytes makes that makes a dataset by groups, and that is its file.
pub record IsLoaded (kept : List ℕ) (as_replica : Bool) (port backlog : ℕ) (id : List ℕ) (s : Slot) : Type 0 where
  pub used : ℕ
  pub held : Dataset
  pub loads : LoadsGroups kept used held
  pub is : s ≡ begun_slot as_replica port backlog id held (take used kept)

-- The row of a node that dials, by a link of those that there may be, where what it says first isn't looked at.
abbrev pub DialsBy : NodeState → NodeState → Result LinkId NodeFault → Type 0
DialsBy a b (Ok l) = (outs : OutsState) × (a.core.up ≡ true) × Dials a l b outs × (a.ends.opened < links_limit)
DialsBy a b (Err fault.Memory) = (a.core.up ≡ true) × (b ≡ a) × (a.ends.opened < links_limit)
DialsBy a b (Err fault.Stopped) = OpensNoMore a b
DialsBy a b (Err fault.NoLink) = ⊥
DialsBy a b (Err fault.InputFull) = ⊥

-- The node follows by the link that it dialled last, which is l. It may be stopped.
pub record IsFollowing (s : Slot) (l : ℕ) : Type 0 where
  pub dialled : s.dialled ≡ l
  pub follows : s.node.follow ≢ None
