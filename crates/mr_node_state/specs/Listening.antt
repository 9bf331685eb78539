-- A step at the link to the master, carried into what the node holds.
use Rattle.std.specs.Prelude.{◌≡◌, ℕ, List, Bool, false, Option, None, Some, Result, Ok, Err}
use Rattle.std.specs.Ordering.{eq_by_cmp}
use Rattle.mr_links.specs.Links.{Links}
use Rattle.mr_links.specs.LinkId.{id_cmp}
use Rattle.mr_links.specs.declared.link_id.LinkId.{LinkId}
use Rattle.mr_replication.specs.State.{CourseState}
use Rattle.mr_replication.specs.Rows.{Listens}
use Rattle.mr_replication.specs.declared.upstream.UpstreamStep.{UpstreamStep}
use Rattle.mr_replication.specs.declared.upstream.UpstreamFault.{UpstreamFault}
use Rattle.mr_replication.specs.declared.upstream.UpstreamFault.TheVariants as fault
use Rattle.mr_node_links.specs.State.{EndState}
use Rattle.mr_node_spec.specs.State.{NodeState, course_of}
use Rattle.mr_node_spec.specs.UpstreamRows.{ends_behind}
use Rattle.mr_node_state.specs.Parts.{node_of}

-- where no step was made, the ends are what they were
abbrev pub ends_after : Result UpstreamStep UpstreamFault → LinkId → Links EndState → Links EndState
ends_after (Ok step) name ends = ends_behind step name ends
ends_after (Err f) name ends = ends

-- a spent dataset stops the node
abbrev pub up_after : Result UpstreamStep UpstreamFault → Bool → Bool
up_after (Ok step) up = up
up_after (Err fault.Memory) up = up
up_after (Err fault.Stopped) up = false

-- The course and the dataset are behind the step, and of the rest the ends alone change.
pub record Heard (a : NodeState) (result : Result UpstreamStep UpstreamFault) (b : NodeState) (told : List ℕ) : Type 0 where
  pub course : CourseState
  pub listens : Listens (course_of a) a.core.held result course b.core.held told
  pub node : b ≡ node_of (up_after result a.core.up) a.core.port a.core.upstream a.core.mark course b.core.held (ends_after result listens.name a.ends)

-- whether that is the name of a link, where there is one
abbrev pub is_name : Option LinkId → LinkId → Bool
is_name None l = false
is_name (Some name) l = eq_by_cmp id_cmp name l
