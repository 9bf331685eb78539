-- What a step at the link to the master may do.
use Rattle.std.specs.Prelude.{◌≡◌, ℕ, List, [], true, false, Some, Ok, Err, bytes_eq, if◌then◌else◌}
use Rattle.mr_links.specs.Links.{Links}
use Rattle.mr_links.specs.declared.link_id.LinkId.{LinkId}
use Rattle.mr_keyspace.specs.Dataset.{Dataset}
use Rattle.mr_effect.specs.Spelling.{text}
use Rattle.mr_effect.specs.declared.effect.Effect.TheVariants as effect
use Rattle.mr_replication.specs.State.{CourseState}
use Rattle.mr_replication.specs.Rows.{Listens}
use Rattle.mr_replication.specs.declared.upstream.UpstreamStep.{UpstreamStep}
use Rattle.mr_replication.specs.declared.upstream.UpstreamStep.TheVariants as outcome
use Rattle.mr_replication.specs.declared.upstream.UpstreamFault.TheVariants as fault
use Rattle.mr_node_links.specs.State.{EndState, put_end}
use Rattle.mr_node_links.specs.State.EndState.{shut}
use Rattle.mr_node_output.specs.Outs.{OutsState, no_outs}
use Rattle.mr_node_spec.specs.State.{NodeState, course_of, stopped_as}

-- the text of a heartbeat
abbrev pub beat : List ℕ
beat = text effect.Ping

-- what goes to the file of the text of a group that was applied: a heartbeat doesn't
abbrev pub filed : List ℕ → List ℕ
filed told = if bytes_eq told beat then [] else told

-- the node's end is closed where the master is left
abbrev pub ends_behind : UpstreamStep → LinkId → Links EndState → Links EndState
ends_behind outcome.Idle name ends = ends
ends_behind outcome.Said name ends = ends
ends_behind outcome.Announced name ends = ends
ends_behind outcome.Continued name ends = ends
ends_behind outcome.Loaded name ends = ends
ends_behind outcome.Applied name ends = ends
ends_behind outcome.Left name ends = put_end ends name shut
ends_behind outcome.Spoiled name ends = put_end ends name shut

-- A line is sent; the file is replaced by what rebuilds a snapshot's dataset; the text of a group goes behind the file; or the link is closed.
abbrev pub outs_behind : UpstreamStep → LinkId → List ℕ → OutsState
outs_behind outcome.Idle name told = record no_outs { link = Some name }
outs_behind outcome.Said name told = record no_outs { link = Some name; reply = told }
outs_behind outcome.Announced name told = record no_outs { link = Some name }
outs_behind outcome.Continued name told = record no_outs { link = Some name }
outs_behind outcome.Loaded name told = record no_outs { link = Some name; replaced = Some told }
outs_behind outcome.Applied name told = record no_outs { link = Some name; appended = filed told }
outs_behind outcome.Left name told = record no_outs { link = Some name; closes = true }
outs_behind outcome.Spoiled name told = record no_outs { link = Some name; closes = true }

-- the node behind a step of its course
abbrev pub node_behind : NodeState → CourseState → Dataset → Links EndState → NodeState
node_behind a course held ends = record {
  core = record a.core { master = course.master; offers = course.offers; lineage = course.lineage; held = held };
  ends = ends;
  follow = course.follow;
}

-- A step of the follower, carried into the node: what it came to, with what was put out.
pub record Hears (a : NodeState) (l : LinkId) (step : UpstreamStep) (b : NodeState) (outs : OutsState) : Type 0 where
  pub up : a.core.up ≡ true
  pub course : CourseState
  pub told : List ℕ
  pub listens : Listens (course_of a) a.core.held (Ok step) course b.core.held told
  pub named : listens.name ≡ l
  pub node : b ≡ node_behind a course b.core.held (ends_behind step l a.ends)
  pub outs_are : outs ≡ outs_behind step l told

-- Nothing whole is there: the bytes are the same, though what was there of a snapshot may have been taken.
pub record Waits (a : NodeState) (l : LinkId) (b : NodeState) : Type 0 where
  pub up : a.core.up ≡ true
  pub course : CourseState
  pub told : List ℕ
  pub listens : Listens (course_of a) a.core.held (Ok outcome.Idle) course b.core.held told
  pub named : listens.name ≡ l
  pub node : b ≡ node_behind a course b.core.held a.ends

-- Memory is lacking: the bytes are the same, though what was there of a snapshot may have been taken.
pub record Lacks (a : NodeState) (l : LinkId) (b : NodeState) : Type 0 where
  pub course : CourseState
  pub told : List ℕ
  pub listens : Listens (course_of a) a.core.held (Err fault.Memory) course b.core.held told
  pub named : listens.name ≡ l
  pub node : b ≡ node_behind a course b.core.held a.ends

-- Memory ran out within a group, or it can't be applied as a whole: the node stops, and is what its course and its dataset came to.
pub record Spends (a : NodeState) (l : LinkId) (b : NodeState) : Type 0 where
  pub course : CourseState
  pub told : List ℕ
  pub listens : Listens (course_of a) a.core.held (Err fault.Stopped) course b.core.held told
  pub named : listens.name ≡ l
  pub node : b ≡ stopped_as (node_behind a course b.core.held a.ends)
