-- A step at the link to the master.
use Rattle.std.proofs.Common.{◌≡◌, ℕ, List, true, Some, sym, ap, ◌∙◌}
use Rattle.std.specs.Prelude.{Result, Ok, Err}
use Rattle.mr_links.specs.declared.link_id.LinkId.{LinkId}
use Rattle.mr_keyspace.specs.Dataset.{Dataset}
use Rattle.mr_replication.specs.State.{CourseState, name_of}
use Rattle.mr_replication.specs.Rows.{Listens}
use Rattle.mr_replication.specs.declared.upstream.UpstreamStep.{UpstreamStep}
use Rattle.mr_replication.specs.declared.upstream.UpstreamStep.TheVariants as outcome
use Rattle.mr_replication.specs.declared.upstream.UpstreamFault.{UpstreamFault}
use Rattle.mr_replication.specs.declared.upstream.UpstreamFault.TheVariants as fault
use Rattle.mr_node_output.specs.Outs.{OutsState}
use Rattle.mr_node_spec.specs.State.{NodeState, course_of}
use Rattle.mr_node_spec.specs.UpstreamRows.{Hears, Lacks, Spends, Waits, ends_behind, node_behind, outs_behind}
use Rattle.mr_node_state.specs.Listening.{Heard}
use Rattle.mr_node.proofs.Ends.{some_is}

module _ (a b : NodeState) (l : LinkId) (told : List ℕ) (followed : name_of a.follow ≡ Some l) where
  named_at : {r : Result UpstreamStep UpstreamFault} {d : CourseState} {n : Dataset} (h : Listens (course_of a) a.core.held r d n told) → h.name ≡ l
  named_at h = some_is h.name l (sym (ap name_of h.found) ∙ followed)

  pub waits_of : a.core.up ≡ true → Heard a (Ok outcome.Idle) b told → Waits a l b
  waits_of up h = record { up = up; course = h.course; told = told; listens = h.listens; named = named_at h.listens; node = h.node }

  pub lacks_of : Heard a (Err fault.Memory) b told → Lacks a l b
  lacks_of h = record { course = h.course; told = told; listens = h.listens; named = named_at h.listens; node = h.node }

  pub spends_of : Heard a (Err fault.Stopped) b told → Spends a l b
  spends_of h = record {
    course = h.course;
    told = told;
    listens = h.listens;
    named = named_at h.listens;
    node = h.node;
  }

  pub hears_of : (step : UpstreamStep) (outs : OutsState) → a.core.up ≡ true → Heard a (Ok step) b told → outs ≡ outs_behind step l told → Hears a l step b outs
  hears_of step outs up h gives = record {
    up = up;
    course = h.course;
    told = told;
    listens = h.listens;
    named = named_at h.listens;
    node = h.node ∙ ap (λ (name : LinkId). node_behind a h.course b.core.held (ends_behind step name a.ends)) (named_at h.listens);
    outs_are = gives;
  }
