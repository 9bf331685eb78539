-- A node that begins with what a file holds.
use Rattle.std.proofs.Common.{◌≡◌, ◌∙◌, ℕ, List, Bool, not, take, ap}
use Rattle.mr_keyspace.specs.Dataset.{Dataset}
use Rattle.mr_groups.specs.Folding.{LoadsGroups}
use Rattle.mr_node_spec.specs.State.{NodeState, started}
use Rattle.mr_world_parts.specs.AtNode.{IsLoaded}

pub loaded_here : (kept : List ℕ) (as_replica : Bool) (port backlog : ℕ) (id : List ℕ) (used : ℕ) (held : Dataset) (node : NodeState) (file : List ℕ)
    → LoadsGroups kept used held → node ≡ started as_replica port backlog id held → file ≡ take used kept
    → IsLoaded kept as_replica port backlog id (record { node = node; file = file; as_master = not as_replica; dialled = 0 })
loaded_here kept as_replica port backlog id used held node file loads n f = record {
  used = used;
  held = held;
  loads = loads;
  is = ap (λ z. record { node = z; file = file; as_master = not as_replica; dialled = 0 }) n
      ∙ ap (λ z. record { node = started as_replica port backlog id held; file = z; as_master = not as_replica; dialled = 0 }) f;
}
