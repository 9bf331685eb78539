-- That there are servers: one begins with nothing in its file.
use Rattle.std.proofs.Common.{◌≡◌, ◌≤◌, ◌++◌, ℕ, List, [], ◌∷◌, length, length-append, refl, ap, arith}
use Rattle.std.specs.FinMap.{empty}
use Rattle.mr_keyspace.specs.Dataset.{Dataset}
use Rattle.mr_groups.specs.Folding.{LoadsGroups, MakesByGroups}
use Rattle.mr_groups.proofs.Runs.{makes_nothing}
use Rattle.mr_node_spec.specs.State.{NodeState}
use Rattle.law_systems.specs.System.{System, no_system, runs}
use Rattle.law_systems.specs.Steps.{Step}
use Rattle.law_systems.specs.Servers.{ServersBegin}

loads_nothing : LoadsGroups [] 0 empty
loads_nothing = record { within = omega arith; made = makes_nothing; longest = longest }
  where
    longest : (other more : List ℕ) (n : Dataset) → [] ≡ other ++ more → MakesByGroups other n → length other ≤ 0
    longest other more n e made = let all = ap (λ (z : List ℕ). length z) e in let parts = length-append other more in omega (arith, all, parts)

pub servers_begin : ServersBegin
servers_begin port backlog id s sound new node alone =
    let x : System = record { servers = record { life = 0; doing = runs s } ∷ []; connections = []; ids = id ∷ no_system.ids } in (
      x,
      (Step.begins id [] s new (record { port = port; backlog = backlog; read = (0, loads_nothing); node = node; sound = sound; alone = alone }) refl, tt),
      record {
        server = record { life = 0; doing = runs s };
        found = refl;
        node = s.node;
        has = refl;
        up = ap (λ (a : NodeState). a.core.up) node;
        id_is = ap (λ (a : NodeState). a.core.lineage.id) node;
        offset_is = ap (λ (a : NodeState). a.core.lineage.stream.offset) node;
        held_is = ap (λ (a : NodeState). a.core.held) node;
      },
    )
