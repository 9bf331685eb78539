-- What a turn acts on.
use Rattle.std.specs.Prelude.{◌≡◌, ℕ, List, [], ◌++◌, Bool, true, Option, refl}
use Rattle.std.specs.Coded.{Coded, code_by, coded×, coded_ℕ, coded_bool, coded_list}
use Rattle.std.specs.FinMap as map
use Rattle.mr_links.specs.LinkId.{id_cmp, coded_id}
use Rattle.mr_links.specs.declared.link_id.LinkId.{LinkId}
use Rattle.mr_node_spec.specs.State.{NodeState}
use Rattle.mr_wire.specs.Wire.{WireState}
use Rattle.mr_connections.specs.State.{ConnectionState, connection_code}
use Rattle.mr_loop.specs.declared.lacking.Asked.{Asked}
use Rattle.mr_loop.specs.declared.lacking.Lacked.{Lacked}
use Rattle.mr_loop.specs.Lacking.{lacked_code, lost, lacked_once}

-- what the loop itself holds
pub record LoopState : Type 0 where
  pub connections : map.FinMap id_cmp ConnectionState  -- each under the name of its socket
  pub batch : List ℕ  -- the texts of groups that no append has taken
  pub halted : Bool  -- a client asked that the program end
  pub hurries : Bool  -- the next turn goes on without waiting
  pub lacked : Lacked  -- how often memory ran out

abbrev pub loop_code : Coded LoopState
loop_code = code_by (map.FinMap id_cmp ConnectionState × (List ℕ × (Bool × (Bool × Lacked)))) (coded× (map.code coded_id connection_code) (coded× (coded_list coded_ℕ) (coded× coded_bool (coded× coded_bool lacked_code))))
    (λ s. (s.connections, (s.batch, (s.halted, (s.hurries, s.lacked))))) (λ p. record { connections = p.0; batch = p.1.0; halted = p.1.1.0; hurries = p.1.1.1.0; lacked = p.1.1.1.1 }) (λ _. refl)

abbrev pub connection_at : LoopState → LinkId → Option ConnectionState
connection_at o socket = map.get o.connections socket

-- with other connections
abbrev pub with_connections : (map.FinMap id_cmp ConnectionState → map.FinMap id_cmp ConnectionState) → LoopState → LoopState
with_connections f o = record o { connections = f o.connections }

-- with more that waits for the file
abbrev pub filed : List ℕ → LoopState → LoopState
filed texts o = record o { batch = o.batch ++ texts }

-- with nothing that waits for it
abbrev pub committed : LoopState → LoopState
committed o = record o { batch = [] }

abbrev pub halting : LoopState → LoopState
halting o = record o { halted = true }

-- memory ran out once more, and no link is closed for it
abbrev pub lacking : LoopState → LoopState
lacking o = record o { lacked = lacked_once o.lacked }

-- .. as this was asked for, and a link is closed for it
abbrev pub losing : Asked → LoopState → LoopState
losing what o = record o { lacked = lost what o.lacked }

abbrev pub Lacks : Asked → LoopState → LoopState → Type 0
Lacks what o p = p.lacked ≡ lost what o.lacked

-- all that a turn acts on
pub record Stage : Type 0 where
  pub node : NodeState
  pub own : LoopState
  pub wire : WireState
  pub failed : ℕ  -- how often the wire failed
  pub told : Option (List ℕ)  -- the bytes of the file, of one that tells them
  pub synced : Option ℕ  -- how many of them the last sync covered

abbrev pub stage : NodeState → LoopState → WireState → ℕ → Option (List ℕ) → Option ℕ → Stage
stage node own wire failed told synced = record { node = node; own = own; wire = wire; failed = failed; told = told; synced = synced }
