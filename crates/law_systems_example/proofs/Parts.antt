-- What the systems here are made of.
use Rattle.std.proofs.Common.{ℕ, List, [], ◌∷◌, false, Some, codes}
use Rattle.std.specs.FinMap.{empty}
use Rattle.mr_keyspace.specs.Dataset.{Dataset}
use Rattle.mr_node_output.specs.Address.{AddressState}
use Rattle.mr_node_spec.specs.State.{NodeState, started}
use Rattle.mr_repl.specs.Backlog.{usual_backlog}
use Rattle.mr_wire.specs.Peer.{localhost}
use Rattle.mr_loop.specs.Lacking.{no_lack}
use Rattle.mr_loop.specs.Stage.{Stage}
use Rattle.law_systems.specs.System.{Connection, Doing, System}

-- ---- ids: the other server's before it is promoted, and one that is drawn for steps that take none
abbrev pub other_id : List ℕ
other_id = codes "id of the other node"

abbrev pub spare_id : List ℕ
spare_id = codes "id that nobody takes"

-- ---- servers
abbrev pub first_port : ℕ
first_port = 7001

abbrev pub other_port : ℕ
other_port = 7002

-- whom the other server follows
abbrev pub first_address : AddressState
first_address = record { host = localhost; port = first_port }

-- A server's program has begun with this node: it has no connections, and its file has these bytes.
abbrev pub begun_stage : NodeState → List ℕ → Stage
begun_stage node file = record {
  node = node;
  own = record { connections = empty; batch = []; halted = false; hurries = false; lacked = no_lack };
  wire = record { open_links = empty; opened = 0; sent = [] };
  failed = 0;
  told = Some file;
  synced = Some 0;
}

abbrev pub begun_as : (port : ℕ) → List ℕ → Dataset → List ℕ → Stage
begun_as port id held file = begun_stage (started false port usual_backlog id held) file

-- two servers, of which the first was started so often before
abbrev pub two : (life : ℕ) → Doing → Doing → List Connection → List (List ℕ) → System
two life one other connections ids = record {
  servers = record { life = life; doing = one } ∷ record { life = 0; doing = other } ∷ [];
  connections = connections;
  ids = ids;
}
