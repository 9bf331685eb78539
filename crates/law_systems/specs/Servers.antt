-- What is promised of servers, whatever happens.
use Rattle.std.specs.Prelude.{◌≡◌, ℕ, List, [], ◌∷◌, true, false, Some, slice_get}
use Rattle.std.specs.FinMap.{empty}
use Rattle.mr_keyspace.specs.Dataset.{Dataset}
use Rattle.mr_node_spec.specs.State.{NodeState, started}
use Rattle.mr_node_spec.specs.Sound.{IsSound}
use Rattle.mr_loop.specs.Stage.{Stage}
use Rattle.law_refinement.specs.State.{Slot, WorldState}
use Rattle.law_refinement.specs.Runs.{IsMoment}
use Rattle.law_systems.specs.System.{Doing, Server, System, gives_up, is_taken, no_system, rests, runs}
use Rattle.law_systems.specs.Steps.{Course}

-- while a server does this its program has this node
abbrev pub Has : NodeState → Doing → Type 0
Has a rests = ⊥
Has a (runs s) = s.node ≡ a
Has a (gives_up s) = s.node ≡ a

-- The server n has a node that isn't stopped, which has this id and this offset, and holds m.
pub record Shows (x : System) (n : ℕ) (id : List ℕ) (offset : ℕ) (m : Dataset) : Type 0 where
  pub server : Server
  pub found : slice_get x.servers n ≡ Some server
  pub node : NodeState
  pub has : Has node server.doing
  pub up : node.core.up ≡ true
  pub id_is : node.core.lineage.id ≡ id
  pub offset_is : node.core.lineage.stream.offset ≡ offset
  pub held_is : node.core.held ≡ m

-- of a course that begins with no server, that beginning counted as 0, x is the moment of this number
abbrev pub IsMomentOf : List System → ℕ → System → Type 0
IsMomentOf systems k x = slice_get (no_system ∷ systems) k ≡ Some x

-- **Servers never differ silently**: of any number of servers, over whatever happens, those whose nodes
-- show one id and one offset hold one dataset, at any two moments.
abbrev pub ServersNeverDiffer : Type 0
ServersNeverDiffer = (systems : List System) → Course no_system systems → (j k : ℕ) (x y : System)
    → IsMomentOf systems j x → IsMomentOf systems k y
    → (n m : ℕ) (id : List ℕ) (offset : ℕ) (a b : Dataset) → Shows x n id offset a → Shows y m id offset b
    → a ≡ b

-- Each server that has a node has it in the World, as the slot of its number: up or stopped, in its role,
-- with its id, offset and dataset.
abbrev pub IsBeside : System → WorldState → Type 0
IsBeside x w = (n : ℕ) (server : Server) (a : NodeState) → slice_get x.servers n ≡ Some server
    → Has a server.doing
    → (slot : Slot) × (slice_get w.slots n ≡ Some slot) × (slot.node.core ≡ a.core)

-- Beside a moment of servers there is one of a run of Worlds.
pub record HasWorld (worlds : List WorldState) (x : System) : Type 0 where
  pub number : ℕ
  pub world : WorldState
  pub moment : IsMoment worlds number world
  pub beside : IsBeside x world

-- **Beside servers there is a run of Worlds**, in which at each moment the nodes are theirs.
abbrev pub ServersHaveWorlds : Type 0
ServersHaveWorlds = (systems : List System) → Course no_system systems
    → (worlds : List WorldState) × ((k : ℕ) (x : System) → IsMomentOf systems k x → HasWorld worlds x)

-- There are such courses: a server begins with nothing in its file, and shows the id that it drew, offset 0
-- and the empty dataset.
abbrev pub ServersBegin : Type 0
ServersBegin = (port backlog : ℕ) (id : List ℕ) (s : Stage) → IsSound s.node
    → is_taken no_system.ids id ≡ false → s.node ≡ started false port backlog id empty
    → s.own.connections ≡ empty
    → (x : System) × Course no_system (x ∷ []) × Shows x 0 id 0 empty
