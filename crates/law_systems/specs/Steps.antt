-- What may happen next among several servers.
use Rattle.std.specs.Prelude.{◌≡◌, ◌+◌, ◌++◌, ℕ, List, [], ◌∷◌, Bool, false, Option, None, Some, Ok, length, slice_get, slice_set}
use Rattle.std.specs.FinMap as map
use Rattle.mr_links.specs.declared.link_id.LinkId.{LinkId}
use Rattle.mr_keyspace.specs.Dataset.{Dataset}
use Rattle.mr_data.specs.declared.given.Given.{Given}
use Rattle.mr_file.specs.declared.sync_mode.SyncMode.{SyncMode}
use Rattle.law_minired.specs.Snapshots.{IsReadAs}
use Rattle.mr_node_output.specs.Outs.{OutsState}
use Rattle.mr_node_spec.specs.State.{NodeState, started}
use Rattle.mr_node_spec.specs.Sound.{IsSound}
use Rattle.mr_node_spec.specs.LinkRows.{Feeds, Opens, closed_at}
use Rattle.mr_node.specs.Calls.{FitsMore}
use Rattle.mr_node.specs.Steps.{Steps}
use Rattle.mr_node.specs.declared.step.Step.TheVariants as step
use Rattle.mr_loop.specs.declared.fault.LoopFault.{LoopFault}
use Rattle.mr_loop.specs.Stage.{Stage}
use Rattle.mr_loop.specs.Causes.{Act, Stop, at_dial, at_step, at_tick, stops_at_open, stops_at_step, stops_at_tick, was_down}
use Rattle.mr_loop.specs.Rows.{Event, Happens, IsToldToStop, acts, fault_of, idles, is_refused, spills, stops, tears}
use Rattle.mr_loop.specs.Giving.{listed, taken_by}
use Rattle.law_systems.specs.System.{Connection, Doing, IsAt, Server, System, gives_up, is_taken, of_itself, rests, runs}
use Rattle.law_systems.specs.Network.{Goes}

-- ---- ids
-- **A drawn id is new**: no server has taken it.
abbrev pub IsNew : System → List ℕ → Type 0
IsNew x id = is_taken x.ids id ≡ false

-- the id that was drawn for a step, which takes it or not
abbrev pub drawn_for : Act → List (List ℕ)
drawn_for (at_step socket link given fresh news) = fresh ∷ []
drawn_for (at_tick given) = []
drawn_for (at_dial socket link) = []

abbrev pub drawn_at_stop : Stop → List (List ℕ)
drawn_at_stop (stops_at_step link given fresh) = fresh ∷ []
drawn_at_stop (stops_at_tick given) = []
drawn_at_stop stops_at_open = []
drawn_at_stop was_down = []

abbrev pub drawn_in : Event → List (List ℕ)
drawn_in (is_refused socket link given fresh) = fresh ∷ []
drawn_in (idles socket link given fresh) = fresh ∷ []
drawn_in (acts act outs) = drawn_for act
drawn_in (spills act outs) = drawn_for act
drawn_in (tears act outs) = drawn_for act
drawn_in (stops stop) = drawn_at_stop stop
drawn_in _ = []

abbrev pub AreNew : System → List (List ℕ) → Type 0
AreNew x [] = Unit {0}
AreNew x (id ∷ ids) = IsNew x id × AreNew x ids

-- ---- a server begins
-- **A server begins with what its file is read as**, whatever bytes that has; as a master, under an id that
-- it drew, and without connections.
pub record Begins (id file : List ℕ) (held : Dataset) (s : Stage) : Type 0 where
  pub port : ℕ
  pub backlog : ℕ
  pub read : IsReadAs file held
  pub node : s.node ≡ started false port backlog id held
  pub sound : IsSound s.node
  pub alone : s.own.connections ≡ map.empty

-- Before its first turn a server may ask its node something itself, as `--replicaof` has it: on a client's
-- link that it opens for one step and closes again. What the step gives out is dropped.
pub record AsksItself (x : System) (s : Stage) (t : Stage) (taken : List (List ℕ)) : Type 0 where
  pub alone : s.own.connections ≡ map.empty
  pub link : LinkId
  pub opened : NodeState
  pub opens : Opens s.node link opened
  pub bytes : List ℕ
  pub fed : NodeState
  pub feeds : Feeds opened link bytes fed
  pub fits : FitsMore opened link (length bytes)
  pub fed_sound : IsSound fed
  pub given : Given
  pub fresh : List ℕ
  pub new : IsNew x fresh
  pub stepped : NodeState
  pub outs : OutsState
  pub steps : Steps fed link given fresh stepped (Ok (step.Done outs))
  pub sound : IsSound stepped
  pub is : t ≡ record s { node = closed_at link stepped }
  pub taken_are : taken ≡ listed outs.used

-- ---- what happens
-- the server behind an event: it goes on, or has met a fault
abbrev pub behind : Option LoopFault → Stage → Doing
behind None t = runs t
behind (Some why) t = gives_up t

abbrev pub put_server : System → ℕ → Server → System
put_server x n v = record x { servers = slice_set x.servers n v }

pub data Step (x y : System) : Type 0 where
  -- a server begins for the first time: there is nothing in its file
  begins : (id file : List ℕ) (s : Stage) → IsNew x id → Begins id file map.empty s
      → y ≡ record x { servers = x.servers ++ record { life = 0; doing = runs s } ∷ []; ids = id ∷ x.ids }
      → Step x y
  -- one that there was begins again, wherever it was: its program was killed, or has ended. Whatever has
  -- become of its file, and whatever it acknowledged, **any bytes may be there**
  begins_again : (n : ℕ) (server : Server) (id file : List ℕ) (held : Dataset) (s : Stage)
      → slice_get x.servers n ≡ Some server → IsNew x id → Begins id file held s
      → y ≡ record (put_server x n (record { life = server.life + 1; doing = runs s })) { ids = id ∷ x.ids }
      → Step x y
  asks_itself : (n life : ℕ) (s t : Stage) (taken : List (List ℕ)) → IsAt x n life s
      → AsksItself x s t taken
      → y ≡ record (put_server x n (record { life = life; doing = runs t })) { connections = x.connections ++ of_itself ∷ []; ids = taken ++ x.ids } → Step x y
  -- an event of its turns, whether the wire tells its bytes or not, and however the file is synced
  turns : (n life : ℕ) (s t : Stage) (tells : Bool) (mode : SyncMode) (event : Event) (connections : List Connection) → IsAt x n life s → AreNew x (drawn_in event)
      → Happens tells mode s event t → Goes n life x.connections event connections
      → y ≡ record { servers = slice_set x.servers n (record { life = life; doing = behind (fault_of event) t }); connections = connections; ids = taken_by event ++ x.ids } → Step x y
  -- one whose turn has met a fault tells its node to stop
  stops_its_node : (n life : ℕ) (s t : Stage)
      → slice_get x.servers n ≡ Some (record { life = life; doing = gives_up s }) → IsToldToStop s t
      → y ≡ put_server x n (record { life = life; doing = gives_up t }) → Step x y
  -- it ends, or is killed, at any moment
  ends : (n : ℕ) (server : Server) → slice_get x.servers n ≡ Some server
      → y ≡ put_server x n (record server { doing = rests }) → Step x y

-- one after another
abbrev pub Course : System → List System → Type 0
Course x [] = Unit {0}
Course x (y ∷ ys) = Step x y × Course y ys
