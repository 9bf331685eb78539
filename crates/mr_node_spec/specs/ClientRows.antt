-- What a step at a client's end of a link may do, one row for each.
use Rattle.std.specs.Prelude.{◌≡◌, ◌≢◌, ◌≤◌, ◌<◌, ◌++◌, ℕ, ℤ, pos, List, [], true, false, not, Some, None, length}
use Rattle.std.specs.List.{AllByRecursion}
use Rattle.mr_links.specs.declared.link_id.LinkId.{LinkId}
use Rattle.mr_resp.specs.Replies.{Tree, error, reply_text}
use Rattle.mr_resp.specs.Faults.{fault_text}
use Rattle.mr_resp.specs.declared.fault.Fault.{Fault}
use Rattle.mr_keyspace.specs.Dataset.{Dataset}
use Rattle.mr_effect.specs.declared.effect.Effect.{Effect}
use Rattle.mr_keyspace.specs.Changes.{NeedsNoMemory}
use Rattle.mr_data.specs.Rebuilding.{rebuilding}
use Rattle.mr_data.specs.declared.given.Given.{Given}
use Rattle.mr_cmd_shared.specs.Answered.{done}
use Rattle.mr_commands.specs.Requests.{AsksNode, HasPlan, halts as is_halting, quits}
use Rattle.mr_cmd_node.specs.declared.node_ask.NodeAsk.TheVariants as node
use Rattle.mr_repl.specs.Lineage.{LineageState, standing_of, renamed}
use Rattle.mr_repl.specs.Backlog.{bytes_from, offset_limit}
use Rattle.mr_repl.specs.Standing.{MayContinue}
use Rattle.mr_peer_lines.specs.Written.{reply_line, length_line}
use Rattle.mr_peer_lines.specs.declared.psync.PsyncReply.TheVariants.{FullResync, Continue}
use Rattle.mr_replication.specs.State.{name_of}
use Rattle.mr_node_links.specs.State.{begun, full}
use Rattle.mr_node_links.specs.State.EndState.{client, waiting, replica}
use Rattle.mr_node_links.specs.Replicas.{Lists}
use Rattle.mr_node_output.specs.Address.{AddressState}
use Rattle.mr_node_output.specs.Outs.{OutsState, Output, no_outs, outs_with}
use Rattle.mr_node_spec.specs.State.{NodeState, IsShut, OthersStay}
use Rattle.mr_node_spec.specs.Sound.{ports}
use Rattle.mr_node_spec.specs.Requests.{Asks, Waits, IsDoomedBy}
use Rattle.mr_node_spec.specs.Growing.{FedTo, Remakes, offset_behind, rebuilt}
use Rattle.mr_node_spec.specs.Telling.{Around, IsAround}
use Rattle.mr_node_spec.specs.Ends.{Leaves, Settles, names_of}
use Rattle.mr_node_spec.specs.Served.{Served}

-- What stands at the front is used: the node becomes what that makes of it, and what that gives out is given out. What the stream grew by
-- goes to all replicas.
pub record ServesClient (a : NodeState) (l : LinkId) (u : List ℕ) (given : Given) (b : NodeState) (outs : OutsState) : Type 0 where
  pub up : a.core.up ≡ true
  pub rest : List ℕ
  pub out : Output
  pub around : Around
  pub is_around : IsAround a around
  pub served : Served a.core around u given b.core rest out
  pub leaves : Leaves a l b (client rest)
  pub fed : FedTo out.grown a outs.fed
  pub outs_are : outs ≡ record (outs_with (Some l) out) { fed = outs.fed }

-- These bytes end a link, and this is answered last: they are doomed, or a client asks that its link be closed.
pub data Ends (u last : List ℕ) : Type 0 where
  doomed : (fault : Fault) → IsDoomedBy u fault → last ≡ reply_text (error (fault_text fault)) → Ends u last
  quit : (words : List (List ℕ)) (rest : List ℕ) → Asks u words rest → quits words ≡ true → last ≡ reply_text done → Ends u last

-- The last is answered, and the link is closed.
pub record Closes (a : NodeState) (l : LinkId) (u : List ℕ) (b : NodeState) (outs : OutsState) : Type 0 where
  pub up : a.core.up ≡ true
  pub last : List ℕ
  pub ends : Ends u last
  pub core : b.core ≡ a.core
  pub follow : b.follow ≡ a.follow
  pub shut : IsShut b l
  pub others : OthersStay a b l
  pub outs_are : outs ≡ record no_outs { link = Some l; reply = last; closes = true }

-- These bytes begin with a client's wish that the program end, and the rest is left.
pub record AsksToHalt (u rest : List ℕ) : Type 0 where
  pub words : List (List ℕ)
  pub asks : Asks u words rest
  pub halting : is_halting words ≡ true

-- A client asks that the program end: that is used, nothing is answered, and nothing else changes.
pub record Halts (a : NodeState) (l : LinkId) (u : List ℕ) (b : NodeState) (outs : OutsState) : Type 0 where
  pub up : a.core.up ≡ true
  pub rest : List ℕ
  pub asks : AsksToHalt u rest
  pub core : b.core ≡ a.core
  pub leaves : Leaves a l b (client rest)
  pub outs_are : outs ≡ record no_outs { link = Some l; halts = true }

-- What PSYNC is answered by a master: where the stream may be continued from the byte that is wanted, the stream from there on; and else the
-- whole dataset, which has no more bytes than the line of its length can tell. Either comes behind the line that says so, with the id and, of
-- a dataset, the offset at which it stands.
pub data IsAnswerToPsync (a : LineageState) (m : Dataset) (id : List ℕ) (wanted : ℤ) (text : List ℕ) : Type 0 where
  continues : (from : ℕ) → wanted ≡ pos from → MayContinue (standing_of a) id from → text ≡ reply_line (Continue a.id) ++ bytes_from a.stream from → IsAnswerToPsync a m id wanted text
  resynchronizes : ((from : ℕ) → wanted ≡ pos from → MayContinue (standing_of a) id from → ⊥) → Remakes (rebuilding m) m → length (rebuilt m) ≤ offset_limit
      → text ≡ reply_line (FullResync a.id a.stream.offset) ++ (length_line (length (rebuilt m)) ++ rebuilt m) → IsAnswerToPsync a m id wanted text

-- A master is asked for its stream: all that stands ready is sent in one, and the link is a replica's from then on.
pub record Synchronizes (a : NodeState) (l : LinkId) (u : List ℕ) (b : NodeState) (outs : OutsState) : Type 0 where
  pub up : a.core.up ≡ true
  pub master : a.core.master ≡ true
  pub words : List (List ℕ)
  pub rest : List ℕ
  pub asks : Asks u words rest
  pub id : List ℕ
  pub wanted : ℤ
  pub wish : AsksNode words (node.Psync id wanted)
  pub text : List ℕ
  pub answer : IsAnswerToPsync a.core.lineage a.core.held id wanted text
  pub core : b.core ≡ a.core
  pub leaves : Leaves a l b (replica rest)
  pub outs_are : outs ≡ record no_outs { link = Some l; reply = text }

-- REPLICAOF NO ONE on a replica: it leaves its master, and its stream goes on under the fresh id. Up to its last byte it is known by the old id
-- too. It has something to continue from now on.
pub record Promotes (a : NodeState) (l : LinkId) (u fresh : List ℕ) (b : NodeState) (outs : OutsState) : Type 0 where
  pub up : a.core.up ≡ true
  pub replica : a.core.master ≡ false
  pub words : List (List ℕ)
  pub rest : List ℕ
  pub asks : Asks u words rest
  pub wish : AsksNode words node.NoOne
  pub core : b.core ≡ record a.core { master = true; offers = true; upstream = None; mark = None; lineage = renamed fresh a.core.lineage }
  pub follow : b.follow ≡ None
  pub ends : Settles a l b (client rest) (names_of (name_of a.follow))
  pub outs_are : outs ≡ record no_outs { link = Some l; reply = reply_text done; closed = names_of (name_of a.follow); used = Some fresh }

-- REPLICAOF another on a replica: it leaves its master, and is to follow that one.
pub record Turns (a : NodeState) (l : LinkId) (u : List ℕ) (b : NodeState) (outs : OutsState) : Type 0 where
  pub up : a.core.up ≡ true
  pub replica : a.core.master ≡ false
  pub words : List (List ℕ)
  pub rest : List ℕ
  pub asks : Asks u words rest
  pub address : AddressState
  pub wish : AsksNode words (node.ReplicaOf address.host address.port)
  pub port : address.port < ports
  pub another : a.core.upstream ≢ Some address
  pub core : b.core ≡ record a.core { upstream = Some address }
  pub follow : b.follow ≡ None
  pub ends : Settles a l b (client rest) (names_of (name_of a.follow))
  pub outs_are : outs ≡ record no_outs { link = Some l; reply = reply_text done; closed = names_of (name_of a.follow); follows = Some address }

-- REPLICAOF another on a master: it is a replica from now on, which offers its own id and offset, and closes its replicas' links.
pub record Demotes (a : NodeState) (l : LinkId) (u : List ℕ) (b : NodeState) (outs : OutsState) : Type 0 where
  pub up : a.core.up ≡ true
  pub master : a.core.master ≡ true
  pub words : List (List ℕ)
  pub rest : List ℕ
  pub asks : Asks u words rest
  pub address : AddressState
  pub wish : AsksNode words (node.ReplicaOf address.host address.port)
  pub port : address.port < ports
  pub core : b.core ≡ record a.core { master = false; offers = true; upstream = Some address; mark = None }
  pub follow : b.follow ≡ None
  pub closed : Lists outs.closed a.ends.open_links
  pub ends : Settles a l b (client rest) outs.closed
  pub outs_are : outs ≡ record no_outs { link = Some l; reply = reply_text done; closed = outs.closed; follows = Some address }

-- A client begins a transaction.
pub record Begins (a : NodeState) (l : LinkId) (u : List ℕ) (b : NodeState) (outs : OutsState) : Type 0 where
  pub up : a.core.up ≡ true
  pub words : List (List ℕ)
  pub rest : List ℕ
  pub asks : Asks u words rest
  pub wish : AsksNode words node.Multi
  pub core : b.core ≡ a.core
  pub leaves : Leaves a l b (waiting begun rest)
  pub outs_are : outs ≡ record no_outs { link = Some l; reply = reply_text done }

-- a step that used something
pub data ClientRow (a : NodeState) (l : LinkId) (u : List ℕ) (given : Given) (fresh : List ℕ) (b : NodeState) (outs : OutsState) : Type 0 where
  serves : ServesClient a l u given b outs → ClientRow a l u given fresh b outs
  closes : Closes a l u b outs → ClientRow a l u given fresh b outs
  halts : Halts a l u b outs → ClientRow a l u given fresh b outs
  synchronizes : Synchronizes a l u b outs → ClientRow a l u given fresh b outs
  promotes : Promotes a l u fresh b outs → ClientRow a l u given fresh b outs
  turns : Turns a l u b outs → ClientRow a l u given fresh b outs
  demotes : Demotes a l u b outs → ClientRow a l u given fresh b outs
  begins : Begins a l u b outs → ClientRow a l u given fresh b outs

-- Nothing whole is there, and nothing changes. A full input is never left so.
pub record Idles (a : NodeState) (u : List ℕ) (b : NodeState) : Type 0 where
  pub up : a.core.up ≡ true
  pub waits : Waits u
  pub few : length u < full
  pub same : b ≡ a

-- Memory can be lacking for a request that has words, and for the text of a fault.
pub data MayLack (u : List ℕ) : Type 0 where
  asks : (words : List (List ℕ)) (rest : List ℕ) → Asks u words rest → MayLack u
  doomed : (fault : Fault) → IsDoomedBy u fault → MayLack u

-- Memory ran out while the effects of the first request were applied, of which one takes some, within the offset limit.
pub record Stops (a : NodeState) (u : List ℕ) (given : Given) : Type 0 where
  pub words : List (List ℕ)
  pub rest : List ℕ
  pub asks : Asks u words rest
  pub reply : Tree
  pub effects : List Effect
  pub plan : HasPlan (not a.core.master) a.core.held words given reply effects
  pub within : offset_behind effects a.core ≤ offset_limit
  pub heavy : AllByRecursion NeedsNoMemory effects → ⊥
