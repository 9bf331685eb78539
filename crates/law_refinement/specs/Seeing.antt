-- A World as one of histories.
use Rattle.std.specs.Prelude.{ℕ, ◌-◌, List, [], Option, None, Some, cond, drop, slice_get}
use Rattle.std.specs.Option.{option_map}
use Rattle.law_protocol.specs.Language.{Transaction}
use Rattle.law_protocol.specs.History.{Book}
use Rattle.law_protocol.specs.Node as history_node
use Rattle.law_protocol.specs.Node.Phase.{Greet, Asked, Loading, Stream}
use Rattle.law_protocol.specs.World as history
use Rattle.law_protocol.specs.World.Caller.{Client, Peer}
use Rattle.law_minired.specs.Minired.{minired}
use Rattle.law_minired.specs.Requests.{address}
use Rattle.mr_links.specs.declared.link_id.LinkId.{LinkId}
use Rattle.mr_node_links.specs.State.{EndState, transaction_in}
use Rattle.mr_node_links.specs.State as ends
use Rattle.mr_node_output.specs.Address.{AddressState}
use Rattle.mr_follower.specs.State.{FollowState}
use Rattle.mr_follower.specs.declared.phase.Phase.{Phase}
use Rattle.mr_follower.specs.declared.phase.Phase.TheVariants as phase
use Rattle.mr_node_spec.specs.State.{end_of}
use Rattle.law_refinement.specs.Way.{WayState}
use Rattle.law_refinement.specs.State.{Caller, a_client, a_node, Link, Slot, WorldState}

abbrev pub seen_phase : Phase → history_node.Phase (List ℕ)
seen_phase phase.Ping = Greet 0
seen_phase phase.Port = Greet 1
seen_phase phase.Capabilities = Greet 2
seen_phase phase.Psync = Asked
seen_phase (phase.Snapshot id offset) = Loading id offset
seen_phase phase.Stream = Stream

abbrev pub seen_follow : ℕ → Option (LinkId × FollowState) → Option (history_node.Follow (List ℕ))
seen_follow link None = None
seen_follow link (Some f) = Some (record { link = link; phase = seen_phase f.1.phase })

-- whom a node was told to follow, as a request names it; nobody is the empty text
abbrev pub seen_host : Option AddressState → List ℕ
seen_host None = []
seen_host (Some a) = address a.host a.port

abbrev pub seen_node : Slot → history_node.Node minired
seen_node s = record {
  up = s.node.core.up;
  master = s.node.core.master;
  id = s.node.core.lineage.id;
  offset = s.node.core.lineage.stream.offset;
  second = s.node.core.lineage.second;
  backlog = s.node.core.lineage.stream.held;
  held = s.node.core.held;
  offers = s.node.core.offers;
  follow = seen_follow s.dialled s.node.follow;
  upstream = seen_host s.node.core.upstream;
  starts_as_master = s.as_master;
}

abbrev pub seen_way : WayState → history.Way
seen_way w = record { left = drop w.used w.sent; taken = w.taken - w.used }

abbrev pub seen_caller : Caller → history.Caller
seen_caller (a_client b) = Client b
seen_caller (a_node n name) = Peer n

abbrev pub seen_transaction : ends.Transaction → Transaction
seen_transaction t = record { queued = t.queued; marked = t.marked }

-- what is open at an end
abbrev pub open_in : Option EndState → Option Transaction
open_in None = None
open_in (Some end) = option_map seen_transaction (transaction_in end)

-- .. at a node's end of this name: nothing once the node has stopped
abbrev pub open_at : Option Slot → LinkId → Option Transaction
open_at None name = None
open_at (Some s) name = cond s.node.core.up (open_in (end_of s.node name)) None

-- .. on a link, whose server has it: nothing once the server's end is closed
abbrev pub open_on : List Slot → Link → Option Transaction
open_on slots k = cond k.serving (open_at (slice_get slots k.to) k.name) None

-- a link on which this is open; no node serves one that waits
abbrev pub link_with : Option Transaction → Link → history.Link
link_with within k = record { caller = seen_caller k.caller; to = cond k.waits None (Some k.to); serving = k.serving; streams = k.streams; ask = seen_way k.ask; tell = seen_way k.tell; transaction = within }

abbrev pub seen_link : List Slot → Link → history.Link
seen_link slots k = link_with (open_on slots k) k

-- The book is related to the entries, not computed from them: see `Books`.
abbrev pub seen : WorldState → Book minired → history.World minired
seen w book = record {
  node = λ n. option_map seen_node (slice_get w.slots n);
  link = λ l. option_map (seen_link w.slots) (slice_get w.links l);
  book = book;
}
