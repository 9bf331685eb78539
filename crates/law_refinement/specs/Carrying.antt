-- What a World makes of what a call on one of its nodes gives out.
use Rattle.std.specs.Prelude.{ℕ, List, [], ◌∷◌, ◌++◌, ◌+◌, Option, None, Some, Bool, true, false, not, map, length, slice_get, slice_set, ◌==◌, ◌&&◌}
use Rattle.mr_links.specs.declared.link_id.LinkId.{LinkId}
use Rattle.mr_follower.specs.State.{FollowState}
use Rattle.mr_follower.specs.declared.taking.Taking.{Taking}
use Rattle.mr_node_links.specs.State.{EndState}
use Rattle.mr_node_links.specs.State.EndState.{client, waiting, replica, upstream, shut}
use Rattle.mr_node_links.specs.Replicas.{is_named}
use Rattle.mr_node_output.specs.Outs.{OutsState}
use Rattle.mr_keyspace.specs.Dataset.{Dataset}
use Rattle.mr_node_spec.specs.State.{NodeState, started, end_of}
use Rattle.law_refinement.specs.Way.{no_way, sent_on, taken_on, left_on}
use Rattle.law_refinement.specs.State.{a_client, a_node, Link, Slot, BookEntry, WorldState}
use Rattle.law_refinement.specs.Books.{extended, branched, begun}

-- ---- the links that a node serves
abbrev pub is_at : ℕ → Link → Bool
is_at n k = (k.to == n) && k.serving

abbrev pub fed_if : Bool → List ℕ → Link → Link
fed_if true bytes k = record k { tell = sent_on bytes k.tell }
fed_if false bytes k = k

abbrev pub shut_if : Bool → Link → Link
shut_if true k = record k { serving = false }
shut_if false k = k

-- what the stream grew by is sent where the outs say so, and the ends close where they say so
abbrev pub reached : ℕ → OutsState → Link → Link
reached n outs k = shut_if (is_at n k && is_named outs.closed k.name) (fed_if (is_at n k && is_named outs.fed k.name) outs.grown k)

abbrev pub told : List ℕ → Link → Link
told reply k = record k { tell = sent_on reply k.tell }

-- the end as the node has it now: open with so many bytes unread, or closed
abbrev pub settled : Option EndState → Link → Link
settled None k = record k { serving = false }
settled (Some (client u)) k = record k { streams = false; ask = left_on (length u) k.ask }
settled (Some (waiting t u)) k = record k { streams = false; ask = left_on (length u) k.ask }
settled (Some (replica u)) k = record k { streams = true; ask = left_on (length u) k.ask }
settled (Some upstream) k = record k { serving = false }
settled (Some shut) k = record k { serving = false }

-- ---- its file, and what is known of its id
abbrev pub filed_by : Option (List ℕ) → List ℕ → List ℕ
filed_by None old = old
filed_by (Some bytes) old = bytes

abbrev pub filed : OutsState → List ℕ → List ℕ
filed outs file = filed_by outs.replaced (file ++ outs.appended)

-- the stream of the id that the node had grows, or branches at the node's offset
abbrev pub booked_as : Option (List ℕ) → List BookEntry → List ℕ → ℕ → List ℕ → List BookEntry
booked_as None es id offset bytes = extended es id bytes
booked_as (Some fresh) es id offset bytes = branched es id offset fresh

abbrev pub booked : List BookEntry → NodeState → OutsState → List BookEntry
booked es a outs = booked_as outs.used es a.core.lineage.id a.core.lineage.stream.offset outs.grown

abbrev pub behind : Slot → NodeState → OutsState → Slot
behind s b outs = record s { node = b; file = filed outs s.file }

-- ---- steps and ticks
-- A step of the node n at its end of the link l.
abbrev pub stepped : WorldState → ℕ → Slot → ℕ → Link → NodeState → OutsState → WorldState
stepped w n s l k b outs = record {
  slots = slice_set w.slots n (behind s b outs);
  links = slice_set (map (reached n outs) w.links) l (settled (end_of b k.name) (told outs.reply k));
  book = booked w.book s.node outs;
}

-- how many bytes are unread at the link to a master
abbrev pub count_by : Option Taking → ℕ → ℕ
count_by None kept = kept
count_by (Some t) kept = t.head + (t.done + kept)

abbrev pub unread_count : FollowState → ℕ
unread_count f = count_by f.taking (length f.kept)

abbrev pub heard_as : Option (LinkId × FollowState) → List ℕ → Link → Link
heard_as None reply k = k
heard_as (Some f) reply k = record k { ask = sent_on reply k.ask; tell = left_on (unread_count f.1) k.tell }

-- A step of the node n at the link to its master, which is k.
abbrev pub followed : WorldState → ℕ → Slot → Link → NodeState → OutsState → WorldState
followed w n s k b outs = record w { slots = slice_set w.slots n (behind s b outs); links = slice_set w.links s.dialled (heard_as b.follow outs.reply k) }

-- what a node says to its master
abbrev pub said_by : Option Link → ℕ → List ℕ → List Link → List Link
said_by None l reply links = links
said_by (Some k) l reply links = slice_set links l (record k { ask = sent_on reply k.ask })

abbrev pub said_on : Option LinkId → ℕ → List ℕ → List Link → List Link
said_on None l reply links = links
said_on (Some name) l reply links = said_by (slice_get links l) l reply links

-- A tick of the node n.
abbrev pub ticked : WorldState → ℕ → Slot → NodeState → OutsState → WorldState
ticked w n s b outs = record {
  slots = slice_set w.slots n (behind s b outs);
  links = said_on outs.link s.dialled outs.reply (map (reached n outs) w.links);
  book = booked w.book s.node outs;
}

-- The node n is this now, and nothing else changes.
abbrev pub put_node : WorldState → ℕ → Slot → NodeState → WorldState
put_node w n s b = record w { slots = slice_set w.slots n (record s { node = b }) }

-- ---- links that come, are fed and go
-- a client's
abbrev pub opened_link : ℕ → LinkId → Link
opened_link n name = record { caller = a_client true; waits = false; to = n; name = name; serving = true; streams = false; ask = no_way; tell = no_way }

abbrev pub opened : WorldState → ℕ → Slot → NodeState → LinkId → WorldState
opened w n s b name = record w { slots = slice_set w.slots n (record s { node = b }); links = w.links ++ opened_link n name ∷ [] }

-- .. that of the node n, on which its first line was sent
abbrev pub dialled_link : ℕ → LinkId → ℕ → LinkId → List ℕ → Link
dialled_link n name to at line = record { caller = a_node n name; waits = false; to = to; name = at; serving = true; streams = false; ask = sent_on line no_way; tell = no_way }

-- The node n dials the node m, which opens its end first: t is m's slot then, and s the slot of n behind that.
abbrev pub connected : WorldState → ℕ → Slot → NodeState → LinkId → OutsState → ℕ → Slot → NodeState → LinkId → WorldState
connected w n s b name outs m t c at = record w {
  slots = slice_set (slice_set w.slots m (record t { node = c })) n (record s { node = b; dialled = length w.links });
  links = w.links ++ dialled_link n name m at outs.reply ∷ [];
}

-- .. that waits for a node to accept it
abbrev pub waiting_link : ℕ → LinkId → List ℕ → Link
waiting_link n name line = record { caller = a_node n name; waits = true; to = n; name = name; serving = false; streams = false; ask = sent_on line no_way; tell = no_way }

-- The node n opens its end of a link, which nobody has accepted yet.
abbrev pub connecting : WorldState → ℕ → Slot → NodeState → LinkId → List ℕ → WorldState
connecting w n s b name line = record w { slots = slice_set w.slots n (record s { node = b; dialled = length w.links }); links = w.links ++ waiting_link n name line ∷ [] }

-- a link that the node m serves from now on, under this name: what was sent on it stays to be taken
abbrev pub accepted_by : ℕ → LinkId → Link → Link
accepted_by m at k = record k { waits = false; to = m; name = at; serving = true }

-- The node m opens its end of the link l, which waited.
abbrev pub accepting : WorldState → ℕ → Slot → NodeState → LinkId → ℕ → Link → WorldState
accepting w m t c at l k = record w { slots = slice_set w.slots m (record t { node = c }); links = slice_set w.links l (accepted_by m at k) }

-- so many bytes are taken at the server's end, by the caller
abbrev pub fed_server : WorldState → ℕ → Slot → NodeState → ℕ → Link → ℕ → WorldState
fed_server w n s b l k count = record w { slots = slice_set w.slots n (record s { node = b }); links = slice_set w.links l (record k { ask = taken_on count k.ask }) }

abbrev pub fed_caller : WorldState → ℕ → Slot → NodeState → ℕ → Link → ℕ → WorldState
fed_caller w n s b l k count = record w { slots = slice_set w.slots n (record s { node = b }); links = slice_set w.links l (record k { tell = taken_on count k.tell }) }

-- the server's end closes
abbrev pub broken : WorldState → ℕ → Slot → NodeState → ℕ → Link → WorldState
broken w n s b l k = record w { slots = slice_set w.slots n (record s { node = b }); links = slice_set w.links l (record k { serving = false }) }

-- ---- nodes that begin
-- a node that begins in this role, with this dataset and this file
abbrev pub begun_slot : (as_replica : Bool) (port backlog : ℕ) → List ℕ → Dataset → List ℕ → Slot
begun_slot as_replica port backlog id m file = record { node = started as_replica port backlog id m; file = file; as_master = not as_replica; dialled = 0 }

abbrev pub started_with : WorldState → Slot → List ℕ → WorldState
started_with w t id = record w { slots = w.slots ++ t ∷ []; book = begun w.book id [] }

-- The node n stands anew in its place, and its ends are closed.
abbrev pub restarted_with : WorldState → ℕ → Slot → List ℕ → List ℕ → WorldState
restarted_with w n t id start = record { slots = slice_set w.slots n t; links = map (λ k. shut_if (k.to == n) k) w.links; book = begun w.book id start }
