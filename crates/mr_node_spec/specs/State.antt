-- What a contract sees of a node.
use Rattle.std.specs.Prelude.{◌≡◌, ◌≢◌, ℕ, ℤ, List, Bool, true, false, not, Option, None, Some, refl, ◌<◌, ◌+◌, ◌-◌, ◌^◌, length, if◌then◌else◌}
use Rattle.std.specs.Coded.{Coded, code_by, coded×, coded_ℕ, coded_ℤ, coded_bool, coded_list, coded_option}
use Rattle.std.specs.FinMap as map
use Rattle.mr_links.specs.Links.{Links, links_code}
use Rattle.mr_links.specs.LinkId.{coded_id}
use Rattle.mr_links.specs.declared.link_id.LinkId.{LinkId}
use Rattle.mr_keyspace.specs.Dataset.{Dataset}
use Rattle.mr_keyspace.specs.contracts.value.Entry as item
use Rattle.mr_repl.specs.Lineage.{LineageState, begun}
use Rattle.mr_follower.specs.State.{FollowState}
use Rattle.mr_follower.specs.State as follower
use Rattle.mr_replication.specs.Codes.{lineage_code, follow_code}
use Rattle.mr_replication.specs.State.{CourseState, name_of}
use Rattle.mr_node_links.specs.State.{EndState, Transaction, end_code, end_at, put_end, serves, streams, unread_in, full}
use Rattle.mr_node_links.specs.State.EndState.{client, waiting, replica, upstream, shut}
use Rattle.mr_node_output.specs.Address.{AddressState, address_code}

-- a node, its links apart
pub record Core : Type 0 where
  pub up : Bool  -- not stopped
  pub master : Bool
  pub offers : Bool  -- as a replica it has something to continue
  pub port : ℕ  -- the port that it tells its master
  pub upstream : Option AddressState  -- whom it was told to follow, since it was started or promoted
  pub mark : Option ℤ  -- the moment from which its next heartbeat or acknowledgement is counted
  pub lineage : LineageState  -- its replication id, the one before, and the last bytes of its stream
  pub held : Dataset

pub record NodeState : Type 0 where
  pub core : Core
  pub ends : Links EndState
  pub follow : Option (LinkId × FollowState)  -- the link to its master, and what reads there

abbrev pub dataset_code : Coded Dataset
dataset_code = map.code (coded_list coded_ℕ) item.the_row.coded

abbrev pub core_code : Coded Core
core_code = code_by (Bool × (Bool × (Bool × (ℕ × (Option AddressState × (Option ℤ × (LineageState × Dataset)))))))
    (coded× coded_bool (coded× coded_bool (coded× coded_bool (coded× coded_ℕ (coded× (coded_option address_code) (coded× (coded_option coded_ℤ) (coded× lineage_code dataset_code)))))))
    (λ c. (c.up, (c.master, (c.offers, (c.port, (c.upstream, (c.mark, (c.lineage, c.held))))))))
    (λ p. record { up = p.0; master = p.1.0; offers = p.1.1.0; port = p.1.1.1.0; upstream = p.1.1.1.1.0; mark = p.1.1.1.1.1.0; lineage = p.1.1.1.1.1.1.0; held = p.1.1.1.1.1.1.1 }) (λ _. refl)

abbrev pub node_code : Coded NodeState
node_code = code_by (Core × (Links EndState × Option (LinkId × FollowState))) (coded× core_code (coded× (links_code end_code) (coded_option (coded× coded_id follow_code))))
    (λ a. (a.core, (a.ends, a.follow))) (λ p. record { core = p.0; ends = p.1.0; follow = p.1.1 }) (λ _. refl)

-- A node that begins in this role, at offset 0 and without links: a replica has nothing to continue, and was told to follow nobody.
abbrev pub started : (as_replica : Bool) (port backlog : ℕ) → List ℕ → Dataset → NodeState
started as_replica port backlog id held = record {
  core = record { up = true; master = not as_replica; offers = not as_replica; port = port; upstream = None; mark = None; lineage = begun id backlog 0; held = held };
  ends = record { open_links = map.empty; opened = 0 };
  follow = None;
}

-- the node's end of a link
abbrev pub end_of : NodeState → LinkId → Option EndState
end_of a l = end_at a.ends l

-- the node with another end of a link
abbrev pub with_end : NodeState → LinkId → EndState → NodeState
with_end a l e = record a { ends = put_end a.ends l e }

-- what it is on, as a course
abbrev pub course_of : NodeState → CourseState
course_of a = record { master = a.core.master; offers = a.core.offers; lineage = a.core.lineage; follow = a.follow }

-- with another
abbrev pub on_course : CourseState → NodeState → NodeState
on_course c a = record a { core = record a.core { master = c.master; offers = c.offers; lineage = c.lineage }; follow = c.follow }

-- ---- what is true of each node
-- the end of the link that is followed is the master's
abbrev pub FollowedAt : Links EndState → Option (LinkId × FollowState) → Type 0
FollowedAt ends None = Unit {0}
FollowedAt ends (Some f) = end_at ends f.0 ≡ Some upstream

-- The end of the link to the master is the one that is followed, and no other is one; and the stream is sent by a master alone.
pub record IsNode (a : NodeState) : Type 0 where
  pub followed : FollowedAt a.ends a.follow
  pub only : (x : LinkId) → end_of a x ≡ Some upstream → name_of a.follow ≡ Some x
  pub sends : (x : LinkId) → streams (end_of a x) ≡ true → a.core.master ≡ true
  pub nobody : a.core.master ≡ true → a.follow ≡ None

-- ---- ends and the bytes that they agree with
-- The link is a client's, open, and agrees with these unread bytes.
pub record Agrees (a : NodeState) (l : LinkId) (unread : List ℕ) : Type 0 where
  pub is : end_of a l ≡ Some (client unread)

-- .. a client's too, and this transaction is open there
pub record AgreesWithin (a : NodeState) (l : LinkId) (t : Transaction) (unread : List ℕ) : Type 0 where
  pub is : end_of a l ≡ Some (waiting t unread)

-- .. a replica's, which was answered CONTINUE or FULLRESYNC
pub record ReplicaAgrees (a : NodeState) (l : LinkId) (unread : List ℕ) : Type 0 where
  pub is : end_of a l ≡ Some (replica unread)

-- .. the one to its master. Of a snapshot that isn't whole the node holds what its bytes make.
pub record MasterAgrees (a : NodeState) (l : LinkId) (unread : List ℕ) : Type 0 where
  pub reader : FollowState
  pub found : a.follow ≡ Some (l, reader)
  pub agrees : follower.Agrees reader unread

-- The node closed the link, and drops what is fed to it.
pub record IsShut (a : NodeState) (l : LinkId) : Type 0 where
  pub is : end_of a l ≡ Some shut

-- The node's ends of the other links are what they were.
pub record OthersStay (a b : NodeState) (l : LinkId) : Type 0 where
  pub stay : (x : LinkId) → x ≢ l → end_of b x ≡ end_of a x
  pub opened : b.ends.opened ≡ a.ends.opened

-- ---- what it shows and takes
-- the node, stopped
abbrev pub stopped_as : NodeState → NodeState
stopped_as a = record a { core = record a.core { up = false } }

-- .. with its dataset spent
abbrev pub spent_as : Dataset → NodeState → NodeState
spent_as held a = record a { core = record a.core { up = false; held = held } }

-- the id and the offset that a node shows, none once it is stopped
abbrev pub shown : Core → Option (List ℕ × ℕ)
shown c = if c.up then Some (c.lineage.id, c.lineage.stream.offset) else None

-- how many bytes an end takes now: of the link to a master, and of one that the node closed, any number
abbrev pub room_at : Option EndState → Option ℕ
room_at None = None
room_at (Some (client unread)) = Some (full - length unread)
room_at (Some (waiting t unread)) = Some (full - length unread)
room_at (Some (replica unread)) = Some (full - length unread)
room_at (Some upstream) = Some (2 ^ 64 - 1)
room_at (Some shut) = Some (2 ^ 64 - 1)

abbrev pub room_of : NodeState → LinkId → Option ℕ
room_of a l = if a.core.up then room_at (end_of a l) else None

-- So many bytes more are too many for an open link of a client or of a replica.
pub record IsTooMuch (a : NodeState) (l : LinkId) (count : ℕ) : Type 0 where
  pub up : a.core.up ≡ true
  pub end : EndState
  pub found : end_of a l ≡ Some end
  pub served : serves end ≡ true
  pub over : full < length (unread_in end) + count
