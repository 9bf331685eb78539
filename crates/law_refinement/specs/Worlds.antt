-- What is true of each World.
use Rattle.std.specs.Prelude.{◌≡◌, ℕ, List, [], Bool, true, false, Option, None, Some, slice_get}
use Rattle.mr_links.specs.declared.link_id.LinkId.{LinkId}
use Rattle.mr_follower.specs.State.{FollowState, Agrees}
use Rattle.mr_node_links.specs.State.{EndState, Transaction}
use Rattle.mr_node_links.specs.State.EndState.{client, waiting, replica}
use Rattle.mr_node_spec.specs.State.{end_of}
use Rattle.mr_node_spec.specs.Sound.{IsSound}
use Rattle.law_refinement.specs.Way.{IsWay, no_way, unread}
use Rattle.law_refinement.specs.State.{Link, Slot, WorldState, a_node}

-- the end that a link's server has while it is open: a replica's where the stream is sent, and else a client's, in this transaction or in none
abbrev pub end_for : Bool → Option Transaction → List ℕ → EndState
end_for true held unread = replica unread
end_for false None unread = client unread
end_for false (Some t) unread = waiting t unread

-- No node has accepted the link yet: of what was sent on it nothing was taken, and nothing was sent to the node that dialled.
pub record IsUntouched (k : Link) : Type 0 where
  pub serving : k.serving ≡ false
  pub streams : k.streams ≡ false
  pub ask : k.ask.taken ≡ 0
  pub tell : k.tell ≡ no_way

-- The server of a link is there. While it runs and its end is open, that agrees with the link, whatever is open there.
pub record HasServer (slots : List Slot) (k : Link) : Type 0 where
  pub slot : Slot
  pub found : slice_get slots k.to ≡ Some slot
  pub agrees : slot.node.core.up ≡ true → k.serving ≡ true → (held : Option Transaction) × (end_of slot.node k.name ≡ Some (end_for k.streams held (unread k.ask)))

-- The link that a node dialled last carries what the node has of it.
pub record HasMaster (links : List Link) (n : ℕ) (s : Slot) (name : LinkId) (f : FollowState) : Type 0 where
  pub link : Link
  pub found : slice_get links s.dialled ≡ Some link
  pub caller : link.caller ≡ a_node n name
  pub agrees : Agrees f (unread link.tell)

pub record IsWorld (w : WorldState) : Type 0 where
  pub asks : (l : ℕ) (k : Link) → slice_get w.links l ≡ Some k → IsWay k.ask
  pub tells : (l : ℕ) (k : Link) → slice_get w.links l ≡ Some k → IsWay k.tell
  pub servers : (l : ℕ) (k : Link) → slice_get w.links l ≡ Some k → HasServer w.slots k
  -- a link that waits is as the node that dialled made it
  pub untouched : (l : ℕ) (k : Link) → slice_get w.links l ≡ Some k → k.waits ≡ true → IsUntouched k
  -- no two open ends have one name at one node
  pub names : (i j : ℕ) (k m : Link) → slice_get w.links i ≡ Some k → slice_get w.links j ≡ Some m → k.serving ≡ true → m.serving ≡ true
      → k.to ≡ m.to → k.name ≡ m.name → i ≡ j
  pub nodes : (n : ℕ) (s : Slot) → slice_get w.slots n ≡ Some s → s.node.core.up ≡ true → IsSound s.node
  pub followers : (n : ℕ) (s : Slot) (name : LinkId) (f : FollowState) → slice_get w.slots n ≡ Some s → s.node.core.up ≡ true → s.node.follow ≡ Some (name, f) → HasMaster w.links n s name f

-- no nodes, no links, and no id
abbrev pub no_world : WorldState
no_world = record { slots = []; links = []; book = [] }
