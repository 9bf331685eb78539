-- Runs of Worlds, and their moments.
use Rattle.std.specs.Prelude.{◌≡◌, ◌≤◌, ℕ, List, [], ◌∷◌, Some, true, length, slice_get}
use Rattle.mr_links.specs.declared.link_id.LinkId.{LinkId}
use Rattle.mr_follower.specs.State.{FollowState}
use Rattle.law_protocol.specs.History.{Book}
use Rattle.law_protocol.specs.Event as events
use Rattle.law_protocol.specs.Changing.{Still}
use Rattle.law_protocol.specs.FollowerRows.{Usable}
use Rattle.law_minired.specs.Minired.{minired}
use Rattle.law_refinement.specs.Way.{unread}
use Rattle.law_refinement.specs.State.{Link, Slot, WorldState}
use Rattle.law_refinement.specs.Seeing.{seen, seen_phase}
use Rattle.law_refinement.specs.Books.{IsBook}
use Rattle.law_refinement.specs.Worlds.{IsWorld, no_world}
use Rattle.law_refinement.specs.Events.{IsEvent, Holds}

-- An event leads from one World to the next: what nodes, links and the history of each id are then is what its row says, whatever
-- histories those of the ids are. Or nothing changes of these.
pub data Happens (w v : WorldState) : Type 0 where
  an_event : (e : events.Event minired) → ((book : Book minired) → Holds w book → IsEvent w book e v) → Happens w v
  nothing_seen : ((book : Book minired) → Holds w book → IsBook v.book book × Still (seen w book) (seen v book)) → Happens w v

-- Worlds one after another, from this one on. In each the links agree with the ends that the nodes have.
abbrev pub Run : WorldState → List WorldState → Type 0
Run w [] = Unit {0}
Run w (v ∷ vs) = Happens w v × IsWorld v × Run v vs

-- Of the moments of a run that begins with no node, no link and no id, that beginning counted as 0, w is the one of this number.
pub record IsMoment (moments : List WorldState) (number : ℕ) (w : WorldState) : Type 0 where
  pub run : Run no_world moments
  pub there : slice_get (no_world ∷ moments) number ≡ Some w

-- the World in which a run ends
abbrev pub last_of : WorldState → List WorldState → WorldState
last_of w [] = w
last_of w (v ∷ vs) = last_of v vs

-- A link of two running nodes on which PSYNC was answered. The replica follows by it and its server's end is open; all that was sent
-- to the replica was taken, and nothing is unread that it uses.
pub record CaughtUp (w : WorldState) (l : ℕ) (replica master : Slot) : Type 0 where
  pub link : Link
  pub found : slice_get w.links l ≡ Some link
  pub n : ℕ
  pub replica_found : slice_get w.slots n ≡ Some replica
  pub replica_up : replica.node.core.up ≡ true
  pub dialled : replica.dialled ≡ l
  pub name : LinkId
  pub follow : FollowState
  pub follows : replica.node.follow ≡ Some (name, follow)
  pub master_found : slice_get w.slots link.to ≡ Some master
  pub master_up : master.node.core.up ≡ true
  pub serving : link.serving ≡ true
  pub streams : link.streams ≡ true
  pub all_taken : length link.tell.sent ≤ link.tell.taken
  pub nothing_left : Usable minired (seen_phase follow.phase) (unread link.tell) → ⊥
