-- Where a server that makes turns stands in the World, and the connections of its loop.
use Rattle.std.proofs.Common.{zero, suc, ◌≡◌, ◌<◌, ℕ, List, [], ◌∷◌, Some, length, refl, arith}
use Rattle.std.specs.Prelude.{slice_get}
use Rattle.mr_links.specs.declared.link_id.LinkId.{LinkId}
use Rattle.mr_connections.specs.State.{ConnectionState}
use Rattle.mr_loop.specs.Stage.{Stage, connection_at}
use Rattle.law_refinement.specs.State.{Link, Slot, WorldState}
use Rattle.law_refinement.proofs.Places.{is_within}
use Rattle.mr_links.specs.declared.side.Side.{Side}
use Rattle.law_systems.specs.System.{Connection, IsAt, System, runs}
use Rattle.law_systems.specs.Network.{HasEnd, end_of}
use Rattle.law_systems.proofs.Wired.{IsWired}
use Rattle.law_systems.proofs.Mirrors.{IsLive, Mirrors}

pub there_within : {A : Type 0} (xs : List A) (i : ℕ) → i < length xs → (x : A) × (slice_get xs i ≡ Some x)
there_within [] i h = absurd (omega (arith, h))
there_within (x ∷ xs) zero h = (x, refl)
there_within (x ∷ xs) (suc i) h = there_within xs i (omega (arith, h))

-- Its slot has its node.
pub record Stands (w : WorldState) (n : ℕ) (s : Stage) : Type 0 where
  pub slot : Slot
  pub found : slice_get w.slots n ≡ Some slot
  pub node : slot.node ≡ s.node

-- A connection of its loop is a side of this one, whose link is this.
pub record IsHeld (x : System) (w : WorldState) (n life : ℕ) (slot : Slot) (socket : LinkId) (held : ConnectionState) : Type 0 where
  pub number : ℕ
  pub at : Side
  pub connection : Connection
  pub end : HasEnd x.connections number at connection (end_of n life socket)
  pub link : Link
  pub found : slice_get w.links number ≡ Some link
  pub live : IsLive w n slot number connection link at held

module _ (x : System) (w : WorldState) (n life : ℕ) (s : Stage) (mirrors : Mirrors x w) (at : IsAt x n life s) where
  pub stands : Stands w n s
  stands = let z = mirrors.slots n (record { life = life; doing = runs s }) at.found in record { slot = z.0; found = z.1.found; node = z.1.node s refl }

  -- the link of a connection
  pub its_link : (c : ℕ) (k : Connection) → slice_get x.connections c ≡ Some k → (l : Link) × (slice_get w.links c ≡ Some l)
  its_link c k e = let far = is_within x.connections c k e in let many = mirrors.as_many_links in there_within w.links c (omega (arith, far, many))

  pub holds : (slot : Slot) (socket : LinkId) (held : ConnectionState) → IsWired x → slice_get w.slots n ≡ Some slot → connection_at s.own socket ≡ Some held → IsHeld x w n life slot socket held
  holds slot socket held wired found has =
      let a = wired.attached n life s socket held at has in
      let l = its_link a.number a.connection a.end.found in
      record {
        number = a.number;
        at = a.at;
        connection = a.connection;
        end = a.end;
        link = l.0;
        found = l.1;
        live = mirrors.live a.number a.at a.connection (end_of n life socket) l.0 s held slot a.end l.1 at has found;
      }
