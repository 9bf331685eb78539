-- Where a node makes a step: at an open end of it, which is a side of a connection and an end of the link of that number.
use Rattle.std.proofs.Common.{◌≡◌, ◌≢◌, ◌<◌, ◌++◌, zero, suc, ℕ, List, [], ◌∷◌, true, Option, None, Some, length, refl, sym, ap, subst, ◌∙◌, arith}
use Rattle.std.specs.Prelude.{slice_get}
use Rattle.mr_links.specs.Links.{Links}
use Rattle.mr_links.specs.declared.link_id.LinkId.{LinkId}
use Rattle.mr_follower.specs.State.{FollowState}
use Rattle.mr_replication.specs.State.{name_of}
use Rattle.mr_node_links.specs.State.{EndState, end_at as links_end}
use Rattle.mr_node_links.specs.State.EndState.{client, waiting, replica, upstream, shut}
use Rattle.mr_node_spec.specs.State.{FollowedAt, IsNode, NodeState, end_of as node_end}
use Rattle.mr_node.specs.Calls.{Agreeing}
use Rattle.mr_connections.specs.State.{ConnectionState, HasLink}
use Rattle.mr_loop.specs.Stage.{Stage, connection_at}
use Rattle.mr_loop.specs.Causes.{HasInput}
use Rattle.law_refinement.specs.State.{Link, Slot, WorldState}
use Rattle.law_refinement.specs.Events.{IsRunning}
use Rattle.law_refinement.proofs.Places.{is_within, some_is}
use Rattle.mr_links.specs.declared.side.Side.{Side}
use Rattle.law_servers.specs.Worlds.{IsEndOf, NoneOpen, way_to}
use Rattle.law_systems.specs.System.{Connection, End, IsAt, System, from_side, runs, to_side}
use Rattle.law_systems.specs.Network.{HasEnd, end_of}
use Rattle.law_systems.proofs.Wired.{IsWired}
use Rattle.law_systems.proofs.Mirrors.{IsSide, Mirrors, way_from}

-- ---- the node
-- The World's node n is that of this server, which makes turns.
pub record StandsAt (w : WorldState) (n : ℕ) (s : Stage) : Type 0 where
  pub slot : Slot
  pub running : IsRunning w n slot
  pub as_master : slot.as_master ≡ true
  pub node : slot.node ≡ s.node

pub stands_at : (x : System) (w : WorldState) (n life : ℕ) (s : Stage) → IsWired x → Mirrors x w → IsAt x n life s → StandsAt w n s
stands_at x w n life s wired mirrors at =
    let h = mirrors.slots n (record { life = life; doing = runs s }) at.found in
    let same : h.0.node ≡ s.node = h.1.node s refl in
    record {
      slot = h.0;
      running = record { at = h.1.found; up = ap (λ (z : NodeState). z.core.up) same ∙ (wired.kept n life s at).up };
      as_master = h.1.as_master;
      node = same;
    }

-- ---- its ends
-- the end of the link that it follows
pub followed_end : (ends : Links EndState) (o : Option (LinkId × FollowState)) (x : LinkId) → FollowedAt ends o → name_of o ≡ Some x → links_end ends x ≡ Some upstream
followed_end ends None x h e = absurd (cc)
followed_end ends (Some f) x h e = let one : f.0 ≡ x = cc in ap (links_end ends) (sym one) ∙ h

pub is_upstream : (a : NodeState) (x : LinkId) → IsNode a → name_of a.follow ≡ Some x → node_end a x ≡ Some upstream
is_upstream a x node e = followed_end a.ends a.follow x node.followed e

-- an end that isn't closed is open
not_none : (a : NodeState) (l : LinkId) (e : EndState) → node_end a l ≡ Some e → e ≢ shut → NoneOpen a l → ⊥
not_none a l e is other (NoneOpen.absent none) = let wrong : ◌≡◌ {A = Option EndState} None (Some e) = sym none ∙ is in absurd (cc)
not_none a l e is other (NoneOpen.shut closed) = other (some_is e shut (sym is ∙ closed.is))

-- .. also one on which something is unread
pub has_open : (a : NodeState) (l : LinkId) → HasInput a l → NoneOpen a l → ⊥
has_open a l h none = elim h.unread.agree [
  | Agreeing.client g ↦ not_none a l (client h.unread.bytes) g.is (λ e. cc) none
  | Agreeing.waiting t g ↦ not_none a l (waiting t h.unread.bytes) g.is (λ e. cc) none
  | Agreeing.replica g ↦ not_none a l (replica h.unread.bytes) g.is (λ e. cc) none
  | Agreeing.master g ↦ not_none a l upstream (is_upstream a l h.node (ap name_of g.found)) (λ e. cc) none
  | Agreeing.shut g nothing ↦ h.some (h.unread.counted ∙ ap length nothing)
]

-- ---- the connection
-- The end is this side of this connection, and open under this name on the link of its number.
pub record IsOpenAt (x : System) (w : WorldState) (n life : ℕ) (s : Stage) (slot : Slot) (socket link : LinkId) (at : Side) : Type 0 where
  pub number : ℕ
  pub connection : Connection
  pub end : HasEnd x.connections number at connection (end_of n life socket)
  pub line : Link
  pub found : slice_get w.links number ≡ Some line
  pub held : ConnectionState
  pub there : connection_at s.own socket ≡ Some held
  pub linked : held.link ≡ Some link
  pub sent : (way_from at line).sent ≡ (from_side at connection).written ++ held.waiting
  pub named : IsEndOf w n slot link number at
  pub taken : (dialler : End) → connection.dialler ≡ Some dialler → (way_to at line).taken ≡ (to_side at connection).read

pub is_there : {A : Type 0} (xs : List A) (i : ℕ) → i < length xs → (z : A) × (slice_get xs i ≡ Some z)
is_there [] i h = absurd (omega (arith, h))
is_there (z ∷ xs) zero h = (z, refl)
is_there (z ∷ xs) (suc i) h = is_there xs i (omega (arith, h))

-- each connection has its link
pub link_there : (x : System) (w : WorldState) (c : ℕ) (k : Connection) → Mirrors x w → slice_get x.connections c ≡ Some k → (l : Link) × (slice_get w.links c ≡ Some l)
link_there x w c k mirrors e = is_there w.links c (let near = is_within x.connections c k e in let many = mirrors.as_many_links in omega (arith, near, many))

pub opens_at : (x : System) (w : WorldState) (n life : ℕ) (s : Stage) (socket link : LinkId) → IsWired x → Mirrors x w → IsAt x n life s → (stands : StandsAt w n s)
    → HasLink s.own.connections socket link → HasInput s.node link → (at : Side) × IsOpenAt x w n life s stands.slot socket link at
opens_at x w n life s socket link wired mirrors at stands has input =
    let a = wired.attached n life s socket has.connection at has.is in
    let l = link_there x w a.number a.connection mirrors a.end.found in
    let live = mirrors.live a.number a.at a.connection (end_of n life socket) l.0 s has.connection stands.slot a.end l.1 at has.is stands.running.at in (
      a.at,
      elim live.side [
        | IsSide.is_open name named end taken ↦ record {
          number = a.number;
          connection = a.connection;
          end = a.end;
          line = l.0;
          found = l.1;
          held = has.connection;
          there = has.is;
          linked = has.has;
          sent = live.sent;
          named = subst (λ z. IsEndOf w n stands.slot z a.number a.at) (some_is name link (sym named ∙ has.has)) end;
          taken = taken;
        }
        | IsSide.is_closed closed none ↦ absurd (has_open s.node link input (subst (λ (z : NodeState). NoneOpen z link) stands.node (none link has.has)))
      ],
    )
