-- The node's end of a link closes: its connection has no link any more, or is gone. In the World the end breaks, if it was open there.
use Rattle.std.proofs.Common.{◌≡◌, ◌≢◌, inl, ℕ, List, [], ◌∷◌, Bool, false, cond, Option, None, Some, Ok, refl, sym, ap, subst, ◌∙◌}
use Rattle.std.specs.Prelude.{slice_get, slice_set}
use Rattle.std.specs.FinMap.{get}
use Rattle.mr_links.specs.declared.link_id.LinkId.{LinkId}
use Rattle.mr_node_links.proofs.Naming.{at_or_other}
use Rattle.mr_file.specs.declared.sync_mode.SyncMode.{SyncMode}
use Rattle.mr_follower.specs.State.{FollowState}
use Rattle.mr_replication.specs.State.{name_of}
use Rattle.mr_node_spec.specs.State.{NodeState}
use Rattle.mr_node_spec.specs.LinkRows.{closed_at, follow_without}
use Rattle.mr_connections.specs.State.{ConnectionState, left}
use Rattle.mr_loop.specs.Stage.{LoopState, Stage, connection_at}
use Rattle.mr_loop.specs.Causes.{Dropped}
use Rattle.mr_loop.specs.Rows.{Happens, breaks, hears_end, is_deaf, loses, misses}
use Rattle.law_refinement.specs.State.{BookEntry, Link, Slot, WorldState}
use Rattle.law_refinement.specs.Worlds.{IsWorld}
use Rattle.law_refinement.specs.Carrying.{broken, put_node}
use Rattle.law_refinement.specs.Events.{IsRunning}
use Rattle.law_refinement.proofs.Places.{set_same, some_is}
use Rattle.law_refinement.specs.Runs as run
use Rattle.mr_world_parts.specs.AtNode.{is_spent}
use Rattle.mr_links.specs.declared.side.Side.{Side}
use Rattle.mr_links.specs.declared.side.Side.TheVariants as side
use Rattle.mr_world.specs.Calls.{BreakCall, Breaks}
use Rattle.mr_world.specs.Linking.{BreaksOff, DropCall}
use Rattle.mr_world.proofs.Dialling.{drop_keeps}
use Rattle.mr_world.proofs.Happened.{broke, dropped}
use Rattle.mr_world.proofs.Kept.{break_keeps, closed_end}
use Rattle.law_servers.specs.Calling.{break}
use Rattle.law_servers.specs.Worlds.{IsEndOf, NoneOpen}
use Rattle.law_servers.proofs.Unseen.{goes_unseen}
use Rattle.law_systems.specs.System.{Connection, End, IsAt, System, end_at, is_taken, runs}
use Rattle.law_systems.specs.Network.{HasEnd, end_of}
use Rattle.law_systems.proofs.Wired.{IsWired}
use Rattle.law_systems.proofs.Mirrors.{IsClosedSide, IsLine, IsLive, IsSide, IsTurn, Leads, Mirrors, way_from}
use Rattle.law_systems.proofs.Rebuilding.{KeepsNames, SameHalf, same_half}
use Rattle.law_systems.proofs.Living.{Stands, holds, stands}
use Rattle.law_systems.proofs.OneEnd.{at_one_end}
use Rattle.law_systems.proofs.Under.{parted_here, parted_other, removed}
use Rattle.law_systems.proofs.Quiet.{still}
use Rattle.law_systems.proofs.Apart.{no_some}
use Rattle.law_systems.proofs.Closings.{closed_sound}

-- ---- whom a node follows that closed its end of a link

follow_stays : (link name : LinkId) (o : Option (LinkId × FollowState)) → name ≢ link → name_of o ≡ Some name → name_of (follow_without link o) ≡ Some name
follow_stays link name None ne e = e
follow_stays link name (Some f) ne e = at_or_other f.0 link (λ b. name_of (cond b None (Some f)) ≡ Some name) (λ same. absurd (ne (sym (some_is f.0 name e) ∙ same))) (λ other. e)

follow_stayed : (link name : LinkId) (o : Option (LinkId × FollowState)) → name_of (follow_without link o) ≡ Some name → name_of o ≡ Some name
follow_stayed link name None e = e
follow_stayed link name (Some f) e = at_or_other f.0 link (λ b. name_of (cond b None (Some f)) ≡ Some name → Some f.0 ≡ Some name) (λ same h. absurd (no_some name h)) (λ other h. h) e

follow_goes : (link name : LinkId) (o : Option (LinkId × FollowState)) → name_of o ≡ Some link → name_of (follow_without link o) ≡ Some name → ⊥
follow_goes link name None is e = no_some name e
follow_goes link name (Some f) is e = at_or_other f.0 link (λ b. name_of (cond b None (Some f)) ≡ Some name → ⊥) (λ same h. no_some name h) (λ other h. other (some_is f.0 link is)) e

none_closed : (link name : LinkId) (a : NodeState) → name ≢ link → NoneOpen a name → NoneOpen (closed_at link a) name
none_closed link name a ne (NoneOpen.absent e) = NoneOpen.absent (closed_end a link name ne ∙ e)
none_closed link name a ne (NoneOpen.shut e) = NoneOpen.shut (record { is = closed_end a link name ne ∙ e.is })

pub follows_by : (o : Option (LinkId × FollowState)) (name : LinkId) → name_of o ≡ Some name → (f : FollowState) × (o ≡ Some (name, f))
follows_by None name e = absurd (no_some name e)
follows_by (Some p) name e = let one : p.0 ≡ name = some_is p.0 name e in (p.1, ap (λ (z : LinkId). Some (z, p.1)) one)

-- ---- what all these events have in common
-- The node's end of this link is closed, and the connection that had it has it no more, or is gone.
pub record IsEnded (socket link : LinkId) (s t : Stage) : Type 0 where
  pub held : ConnectionState
  pub has : connection_at s.own socket ≡ Some held
  pub linked : held.link ≡ Some link
  pub node : t.node ≡ closed_at link s.node
  pub here : (d : ConnectionState) → connection_at t.own socket ≡ Some d → d ≡ left held
  pub own : (z : LinkId) (d : ConnectionState) → z ≢ socket → connection_at t.own z ≡ Some d → connection_at s.own z ≡ Some d

-- the link with its server's end closed
abbrev shut_link : Link → Link
shut_link l = record l { serving = false }

shut_other : (g : Side) (k : Connection) (l : Link) → g ≢ side.Server → SameHalf g k l k (shut_link l)
shut_other side.Server k l ne = absurd (ne refl)
shut_other side.Opener k l ne = record { sent = refl; written = refl; taken = refl; read = refl; dialler = refl; serving = λ e. absurd (ne e) }

module _ (x y : System) (w : WorldState) (n life : ℕ) (s t : Stage) (wired : IsWired x) (mirrors : Mirrors x w) (at : IsAt x n life s) (socket link : LinkId) (ended : IsEnded socket link s t)
    (is : y ≡ record { servers = slice_set x.servers n (record { life = life; doing = runs t }); connections = x.connections; ids = x.ids }) where
  place : Stands w n s
  place = stands x w n life s mirrors at

  abbrev old : Slot
  old = place.slot

  abbrev closed : NodeState
  closed = closed_at link old.node

  abbrev new : Slot
  new = record old { node = closed }

  running : IsRunning w n old
  running = record { at = place.found; up = ap (λ (z : NodeState). z.core.up) place.node ∙ (wired.kept n life s at).up }

  -- no other connection has this link
  other_name : (z name : LinkId) (d : ConnectionState) → z ≢ socket → connection_at s.own z ≡ Some d → d.link ≡ Some name → name ≢ link
  other_name z name d ne there e same = ne ((wired.kept n life s at).apart.apart z socket d ended.held link there ended.has (e ∙ ap (λ q. Some q) same) ended.linked)

  names : (z : LinkId) (c : ℕ) (d : ConnectionState) → z ≢ socket → connection_at s.own z ≡ Some d → KeepsNames old new c d
  names z c d ne there = record {
    opener = λ name e f. record { named = follow_stays link name old.node.follow (other_name z name d ne there e) f.named; dialled = f.dialled };
    follows = λ name f. record { named = follow_stayed link name old.node.follow f.named; dialled = f.dialled };
    none = λ name e f. none_closed link name old.node (other_name z name d ne there e) f;
  }

  -- ---- at this end
  module _ (b : ℕ) (k : Connection) (l : Link) (found : slice_get w.links b ≡ Some l) where
    behind : (a : Side) (j : Link) (v : WorldState) → HasEnd x.connections b a k (end_of n life socket) → v.slots ≡ slice_set w.slots n new → v.links ≡ slice_set w.links b j → v.book ≡ w.book
        → run.Happens w v → IsWorld v → ((g : Side) (e : End) → g ≢ a → end_at g k ≡ Some e → SameHalf g k l k j) → IsLine k j → IsClosedSide new b j a → (way_from a j).sent ≡ (way_from a l).sent
        → IsLive w n old b k l a ended.held → Leads w y
    behind a j v end slots links book happens world halves line shut sent live = record {
      worlds = v ∷ [];
      run = (happens, world, tt);
      mirrors = at_one_end x y w v n life s t old new wired mirrors at (ap (λ (z : System). z.servers) is) world place.found slots refl (ap (closed_at link) place.node ∙ sym ended.node)
          (λ id spent. ap (λ (z : System). is_taken z.ids id) is ∙ mirrors.ids id (ap (λ (z : List BookEntry). is_spent z id) (sym book) ∙ spent))
          socket ended.own names b a k k l j end found (ap (λ (z : System). z.connections) is ∙ sym (set_same x.connections b k end.found)) links halves (λ g. refl) line
          (λ d has now. subst (λ (z : ConnectionState). IsLive v n new b k j a z) (sym (ended.here d has)) (record {
            sent = sent ∙ live.sent;
            side = IsSide.is_closed shut (λ name e. absurd (no_some name e));
          }));
    }

    -- where it was open
    open_ends : (a : Side) → HasEnd x.connections b a k (end_of n life socket) → IsEndOf w n old link b a → IsLive w n old b k l a ended.held → Leads w y
    open_ends side.Server end served live =
        let one : served.link ≡ l = some_is served.link l (sym served.at.found ∙ found) in
        let to : l.to ≡ n = ap (λ (z : Link). z.to) (sym one) ∙ served.to in
        let named : l.name ≡ link = ap (λ (z : Link). z.name) (sym one) ∙ served.named in
        let v = broken w n old closed b l in
        let same : v ≡ broken w l.to old (closed_at l.name old.node) b l = ap (λ i. broken w i old closed b l) (sym to) ∙ ap (λ z. broken w l.to old (closed_at z old.node) b l) (sym named) in
        let call : BreakCall w b v (Ok tt) = Breaks.closes (record {
          link = l;
          slot = old;
          served = record { found = found; serving = ap (λ (z : Link). z.serving) (sym one) ∙ served.at.serving; at = ap (slice_get w.slots) to ∙ place.found; up = running.up };
          is = same;
        }) in
        let line = mirrors.lines b k l end.found found in
        behind side.Server (shut_link l) v end refl refl refl (broke w v b tt call) (break_keeps w v b (Ok tt) mirrors.world call) (λ g e ne has. shut_other g k l ne)
        (record { asked = line.asked; answered = line.answered; waits = line.waits; served = line.served; client = line.client; dialled = line.dialled }) refl refl live
    open_ends side.Opener end followed live =
        let f = follows_by old.node.follow link followed.named in
        let v = put_node w n old closed in
        let call : DropCall w b v (Ok tt) = BreaksOff.drops (record {
          number = n;
          link = l;
          slot = old;
          name = link;
          reader = f.0;
          by = record { followed = record { at = place.found; found = ap (slice_get w.links) followed.dialled ∙ found; up = running.up }; follows = f.1; dialled = followed.dialled };
          is = refl;
        }) in
        behind side.Opener l v end refl (sym (set_same w.links b l found)) refl (dropped w v b tt call) (drop_keeps w v b (Ok tt) mirrors.world call) (λ g e ne has. same_half g k l)
        (mirrors.lines b k l end.found found) (λ name g. follow_goes link name old.node.follow followed.named g.named) refl live

    shut_still : (a : Side) → IsClosedSide old b l a → IsClosedSide new b l a
    shut_still side.Server shut = shut
    shut_still side.Opener shut = λ name f. shut name (record { named = follow_stayed link name old.node.follow f.named; dialled = f.dialled })

    -- .. and where it wasn't: nobody sees that the node forgets it
    closed_ends : (a : Side) → HasEnd x.connections b a k (end_of n life socket) → IsClosedSide old b l a → NoneOpen old.node link → IsLive w n old b k l a ended.held → Leads w y
    closed_ends a end shut none live =
        let sound = closed_sound old.node link (mirrors.world.nodes n old place.found running.up) in
        let unseen = goes_unseen w n old mirrors.world running (break link) closed sound refl none in
        behind a l (put_node w n old closed) end refl (sym (set_same w.links b l found)) refl unseen.0 unseen.1 (λ g e ne has. same_half g k l) (mirrors.lines b k l end.found found) (shut_still a shut) refl live

    at_side : (a : Side) → HasEnd x.connections b a k (end_of n life socket) → IsSide w n old b k l a ended.held → IsLive w n old b k l a ended.held → Leads w y
    at_side a end (IsSide.is_open name e served taken) live =
        open_ends a end (subst (λ z. IsEndOf w n old z b a) (some_is name link (sym e ∙ ended.linked)) served) live
    at_side a end (IsSide.is_closed shut none) live = closed_ends a end shut (none link ended.linked) live

  pub ended_leads : Leads w y
  ended_leads =
      let h = holds x w n life s mirrors at old socket ended.held wired place.found ended.has in
      at_side h.number h.connection h.link h.found h.at h.end h.live.side h.live

-- ---- each of them
-- the connection is gone
pub dropped_ended : (s u t : Stage) (socket link : LinkId) (held : ConnectionState) → connection_at s.own socket ≡ Some held → held.link ≡ Some link → u.node ≡ s.node → u.own.connections ≡ s.own.connections
    → Dropped socket (Some link) u t → IsEnded socket link s t
dropped_ended s u t socket link held has linked node connections d = record {
  held = held;
  has = has;
  linked = linked;
  node = d.node ∙ ap (closed_at link) node;
  here = λ e is. absurd ((gone socket e is).0 refl);
  own = λ z e ne is. (gone z e is).1;
}
  where
    gone : (z : LinkId) (e : ConnectionState) → connection_at t.own z ≡ Some e → (z ≢ socket) × (connection_at s.own z ≡ Some e)
    gone z e is =
        let r = removed u.own.connections socket z e (ap (λ m. get m z) (sym d.connections) ∙ is) in
        (r.0, ap (λ m. get m z) (sym connections) ∙ r.1)

module _ (x y : System) (w : WorldState) (n life : ℕ) (s t : Stage) (tells : Bool) (mode : SyncMode) (wired : IsWired x) (mirrors : Mirrors x w) where
  ends : IsAt x n life s → (connections : List Connection) → connections ≡ x.connections
      → y ≡ record { servers = slice_set x.servers n (record { life = life; doing = runs t }); connections = connections; ids = x.ids } → (socket link : LinkId) → IsEnded socket link s t → Leads w y
  ends at connections goes is socket link ended = ended_leads x y w n life s t wired mirrors at socket link ended
      (is ∙ ap (λ cs. record { servers = slice_set x.servers n (record { life = life; doing = runs t }); connections = cs; ids = x.ids }) goes)

  pub hears_end_leads : (socket link : LinkId) → IsTurn x n life s (hears_end socket link) t y → Happens tells mode s (hears_end socket link) t → Leads w y
  hears_end_leads socket link turn h = ends turn.at turn.connections turn.goes turn.is socket link (record {
    held = h.read.connection;
    has = h.read.is;
    linked = h.read.linked;
    node = h.node;
    here = λ d is. some_is d (left h.read.connection) (sym is ∙ (ap (λ (o : LoopState). get o.connections socket) h.own ∙ parted_here s.own.connections socket link h.read.connection h.read.is h.read.linked));
    own = λ z d ne is. parted_other s.own.connections socket link h.read.connection h.read.is h.read.linked (wired.kept n life s turn.at).apart z d ne
        (ap (λ (o : LoopState). get o.connections z) (sym h.own) ∙ is);
  })

  pub loses_leads : (socket : LinkId) → IsTurn x n life s (loses socket) t y → Happens tells mode s (loses socket) t → Leads w y
  loses_leads socket turn h = ends turn.at turn.connections turn.goes turn.is socket h.link
      (dropped_ended s (record s { wire = h.wire; failed = h.failed }) t socket h.link h.read.connection h.read.is h.read.linked refl refl h.dropped)

  pub misses_leads : (socket : LinkId) → IsTurn x n life s (misses socket) t y → Happens tells mode s (misses socket) t → Leads w y
  misses_leads socket turn h = ends turn.at turn.connections turn.goes turn.is socket h.link (dropped_ended s _ t socket h.link h.read.connection h.read.is h.read.linked refl refl h.dropped)

  pub is_deaf_leads : (socket link : LinkId) → IsTurn x n life s (is_deaf socket link) t y → Happens tells mode s (is_deaf socket link) t → Leads w y
  is_deaf_leads socket link turn h = ends turn.at turn.connections turn.goes turn.is socket link (dropped_ended s s t socket link h.has.connection h.has.is h.has.has refl refl h.dropped)

  -- a write failed, whether the node has an end or has closed it
  breaks_at : (socket : LinkId) (link : Option LinkId) (waiting : List ℕ) (u : Stage) → IsAt x n life s → (connections : List Connection) → connections ≡ x.connections
      → y ≡ record { servers = slice_set x.servers n (record { life = life; doing = runs t }); connections = connections; ids = x.ids }
      → connection_at s.own socket ≡ Some (record { link = link; waiting = waiting }) → u.node ≡ s.node → u.own.connections ≡ s.own.connections → Dropped socket link u t → Leads w y
  breaks_at socket None waiting u at connections goes is has node same d = still x y w n life s t mirrors at (runs t) (inl refl)
      (is ∙ ap (λ cs. record { servers = slice_set x.servers n (record { life = life; doing = runs t }); connections = cs; ids = x.ids }) goes)
      (record { node = d.node ∙ node; own = λ z e now. ap (λ m. get m z) (sym same) ∙ (removed u.own.connections socket z e (ap (λ m. get m z) (sym d.connections) ∙ now)).1 })
  breaks_at socket (Some link) waiting u at connections goes is has node same d =
      ends at connections goes is socket link (dropped_ended s u t socket link (record { link = Some link; waiting = waiting }) has refl node same d)

  pub breaks_leads : (socket : LinkId) → IsTurn x n life s (breaks socket) t y → Happens tells mode s (breaks socket) t → Leads w y
  breaks_leads socket turn h = breaks_at socket h.link h.waiting (record s { wire = h.wire; failed = h.failed }) turn.at turn.connections turn.goes turn.is h.has.is refl refl h.dropped
