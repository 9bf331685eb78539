-- Beside a server that made a step at the link to its master: what was sent there waits on its connection, and all else is what it was.
use Rattle.std.proofs.Common.{◌≡◌, ◌≢◌, ◌⊎◌, ℕ, List, true, Some, sym, ap, ◌∙◌}
use Rattle.std.specs.Prelude.{slice_get, slice_set}
use Rattle.mr_links.specs.declared.link_id.LinkId.{LinkId}
use Rattle.mr_replication.specs.State.{name_of}
use Rattle.mr_node_spec.specs.State.{end_of as node_end}
use Rattle.mr_connections.specs.State.{ConnectionState}
use Rattle.mr_loop.specs.Stage.{Stage, connection_at}
use Rattle.law_refinement.specs.State.{Link, Slot, WorldState}
use Rattle.law_refinement.specs.Worlds.{IsWorld}
use Rattle.law_refinement.proofs.Places.{set_here, set_same, some_is}
use Rattle.mr_world_parts.specs.AtNode.{is_spent}
use Rattle.mr_links.specs.declared.side.Side.{Side}
use Rattle.mr_links.specs.declared.side.Side.TheVariants as side
use Rattle.law_servers.specs.Worlds.{NoneOpen}
use Rattle.law_systems.specs.System.{Connection, Doing, End, IsAt, System, end_at, gives_up, is_taken, runs}
use Rattle.law_systems.specs.Network.{HasEnd, end_of}
use Rattle.law_systems.proofs.Wired.{IsWired}
use Rattle.law_systems.proofs.Mirrors.{IsLive, Mirrors}
use Rattle.law_systems.proofs.Rebuilding.{KeepsNames, SameHalf, live_kept, rebuilt_one, same_half}
use Rattle.law_systems.proofs.Finding.{IsOpenAt, StandsAt}
use Rattle.law_systems.proofs.Master.{IsSaid, line_said, server_said}

sides_differ : side.Server ≡ side.Opener → ⊥
sides_differ e = cc

module _ (x : System) (w : WorldState) (n life : ℕ) (s : Stage) (wired : IsWired x) (mirrors : Mirrors x w) (at : IsAt x n life s) (stands : StandsAt w n s) (socket link : LinkId)
    (o : IsOpenAt x w n life s stands.slot socket link side.Opener) where
  abbrev p : Connection
  p = o.connection

  -- no other connection of the loop has the link
  pub unlike : (other : LinkId) (held : ConnectionState) → connection_at s.own other ≡ Some held → other ≢ socket → held.link ≡ Some link → ⊥
  unlike other held there ne is = ne ((wired.kept n life s at).apart.apart other socket held o.held link there o.there is o.linked)

  -- The World is u, where the slot is the new one, and the line j.
  module _ (u : WorldState) (new : Slot) (j : Link) (reply : List ℕ) (world : IsWorld u) (slots : u.slots ≡ slice_set w.slots n new) (links : u.links ≡ slice_set w.links o.number j)
      (book : u.book ≡ w.book) (as_master : new.as_master ≡ stands.slot.as_master) (dialled : new.dialled ≡ stands.slot.dialled) (said : IsSaid reply o.line j)
      (y : System) (doing : Doing) (t : Stage) (does : (doing ≡ runs t) ⊎ (doing ≡ gives_up t))
      (ends : doing ≡ runs t → (name : LinkId) → name ≢ link → node_end new.node name ≡ node_end stands.slot.node name)
      (follow : doing ≡ runs t → (name : LinkId) → name_of new.node.follow ≡ Some name → name ≡ link)
      (others : doing ≡ runs t → (other : LinkId) (held : ConnectionState) → connection_at t.own other ≡ Some held → other ≢ socket → connection_at s.own other ≡ Some held)
      (here : doing ≡ runs t → (held : ConnectionState) → connection_at t.own socket ≡ Some held → IsLive u n new o.number p j side.Opener held) where
    none_there : doing ≡ runs t → (name : LinkId) → name ≢ link → NoneOpen stands.slot.node name → NoneOpen new.node name
    none_there r name ne (NoneOpen.absent e) = NoneOpen.absent (ends r name ne ∙ e)
    none_there r name ne (NoneOpen.shut e) = NoneOpen.shut (record { is = ends r name ne ∙ e.is })

    keeps : doing ≡ runs t → (c : ℕ) (held : ConnectionState) → (held.link ≡ Some link → ⊥) → KeepsNames stands.slot new c held
    keeps r c held other = record {
      opener = λ name h f. absurd (other (h ∙ (sym f.named ∙ o.named.named)));
      follows = λ name f. record { named = o.named.named ∙ ap (λ z. Some z) (sym (follow r name f.named)); dialled = sym dialled ∙ f.dialled };
      none = λ name h none. none_there r name (λ e. other (h ∙ ap (λ z. Some z) e)) none;
    }

    other_live : doing ≡ runs t → (c : ℕ) (at_side : Side) (k : Connection) (other : LinkId) (l m : Link) (held : ConnectionState) → HasEnd x.connections c at_side k (end_of n life other)
        → slice_get w.links c ≡ Some l → slice_get u.links c ≡ Some m → SameHalf at_side k l k m → other ≢ socket → connection_at t.own other ≡ Some held → IsLive u n new c k m at_side held
    other_live r c at_side k other l m held end found now half ne there =
        let before = others r other held there ne in
        live_kept w u n stands.slot new c k k l m held (keeps r c held (unlike other held before ne)) found now at_side half
        (mirrors.live c at_side k (end_of n life other) l s held stands.slot end found at before stands.running.at)

    -- the halves of this connection
    half_there : (at_side : Side) (e : End) → end_at at_side p ≡ Some e → e.server ≢ n → (end_at at_side p ≡ Some e) × SameHalf at_side p o.line p j
    half_there side.Server e h apart = (h, server_said reply p o.line j said)
    half_there side.Opener e h apart = absurd (apart (ap (λ (z : End). z.server) (some_is e (end_of n life socket) (sym h ∙ o.end.has))))

    live_there : (at_side : Side) (other : LinkId) (held : ConnectionState) → doing ≡ runs t → end_at at_side p ≡ Some (end_of n life other) → connection_at t.own other ≡ Some held
        → IsLive u n new o.number p j at_side held
    live_there side.Opener other held r end there =
        let one : other ≡ socket = ap (λ (z : End). z.socket) (some_is (end_of n life other) (end_of n life socket) (sym end ∙ o.end.has)) in
        here r held (ap (connection_at t.own) (sym one) ∙ there)
    live_there side.Server other held r end there =
        other_live r o.number side.Server p other o.line j held (record { found = o.end.found; has = end }) o.found (ap (λ z. slice_get z o.number) links ∙ placed)
        (server_said reply p o.line j said)
        (λ one. sides_differ (wired.apart o.number o.number side.Server side.Opener p p (end_of n life socket) (record { found = o.end.found; has = end ∙ ap (λ z. Some (end_of n life z)) one }) o.end).1)
        there
      where
        placed : slice_get (slice_set w.links o.number j) o.number ≡ Some j
        placed = set_here w.links o.number j o.line o.found

    live : (c : ℕ) (at_side : Side) (k : Connection) (other : LinkId) (l : Link) (held : ConnectionState) → c ≢ o.number → doing ≡ runs t → HasEnd x.connections c at_side k (end_of n life other)
        → slice_get w.links c ≡ Some l → slice_get u.links c ≡ Some l → connection_at t.own other ≡ Some held → IsLive u n new c k l at_side held
    live c at_side k other l held ne r end found now there =
        other_live r c at_side k other l l held end found now (same_half at_side k l)
        (λ one. ne (wired.apart c o.number at_side side.Opener k p (end_of n life socket) (record { found = end.found; has = end.has ∙ ap (λ z. Some (end_of n life z)) one }) o.end).0)
        there

    pub beside : y.servers ≡ slice_set x.servers n (record { life = life; doing = doing }) → y.connections ≡ x.connections
        → ((id : List ℕ) → is_taken x.ids id ≡ true → is_taken y.ids id ≡ true) → (doing ≡ runs t → new.node ≡ t.node) → new.node.core ≡ t.node.core → Mirrors y u
    beside servers connections ids node core =
        rebuilt_one x y w u n life s t doing stands.slot new mirrors at servers does world stands.running.at slots as_master node core
        o.number p p o.line j o.end.found o.found (connections ∙ sym (set_same x.connections o.number p o.end.found)) links
        (line_said reply p o.line j (end_of n life socket) o.end.has said (mirrors.lines o.number p o.line o.end.found o.found))
        (λ id spent. ids id (mirrors.ids id (ap (λ z. is_spent z id) (sym book) ∙ spent)))
        half_there live_there live
