-- A server dials its master: its node opens an end, on which its first line waits, and beside it a link comes that waits.
use Rattle.std.proofs.Common.{◌≡◌, ◌≢◌, ◌<◌, ◌⊎◌, inl, inr, ◌++◌, ℕ, List, [], ◌∷◌, Bool, true, false, cond, Option, None, Some, length, refl, sym, ap, subst, ◌∙◌, arith}
use Rattle.std.specs.Prelude.{slice_get, slice_set}
use Rattle.std.specs.Option.{option_map}
use Rattle.std.specs.FinMap.{get, get-insert}
use Rattle.mr_links.specs.declared.link_id.LinkId.{LinkId}
use Rattle.mr_links.proofs.LinkRows.{ids_total}
use Rattle.mr_node_links.proofs.Naming.{at_or_other}
use Rattle.mr_replication.specs.State.{name_of}
use Rattle.mr_node_links.specs.State.EndState.{upstream}
use Rattle.mr_node_output.specs.Outs.{OutsState, outs_of}
use Rattle.mr_node_spec.specs.State.{NodeState, end_of as node_end}
use Rattle.mr_node_spec.specs.LinkRows.{Dials}
use Rattle.mr_connections.specs.State.{ConnectionState, begun}
use Rattle.mr_file.specs.declared.sync_mode.SyncMode.{SyncMode}
use Rattle.mr_loop.specs.Stage.{Stage, connection_at}
use Rattle.mr_loop.specs.Carrying.{Carried}
use Rattle.mr_loop.specs.Causes.{DialsAt, at_dial}
use Rattle.mr_loop.specs.Rows.{Happens as HappensAt, acts, spills, tears}
use Rattle.mr_loop.specs.Giving.{listed}
use Rattle.law_refinement.specs.State.{Link, Slot, WorldState, a_node}
use Rattle.law_refinement.specs.Worlds.{IsWorld}
use Rattle.law_refinement.specs.Carrying.{connecting, waiting_link}
use Rattle.law_refinement.proofs.Places.{is_within, some_is}
use Rattle.law_refinement.specs.Runs.{Happens}
use Rattle.mr_world_parts.specs.AtNode.{is_spent}
use Rattle.mr_links.specs.declared.side.Side.{Side}
use Rattle.mr_links.specs.declared.side.Side.TheVariants as side
use Rattle.law_servers.specs.Calling.{dial}
use Rattle.law_servers.specs.Worlds.{Becomes, NoneOpen, CallsInWorld}
use Rattle.law_servers.proofs.Moving.{servers_keep_worlds}
use Rattle.law_systems.specs.System.{Connection, Doing, End, IsAt, System, dialled_by, end_at, gives_up, is_taken, runs}
use Rattle.law_systems.specs.Network.{HasEnd, end_of}
use Rattle.law_systems.proofs.Wired.{IsWired}
use Rattle.law_systems.proofs.Mirrors.{IsLine, IsLive, IsSide, IsTurn, Leads, Mirrors}
use Rattle.law_systems.proofs.Pushing.{carried_at, carried_to, carried_was}
use Rattle.law_systems.proofs.Parting.{carried_node, none_parted}
use Rattle.law_systems.proofs.Rebuilding.{KeepsNames, live_kept, rebuilt_more, same_half}
use Rattle.law_systems.proofs.Finding.{StandsAt, stands_at}
use Rattle.law_systems.proofs.Saying.{SaysAt, no_run, none_used, said, unsaid}
use Rattle.law_systems.proofs.Parting.{spilled_core, torn_core}

no_end : (e : End) (P : Type 0) → ◌≡◌ {A = Option End} None (Some e) → P
no_end e P h = absurd (cc)

module _ (x : System) (w : WorldState) (n life : ℕ) (s : Stage) (wired : IsWired x) (mirrors : Mirrors x w) (at : IsAt x n life s)
    (socket link : LinkId) (outs : OutsState) (m : Stage) (c : DialsAt socket link s m outs) where
  stands : StandsAt w n s
  stands = stands_at x w n life s wired mirrors at

  abbrev slot : Slot
  slot = stands.slot

  -- ---- the World
  abbrev v : WorldState
  v = connecting w n slot m.node link outs.reply

  abbrev new : Slot
  new = record slot { node = m.node; dialled = length w.links }

  dials : Dials slot.node link m.node outs
  dials = subst (λ (z : NodeState). Dials z link m.node outs) (sym stands.node) c.dials

  connects : CallsInWorld w v
  connects = record {
    number = n;
    slot = slot;
    running = stands.running;
    call = dial link outs;
    node = m.node;
    sound = c.sound;
    is = dials;
    becomes = Becomes.connects link outs refl refl;
  }

  kept : Happens w v × IsWorld v
  kept = servers_keep_worlds w v mirrors.world (inl connects)

  says : SaysAt outs link
  says = record {
    link = ap (λ (o : OutsState). o.link) c.dials.outs_are;
    fed = ap (λ (o : OutsState). o.fed) c.dials.outs_are;
    closed = ap (λ (o : OutsState). o.closed) c.dials.outs_are;
    used = ap (λ (o : OutsState). o.used) c.dials.outs_are;
  }

  stays : outs.closes ≡ false
  stays = ap (λ (o : OutsState). o.closes) c.dials.outs_are

  -- ---- the new connection, and its link
  abbrev q : Connection
  q = dialled_by (end_of n life socket)

  abbrev j : Link
  j = waiting_link n link outs.reply

  line : IsLine q j
  line = record {
    asked = record { rest = outs.reply; is = refl };
    answered = record { rest = []; is = refl };
    waits = λ e h none. refl;
    served = λ e h. no_end e _ h;
    client = λ h. no_end (end_of n life socket) _ (sym h);
    dialled = λ e h. (link, ap (λ (z : End). a_node z.server link) (some_is (end_of n life socket) e h));
  }

  own : (side : Side) (e : End) → end_at side q ≡ Some e → e.server ≡ n
  own side.Opener e h = ap (λ (z : End). z.server) (sym (some_is (end_of n life socket) e h))
  own side.Server e h = no_end e _ h

  -- ---- the loop's connections
  -- the new one
  first : connection_at m.own socket ≡ Some (begun link)
  first = ap (λ z. get z socket) c.connections ∙ (get-insert ids_total s.own.connections socket (begun link) socket
      ∙ at_or_other socket socket (λ b. cond b (Some (begun link)) (get s.own.connections socket) ≡ Some (begun link)) (λ e. refl) (λ ne. absurd (ne refl)))

  -- .. and those before
  before : (other : LinkId) → other ≢ socket → connection_at m.own other ≡ connection_at s.own other
  before other ne = ap (λ z. get z other) c.connections ∙ (get-insert ids_total s.own.connections socket (begun link) other
      ∙ at_or_other other socket (λ b. cond b (Some (begun link)) (get s.own.connections other) ≡ get s.own.connections other) (λ e. absurd (ne e)) (λ e. refl))

  new_socket : (number : ℕ) (side : Side) (k : Connection) (other : LinkId) → HasEnd x.connections number side k (end_of n life other) → other ≢ socket
  new_socket number side k other end e =
      let older : other.generation < s.wire.opened = wired.older number side k (end_of n life other) s end at in
      let newest : socket.generation ≡ s.wire.opened = c.connects.2.generation in
      let same : other.generation ≡ socket.generation = ap (λ (z : LinkId). z.generation) e in
      omega (arith, older, newest, same)

  new_link : (other : LinkId) (held : ConnectionState) → connection_at s.own other ≡ Some held → held.link ≡ Some link → ⊥
  new_link other held there is =
      let older : link.generation < s.node.ends.opened = (wired.kept n life s at).older other held link there is in
      let newest : link.generation ≡ s.node.ends.opened = c.dials.generation in
      omega (arith, older, newest)

  -- ---- the ends of the node
  end_there : (name : LinkId) → name ≢ link → node_end m.node name ≡ node_end slot.node name
  end_there name ne = ap (λ (z : NodeState). node_end z name) dials.node ∙ (get-insert ids_total slot.node.ends.open_links link upstream name
      ∙ at_or_other name link (λ b. cond b (Some upstream) (node_end slot.node name) ≡ node_end slot.node name) (λ e. absurd (ne e)) (λ e. refl))

  none_there : (name : LinkId) → name ≢ link → NoneOpen slot.node name → NoneOpen m.node name
  none_there name ne (NoneOpen.absent e) = NoneOpen.absent (end_there name ne ∙ e)
  none_there name ne (NoneOpen.shut e) = NoneOpen.shut (record { is = end_there name ne ∙ e.is })

  -- the node followed nobody, and follows by the new link
  keeps : (number : ℕ) (l : Link) (held : ConnectionState) → slice_get w.links number ≡ Some l → (held.link ≡ Some link → ⊥) → KeepsNames slot new number held
  keeps number l held found other = record {
    opener = λ name h f. absurd (alone name f.named);
    follows = λ name f. absurd (far f.dialled);
    none = λ name h none. none_there name (λ e. other (h ∙ ap Some e)) none;
  }
    where
      alone : (name : LinkId) → name_of slot.node.follow ≡ Some name → ⊥
      alone name named = let none : ◌≡◌ {A = Option LinkId} None (Some name) = sym (ap name_of dials.alone) ∙ named in absurd (cc)

      far : length w.links ≡ number → ⊥
      far e = let near = is_within w.links number l found in omega (arith, near, e)

  -- ---- beside it
  module _ (y : System) (doing : Doing) (t : Stage) (does : (doing ≡ runs t) ⊎ (doing ≡ gives_up t)) (servers : y.servers ≡ slice_set x.servers n (record { life = life; doing = doing }))
      (connections : y.connections ≡ x.connections ++ q ∷ []) (ids : y.ids ≡ listed outs.used ++ x.ids)
      (node : doing ≡ runs t → m.node ≡ t.node) (core : m.node.core ≡ t.node.core) (carried : doing ≡ runs t → Carried (outs_of outs) m t) where
    taken : (id : List ℕ) → is_spent v.book id ≡ true → is_taken y.ids id ≡ true
    taken id spent = ap (λ z. is_taken z id) ids ∙ none_used outs.used x.ids id says.used (mirrors.ids id spent)

    last : (side : Side) (other : LinkId) (held : ConnectionState) → doing ≡ runs t → end_at side q ≡ Some (end_of n life other) → connection_at t.own other ≡ Some held
        → IsLive v n new (length x.connections) q j side held
    last side.Server other held r end there = no_end (end_of n life other) _ end
    last side.Opener other held r end there =
        let one : socket ≡ other = ap (λ (z : End). z.socket) (some_is (end_of n life socket) (end_of n life other) end) in
        let is : held ≡ carried_to (outs_of outs) (begun link) =
        some_is held (carried_to (outs_of outs) (begun link)) (sym there ∙ (ap (connection_at t.own) (sym one) ∙ (carried_at (outs_of outs) m t (carried r) socket ∙ ap (option_map (carried_to (outs_of outs))) first))) in
        let now = is ∙ said outs link says (begun link) stays refl in
        record {
          sent = sym (ap (λ (z : ConnectionState). z.waiting) now);
          side = IsSide.is_open link (ap (λ (z : ConnectionState). z.link) now) (record { named = ap (λ (z : NodeState). name_of z.follow) dials.node; dialled = mirrors.as_many_links }) (λ d e. refl);
        }

    live : (number : ℕ) (side : Side) (k : Connection) (other : LinkId) (l : Link) (held : ConnectionState) → doing ≡ runs t → HasEnd x.connections number side k (end_of n life other)
        → slice_get w.links number ≡ Some l → slice_get v.links number ≡ Some l → connection_at t.own other ≡ Some held → IsLive v n new number k l side held
    live number side k other l held r end found now there =
        let was = carried_was (outs_of outs) m t (carried r) other held there in
        let there_before : connection_at s.own other ≡ Some was.0 = sym (before other (new_socket number side k other end)) ∙ was.1 in
        let unlike = new_link other was.0 there_before in
        let same : held ≡ was.0 = was.2 ∙ unsaid outs link says was.0 unlike in
        let old = mirrors.live number side k (end_of n life other) l s was.0 slot end found at there_before stands.running.at in
        subst (λ (z : ConnectionState). IsLive v n new number k l side z) (sym same)
        (live_kept w v n slot new number k k l l was.0 (keeps number l was.0 found unlike) found now side (same_half side k l) old)

    beside : Mirrors y v
    beside = rebuilt_more x y w v n life s t doing slot new mirrors at servers does kept.1 stands.running.at refl refl node core q j connections refl line taken own last live

  -- what comes of it, whatever becomes of what the node gave out
  leads : (y : System) (doing : Doing) (t : Stage) → (doing ≡ runs t) ⊎ (doing ≡ gives_up t) → y.servers ≡ slice_set x.servers n (record { life = life; doing = doing })
      → y.connections ≡ x.connections ++ q ∷ [] → y.ids ≡ listed outs.used ++ x.ids
      → (doing ≡ runs t → m.node ≡ t.node) → m.node.core ≡ t.node.core → (doing ≡ runs t → Carried (outs_of outs) m t) → Leads w y
  leads y doing t does servers connections ids node core carried = record { worlds = v ∷ []; run = (kept.0, kept.1, tt); mirrors = beside y doing t does servers connections ids node core carried }

-- ---- the events
module _ (x y : System) (w : WorldState) (n life : ℕ) (s t : Stage) (tells : Bool) (mode : SyncMode) (socket link : LinkId) (outs : OutsState) (wired : IsWired x) (mirrors : Mirrors x w) where
  pub dial_acts : IsTurn x n life s (acts (at_dial socket link) outs) t y → HappensAt tells mode s (acts (at_dial socket link) outs) t → Leads w y
  dial_acts turn h =
      let same : m_node h ≡ t.node = sym (carried_node outs h.called t h.carried ∙ none_parted outs h.called.node (stays x w n life s wired mirrors turn.at socket link outs h.called h.calls)
      (says x w n life s wired mirrors turn.at socket link outs h.called h.calls).closed) in
      leads x w n life s wired mirrors turn.at socket link outs h.called h.calls y (runs t) t (inl refl) (ap (λ (z : System). z.servers) turn.is) (ap (λ (z : System). z.connections) turn.is ∙ turn.goes)
      (ap (λ (z : System). z.ids) turn.is) (λ r. same) (ap (λ (z : NodeState). z.core) same) (λ r. h.carried)
    where
      m_node : HappensAt tells mode s (acts (at_dial socket link) outs) t → NodeState
      m_node h = h.called.node

  pub dial_spills : IsTurn x n life s (spills (at_dial socket link) outs) t y → HappensAt tells mode s (spills (at_dial socket link) outs) t → Leads w y
  dial_spills turn h = leads x w n life s wired mirrors turn.at socket link outs h.called h.calls y (gives_up t) t (inr refl) (ap (λ (z : System). z.servers) turn.is)
      (ap (λ (z : System). z.connections) turn.is ∙ turn.goes) (ap (λ (z : System). z.ids) turn.is) (λ r. no_run t _ r) (sym (spilled_core (outs_of outs) h.called t h.spilled)) (λ r. no_run t _ r)

  pub dial_tears : IsTurn x n life s (tears (at_dial socket link) outs) t y → HappensAt tells mode s (tears (at_dial socket link) outs) t → Leads w y
  dial_tears turn h = leads x w n life s wired mirrors turn.at socket link outs h.called h.calls y (gives_up t) t (inr refl) (ap (λ (z : System). z.servers) turn.is)
      (ap (λ (z : System). z.connections) turn.is ∙ turn.goes) (ap (λ (z : System). z.ids) turn.is) (λ r. no_run t _ r) (sym (torn_core (outs_of outs) h.called t h.torn)) (λ r. no_run t _ r)
