-- A link comes and is a connection, a client's or one that waited; or none comes of it, which nobody sees.
use Rattle.std.proofs.Common.{◌≡◌, ◌≢◌, ◌++◌, inl, ℕ, List, [], ◌∷◌, Bool, true, cond, Option, None, Some, Ok, length, refl, sym, ap, subst, ◌∙◌, arith}
use Rattle.std.specs.Prelude.{slice_get, slice_set}
use Rattle.std.specs.FinMap.{get, get-insert, get-remove}
use Rattle.mr_links.specs.declared.link_id.LinkId.{LinkId}
use Rattle.mr_links.proofs.LinkRows.{ids_total}
use Rattle.mr_node_links.specs.State.{opened_as}
use Rattle.mr_node_links.specs.State.EndState.{client as alone, upstream}
use Rattle.mr_node_links.proofs.Naming.{at_or_other}
use Rattle.mr_file.specs.declared.sync_mode.SyncMode.{SyncMode}
use Rattle.mr_follower.specs.State.{FollowState}
use Rattle.mr_replication.specs.State.{name_of}
use Rattle.mr_node_output.specs.Outs.{OutsState}
use Rattle.mr_node_spec.specs.State.{FollowedAt, NodeState, end_of as node_end}
use Rattle.mr_node_spec.specs.Sound.{IsSound}
use Rattle.mr_node_spec.specs.LinkRows.{Dials, Opens, closed_at, follow_without}
use Rattle.mr_node_state.proofs.Nodes.{opened_node}
use Rattle.mr_connections.specs.State.{ConnectionState, begun}
use Rattle.mr_loop.specs.Stage.{LoopState, Stage, connection_at}
use Rattle.mr_loop.specs.Causes.{TurnsOff}
use Rattle.mr_loop.specs.Rows.{Happens, Joins, joins, misses_dial, turns_away}
use Rattle.mr_loop.proofs.Waiting.{by_name}
use Rattle.law_protocol.specs.Event as events
use Rattle.law_refinement.specs.State.{Link, Slot, WorldState}
use Rattle.law_refinement.specs.Seeing.{seen_link, seen_node}
use Rattle.law_refinement.specs.Worlds.{IsWorld}
use Rattle.law_refinement.specs.Carrying.{accepted_by as served_by, accepting, opened, opened_link, put_node}
use Rattle.law_refinement.specs.Events.{IsRunning, IsWaiting}
use Rattle.law_refinement.proofs.Accepting.{accepts, accepts_keep}
use Rattle.law_refinement.proofs.Others.{KeepsEnds, all_seen, served_end}
use Rattle.law_refinement.proofs.Places.{push_here, set_here, some_is}
use Rattle.law_refinement.proofs.Reading.{node_is, still_at}
use Rattle.law_refinement.proofs.Seen.{same_each}
use Rattle.law_refinement.specs.Runs as run
use Rattle.mr_world_parts.specs.AtNode.{is_spent}
use Rattle.mr_links.specs.declared.side.Side.{Side}
use Rattle.mr_links.specs.declared.side.Side.TheVariants as side
use Rattle.mr_world.specs.Calls.{ClientCall, Clients}
use Rattle.mr_world.proofs.Changing.{node_world}
use Rattle.mr_world.proofs.Happened.{came}
use Rattle.mr_world.proofs.Kept.{client_keeps, closed_end, reads_on}
use Rattle.law_servers.specs.Worlds.{NoneOpen}
use Rattle.law_systems.specs.System.{Connection, End, IsAt, System, accepted_by, end_at, is_taken, of_client, runs}
use Rattle.law_systems.specs.Network.{Accepts, HasEnd, end_of}
use Rattle.law_systems.proofs.Wired.{IsWired}
use Rattle.law_systems.proofs.Mirrors.{IsLine, IsLive, IsSide, IsTurn, Leads, Mirrors}
use Rattle.law_systems.proofs.Rebuilding.{KeepsNames, SameHalf, live_kept, rebuilt_more, rebuilt_one, rebuilt_still, same_half}
use Rattle.law_systems.proofs.Living.{Stands, its_link, stands}
use Rattle.law_systems.proofs.Under.{put_here, put_other}
use Rattle.law_systems.proofs.Quiet.{still}
use Rattle.law_systems.proofs.Unaccepted.{AreUnread}
use Rattle.law_systems.proofs.Apart.{no_some}
use Rattle.law_systems.proofs.Closings.{closed_sound}

-- ---- what is sound stays so
opened_sound : (a b : NodeState) (l : LinkId) → Opens a l b → IsSound a → IsSound b
opened_sound a b l o i = subst IsSound (sym o.node) (record {
  node = opened_node a l [] i.node o.fresh;
  window = i.window;
  id = i.id;
  second = i.second;
  upstream = i.upstream;
  reading = reads_on a (opened_as a.ends l (alone [])) a.follow i.reading;
})

-- ---- the ends of a node that opened one more
open_other : (a b : NodeState) (l x : LinkId) → Opens a l b → x ≢ l → node_end b x ≡ node_end a x
open_other a b l x o ne = ap (λ (z : NodeState). node_end z x) o.node ∙ (get-insert ids_total a.ends.open_links l (alone []) x
    ∙ at_or_other x l (λ c. cond c (Some (alone [])) (get a.ends.open_links x) ≡ get a.ends.open_links x) (λ same. absurd (ne same)) (λ other. refl))

dial_other : (a b : NodeState) (l x : LinkId) (outs : OutsState) → Dials a l b outs → x ≢ l → node_end b x ≡ node_end a x
dial_other a b l x outs d ne = ap (λ (z : NodeState). node_end z x) d.node ∙ (get-insert ids_total a.ends.open_links l upstream x
    ∙ at_or_other x l (λ c. cond c (Some upstream) (get a.ends.open_links x) ≡ get a.ends.open_links x) (λ same. absurd (ne same)) (λ other. refl))

none_as : (a b : NodeState) (name : LinkId) → node_end b name ≡ node_end a name → NoneOpen a name → NoneOpen b name
none_as a b name same (NoneOpen.absent e) = NoneOpen.absent (same ∙ e)
none_as a b name same (NoneOpen.shut e) = NoneOpen.shut (record { is = same ∙ e.is })

-- .. and closed it again
closed_gone : (a : NodeState) (l : LinkId) → node_end (closed_at l a) l ≡ None
closed_gone a l = get-remove ids_total a.ends.open_links l l ∙ at_or_other l l (λ c. cond c None (get a.ends.open_links l) ≡ None) (λ same. refl) (λ other. absurd (other refl))

again : (a m : NodeState) (l : LinkId) → node_end a l ≡ None → ((x : LinkId) → x ≢ l → node_end m x ≡ node_end a x) → (x : LinkId) → node_end (closed_at l m) x ≡ node_end a x
again a m l fresh others x = by_name (node_end (closed_at l m) x ≡ node_end a x) x l
    (λ same. ap (node_end (closed_at l m)) same ∙ (closed_gone m l ∙ (sym fresh ∙ ap (node_end a) (sym same))))
    (λ ne. closed_end m l x ne ∙ others x ne)

-- a link that isn't there is none that is followed
follow_apart : (a : NodeState) (l : LinkId) (o : Option (LinkId × FollowState)) → node_end a l ≡ None → FollowedAt a.ends o → follow_without l o ≡ o
follow_apart a l None fresh h = refl
follow_apart a l (Some f) fresh h = at_or_other f.0 l (λ c. cond c None (Some f) ≡ Some f) (λ same. absurd (no_some upstream (sym fresh ∙ (ap (node_end a) (sym same) ∙ h)))) (λ other. refl)

follow_gone : (l : LinkId) (f : FollowState) → follow_without l (Some (l, f)) ≡ None
follow_gone l f = at_or_other l l (λ c. cond {A = Option (LinkId × FollowState)} c None (Some (l, f)) ≡ None) (λ same. refl) (λ other. absurd (other refl))

-- ---- no connection comes: whoever asks the node finds it as it was
pub record IsAsBefore (a b : NodeState) : Type 0 where
  pub core : b.core ≡ a.core
  pub follow : b.follow ≡ a.follow
  pub ends : (x : LinkId) → node_end b x ≡ node_end a x
  pub sound : IsSound b

off_opened : (a b m : NodeState) (l : LinkId) → IsSound a → Opens a l m → b ≡ closed_at l m → IsAsBefore a b
off_opened a b m l i o is = subst (IsAsBefore a) (sym is) (record {
  core = ap (λ (z : NodeState). z.core) o.node;
  follow = ap (λ (z : NodeState). follow_without l z.follow) o.node ∙ follow_apart a l a.follow o.fresh i.node.followed;
  ends = again a m l o.fresh (λ x ne. open_other a m l x o ne);
  sound = closed_sound m l (opened_sound a m l o i);
})

off_dialled : (a b m : NodeState) (l : LinkId) (outs : OutsState) → Dials a l m outs → IsSound m → b ≡ closed_at l m → IsAsBefore a b
off_dialled a b m l outs d i is = subst (IsAsBefore a) (sym is) (record {
  core = ap (λ (z : NodeState). z.core) d.node;
  follow = ap (λ (z : NodeState). follow_without l z.follow) d.node ∙ (follow_gone l _ ∙ sym d.alone);
  ends = again a m l d.fresh (λ x ne. dial_other a m l x outs d ne);
  sound = closed_sound m l i;
})

module _ (w : WorldState) (n : ℕ) (s : Slot) (is : IsWorld w) (running : IsRunning w n s) (b : NodeState) (same : IsAsBefore s.node b) where
  keeps : KeepsEnds s.node b
  keeps = record { up = ap (λ z. z.up) same.core; all = λ q streams held v e. same.ends q ∙ e }

  off_world : IsWorld (put_node w n s b)
  off_world = node_world w n s (record s { node = b }) is running.at (record {
    here = λ j y e to up q. let served = served_end w is n s running.at running.up j y e to q in (served.0, same.ends y.name ∙ served.1);
    sound = λ up. same.sound;
    own = λ m g up e. let h = is.followers n s m g running.at running.up (sym same.follow ∙ e) in record { link = h.link; found = h.found; caller = h.caller; agrees = h.agrees };
  })

  off_unseen : run.Happens w (put_node w n s b)
  off_unseen = run.Happens.nothing_seen (λ book holds. (
    holds.kept,
    record {
      nodes = still_at seen_node w.slots n (record s { node = b }) s running.at (node_is s b s.file s.node.core s.node.follow same.core same.follow);
      links = same_each (seen_link w.slots) (seen_link (slice_set w.slots n (record s { node = b }))) w.links (all_seen w is n s running.at running.up (record s { node = b }) keeps);
      book = λ i. refl;
    },
  ))

module _ (x y : System) (w : WorldState) (n life : ℕ) (s t : Stage) (wired : IsWired x) (mirrors : Mirrors x w) (at : IsAt x n life s)
    (is : y ≡ record { servers = slice_set x.servers n (record { life = life; doing = runs t }); connections = x.connections; ids = x.ids })
    (own : t.own.connections ≡ s.own.connections) where
  off_place : Stands w n s
  off_place = stands x w n life s mirrors at

  off_running : IsRunning w n off_place.slot
  off_running = record { at = off_place.found; up = ap (λ (z : NodeState). z.core.up) off_place.node ∙ (wired.kept n life s at).up }

  off_sound : IsSound s.node
  off_sound = subst IsSound off_place.node (mirrors.world.nodes n off_place.slot off_place.found off_running.up)

  as_before : IsAsBefore s.node t.node → Leads w y
  as_before before =
      let old = off_place.slot in
      let same : IsAsBefore old.node t.node = subst (λ z. IsAsBefore z t.node) (sym off_place.node) before in
      let new = record old { node = t.node } in
      let v = put_node w n old t.node in
      let world = off_world w n old mirrors.world off_running t.node same in
      record {
        worlds = v ∷ [];
        run = (off_unseen w n old mirrors.world off_running t.node same, world, tt);
        mirrors = rebuilt_still x y w v n life s t (runs t) old new mirrors at (ap (λ (z : System). z.servers) is) (inl refl) world off_place.found refl refl (λ r. refl) refl
            (ap (λ (z : System). z.connections) is) refl (λ id spent. ap (λ (z : System). is_taken z.ids id) is ∙ mirrors.ids id spent)
            (λ c g k z l d r end was now has. live_kept w v n old new c k k l l d (record {
              opener = λ name e f. record { named = ap name_of same.follow ∙ f.named; dialled = f.dialled };
              follows = λ name f. record { named = ap name_of (sym same.follow) ∙ f.named; dialled = f.dialled };
              none = λ name e. none_as old.node t.node name (same.ends name);
            }) was now g (same_half g k l) (mirrors.live c g k (end_of n life z) l s d old end was at (ap (λ m. get m z) (sym own) ∙ has) off_place.found));
      }

  turned : TurnsOff s.node t.node → Leads w y
  turned (TurnsOff.stays e) = still x y w n life s t mirrors at (runs t) (inl refl) is (record { node = e; own = λ z d has. ap (λ m. get m z) (sym own) ∙ has })
  turned (TurnsOff.opens_and_closes mid link o e) = as_before (off_opened s.node t.node mid link off_sound o e)
  turned (TurnsOff.dials_and_closes mid link outs d sound e) = as_before (off_dialled s.node t.node mid link outs d sound e)

module _ (x y : System) (w : WorldState) (n life : ℕ) (s t : Stage) (tells : Bool) (mode : SyncMode) (wired : IsWired x) (mirrors : Mirrors x w) where
  pub turns_away_leads : IsTurn x n life s turns_away t y → Happens tells mode s turns_away t → Leads w y
  turns_away_leads turn h = turned x y w n life s t wired mirrors turn.at
      (turn.is ∙ ap (λ cs. record { servers = slice_set x.servers n (record { life = life; doing = runs t }); connections = cs; ids = x.ids }) turn.goes)
      (ap (λ (z : LoopState). z.connections) h.own) h.node

  pub misses_dial_leads : IsTurn x n life s misses_dial t y → Happens tells mode s misses_dial t → Leads w y
  misses_dial_leads turn h = turned x y w n life s t wired mirrors turn.at
      (turn.is ∙ ap (λ cs. record { servers = slice_set x.servers n (record { life = life; doing = runs t }); connections = cs; ids = x.ids }) turn.goes)
      (ap (λ (z : LoopState). z.connections) h.own) h.node

-- ---- a connection comes
nil_front : (front rest : List ℕ) → [] ≡ front ++ rest → front ≡ []
nil_front [] rest e = refl
nil_front (z ∷ front) rest e = absurd (cc)

accepted_other : (g : Side) (n : ℕ) (link : LinkId) (e : End) (k : Connection) (l : Link) → g ≢ side.Server → SameHalf g k l (accepted_by e k) (served_by n link l)
accepted_other side.Server n link e k l ne = absurd (ne refl)
accepted_other side.Opener n link e k l ne = record { sent = refl; written = refl; taken = refl; read = refl; dialler = refl; serving = λ q. absurd (ne q) }

module _ (x y : System) (w : WorldState) (n life : ℕ) (s t : Stage) (wired : IsWired x) (unread : AreUnread x.connections) (mirrors : Mirrors x w) (socket link : LinkId)
    (at : IsAt x n life s) (h : Joins socket link s t) (cs : List Connection)
    (is : y ≡ record { servers = slice_set x.servers n (record { life = life; doing = runs t }); connections = cs; ids = x.ids }) where
  place : Stands w n s
  place = stands x w n life s mirrors at

  abbrev old : Slot
  old = place.slot

  abbrev new : Slot
  new = record old { node = t.node }

  abbrev mine : End
  mine = end_of n life socket

  running : IsRunning w n old
  running = record { at = place.found; up = ap (λ (z : NodeState). z.core.up) place.node ∙ (wired.kept n life s at).up }

  opens : Opens old.node link t.node
  opens = subst (λ z. Opens z link t.node) (sym place.node) h.node

  sound : IsSound t.node
  sound = opened_sound old.node t.node link opens (mirrors.world.nodes n old place.found running.up)

  follow : t.node.follow ≡ old.node.follow
  follow = ap (λ (z : NodeState). z.follow) opens.node

  servers : y.servers ≡ slice_set x.servers n (record { life = life; doing = runs t })
  servers = ap (λ (z : System). z.servers) is

  connections : y.connections ≡ cs
  connections = ap (λ (z : System). z.connections) is

  ids : (id : List ℕ) → is_spent w.book id ≡ true → is_taken y.ids id ≡ true
  ids id spent = ap (λ (z : System). is_taken z.ids id) is ∙ mirrors.ids id spent

  -- the links that the loop has are older than the new one
  other_name : (z name : LinkId) (d : ConnectionState) → connection_at s.own z ≡ Some d → d.link ≡ Some name → name ≢ link
  other_name z name d there e same =
      let before = (wired.kept n life s at).older z d name there e in
      let now : link.generation ≡ s.node.ends.opened = h.node.generation in
      let one : name.generation ≡ link.generation = ap (λ (q : LinkId). q.generation) same in
      omega (arith, before, now, one)

  names : (z : LinkId) (c : ℕ) (d : ConnectionState) → connection_at s.own z ≡ Some d → KeepsNames old new c d
  names z c d there = record {
    opener = λ name e f. record { named = ap name_of follow ∙ f.named; dialled = f.dialled };
    follows = λ name f. record { named = ap name_of (sym follow) ∙ f.named; dialled = f.dialled };
    none = λ name e. none_as old.node t.node name (open_other old.node t.node link name opens (other_name z name d there e));
  }

  -- .. and so are the sockets of the server's ends
  other_socket : (c : ℕ) (g : Side) (k : Connection) (z : LinkId) → HasEnd x.connections c g k (end_of n life z) → z ≢ socket
  other_socket c g k z end same =
      let before = wired.older c g k (end_of n life z) s end at in
      let now : socket.generation ≡ s.wire.opened = h.wire.generation in
      let one : z.generation ≡ socket.generation = ap (λ (q : LinkId). q.generation) same in
      omega (arith, before, now, one)

  its_own : (d : ConnectionState) → connection_at t.own socket ≡ Some d → begun link ≡ d
  its_own d has = some_is (begun link) d (sym (put_here s.own.connections socket (begun link)) ∙ (ap (λ m. get m socket) (sym h.connections) ∙ has))

  was_own : (z : LinkId) (d : ConnectionState) → z ≢ socket → connection_at t.own z ≡ Some d → connection_at s.own z ≡ Some d
  was_own z d ne has = sym (put_other s.own.connections socket (begun link) z ne) ∙ (ap (λ m. get m z) (sym h.connections) ∙ has)

  -- an end that was there
  stays : (v : WorldState) (c : ℕ) (g : Side) (k m : Connection) (z : LinkId) (l j : Link) (d : ConnectionState) → HasEnd x.connections c g k (end_of n life z) → slice_get w.links c ≡ Some l → slice_get v.links c ≡ Some j
      → SameHalf g k l m j → connection_at t.own z ≡ Some d → IsLive v n new c m j g d
  stays v c g k m z l j d end was now same has =
      let before = was_own z d (other_socket c g k z end) has in
      live_kept w v n old new c k m l j d (names z c d before) was now g same (mirrors.live c g k (end_of n life z) l s d old end was at before place.found)

  socket_of : (z : LinkId) → ◌≡◌ {A = Option End} (Some mine) (Some (end_of n life z)) → socket ≡ z
  socket_of z e = ap (λ (q : End). q.socket) (some_is mine (end_of n life z) e)

  -- a client's
  module _ (goes : cs ≡ x.connections ++ of_client mine ∷ []) where
    abbrev v : WorldState
    v = opened w n old t.node link

    abbrev j : Link
    j = opened_link n link

    call : ClientCall w n v (Ok tt)
    call = Clients.comes (record { slot = old; running = running; name = link; node = t.node; opens = opens; is = refl })

    found : slice_get v.links (length x.connections) ≡ Some j
    found = ap (slice_get v.links) (sym mirrors.as_many_links) ∙ push_here w.links j

    line : IsLine (of_client mine) j
    line = record {
      asked = record { rest = []; is = refl };
      answered = record { rest = []; is = refl };
      waits = λ e d none. absurd (no_some mine (sym none));
      served = λ e same. (refl, ap (λ (q : End). q.server) (some_is mine e same));
      client = λ none. (refl, refl);
      dialled = λ e d. absurd (no_some e d);
    }

    owned : (g : Side) (e : End) → end_at g (of_client mine) ≡ Some e → e.server ≡ n
    owned side.Server e has = ap (λ (q : End). q.server) (sym (some_is mine e has))
    owned side.Opener e has = absurd (no_some e has)

    fresh : IsLive v n new (length x.connections) (of_client mine) j side.Server (begun link)
    fresh = record {
      sent = refl;
      side = IsSide.is_open link refl (record { link = j; at = record { found = found; serving = refl }; to = refl; named = refl }) (λ d e. absurd (no_some d e));
    }

    last : (g : Side) (z : LinkId) (d : ConnectionState) → end_at g (of_client mine) ≡ Some (end_of n life z) → connection_at t.own z ≡ Some d → IsLive v n new (length x.connections) (of_client mine) j g d
    last side.Server z d has now = subst (λ q. IsLive v n new (length x.connections) (of_client mine) j side.Server q) (its_own d (ap (connection_at t.own) (socket_of z has) ∙ now)) fresh
    last side.Opener z d has now = absurd (no_some (end_of n life z) has)

    client_joins : Leads w y
    client_joins =
        let world = client_keeps w v n (Ok tt) mirrors.world call in
        record {
          worlds = v ∷ [];
          run = (came w v n tt call, world, tt);
          mirrors = rebuilt_more x y w v n life s t (runs t) old new mirrors at servers (inl refl) world place.found refl refl (λ r. refl) refl (of_client mine) j (connections ∙ goes) refl line ids owned
              (λ g z d r has now. last g z d has now)
              (λ c g k z l d r end was now has. stays v c g k k z l l d end was now (same_half g k l) has);
        }

  -- one that waited
  module _ (b : ℕ) (k : Connection) (l : Link) (dialler : End) (there : slice_get x.connections b ≡ Some k) (at_link : slice_get w.links b ≡ Some l) (dialled : k.dialler ≡ Some dialler) (none : k.acceptor ≡ None)
      (goes : cs ≡ slice_set x.connections b (accepted_by mine k)) where
    abbrev u : WorldState
    u = accepting w n old t.node link b l

    abbrev i : Link
    i = served_by n link l

    was_line : IsLine k l
    was_line = mirrors.lines b k l there at_link

    waiting : IsWaiting w b l
    waiting = record { found = at_link; waits = was_line.waits dialler dialled none }

    waited_line : IsLine (accepted_by mine k) i
    waited_line = record {
      asked = was_line.asked;
      answered = was_line.answered;
      waits = λ e d nobody. absurd (no_some mine (sym nobody));
      served = λ e same. (refl, ap (λ (q : End). q.server) (some_is mine e same));
      client = was_line.client;
      dialled = was_line.dialled;
    }

    -- nothing was sent to the dialler yet, and nothing taken of what it sent
    nothing : (l.tell.sent ≡ k.answered.written ++ []) × (l.ask.taken ≡ k.asked.read)
    nothing =
        let raw = mirrors.world.untouched b l at_link waiting.waits in
        let sent : l.tell.sent ≡ [] = ap (λ z. z.sent) raw.tell in
        let front : k.answered.written ≡ [] = nil_front k.answered.written was_line.answered.rest (sym sent ∙ was_line.answered.is) in
        (sent ∙ ap (λ z. z ++ []) (sym front), raw.ask ∙ sym (unread.unread b k there none))

    waited_fresh : slice_get u.links b ≡ Some i → IsLive u n new b (accepted_by mine k) i side.Server (begun link)
    waited_fresh now = record {
      sent = nothing.0;
      side = IsSide.is_open link refl (record { link = i; at = record { found = now; serving = refl }; to = refl; named = refl }) (λ d e. nothing.1);
    }

    here : slice_get u.links b ≡ Some i → (g : Side) (z : LinkId) (d : ConnectionState) → end_at g (accepted_by mine k) ≡ Some (end_of n life z) → connection_at t.own z ≡ Some d → IsLive u n new b (accepted_by mine k) i g d
    here now side.Server z d has is_own =
        subst (λ q. IsLive u n new b (accepted_by mine k) i side.Server q) (its_own d (ap (connection_at t.own) (socket_of z has) ∙ is_own)) (waited_fresh now)
    here now side.Opener z d has is_own =
        stays u b side.Opener k (accepted_by mine k) z l i d (record { found = there; has = has }) at_link now (accepted_other side.Opener n link mine k l (λ q. cc)) is_own

    others : (g : Side) (e : End) → end_at g (accepted_by mine k) ≡ Some e → e.server ≢ n → (end_at g k ≡ Some e) × SameHalf g k l (accepted_by mine k) i
    others side.Server e has apart = absurd (apart (ap (λ (q : End). q.server) (sym (some_is mine e has))))
    others side.Opener e has apart = (has, accepted_other side.Opener n link mine k l (λ q. cc))

    waited_joins : Leads w y
    waited_joins =
        let now : slice_get u.links b ≡ Some i = set_here w.links b i l at_link in
        let world = accepts_keep w b n l old link t.node mirrors.world waiting running sound opens in
        record {
          worlds = u ∷ [];
          run = (run.Happens.an_event (events.Event.Accept b n) (λ book holds. accepts w book b n l old link t.node holds waiting running opens), world, tt);
          mirrors = rebuilt_one x y w u n life s t (runs t) old new mirrors at servers (inl refl) world place.found refl refl (λ r. refl) refl b k (accepted_by mine k) l i there at_link (connections ∙ goes) refl
              waited_line ids others (λ g z d r has is_own. here now g z d has is_own)
              (λ c g m z q d apart r end was after has. stays u c g m m z q q d end was after (same_half g m q) has);
        }

  joined : Accepts x.connections mine cs → Leads w y
  joined (Accepts.a_clients goes) = client_joins goes
  joined (Accepts.one_that_waits b k dialler there dialled none goes) =
      let l = its_link x w n life s mirrors at b k there in waited_joins b k l.0 dialler there l.1 dialled none goes

module _ (x y : System) (w : WorldState) (n life : ℕ) (s t : Stage) (tells : Bool) (mode : SyncMode) (wired : IsWired x) (unread : AreUnread x.connections) (mirrors : Mirrors x w) where
  pub joins_leads : (socket link : LinkId) → IsTurn x n life s (joins socket link) t y → Happens tells mode s (joins socket link) t → Leads w y
  joins_leads socket link turn h = joined x y w n life s t wired unread mirrors socket link turn.at h turn.connections turn.is turn.goes
