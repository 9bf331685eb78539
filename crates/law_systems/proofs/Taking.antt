-- Bytes that were read come to the node. In the World the link brings them; a client sends them first; and where the end isn't open there the node drops them.
use Rattle.std.proofs.Common.{◌≡◌, ◌≢◌, ◌≤◌, ◌<◌, ◌+◌, ◌-◌, ◌++◌, inl, ℕ, List, [], ◌∷◌, Bool, true, Option, None, Some, Ok, length, take, drop, length-append, length-drop, append_assoc, take_all, refl, sym, ap, subst, ◌∙◌, arith, if◌then◌else◌}
use Rattle.std.specs.Prelude.{slice_get, slice_set}
use Rattle.std.proofs.lemmas.List.{set-set}
use Rattle.std.specs.FinMap.{get}
use Rattle.mr_links.specs.declared.link_id.LinkId.{LinkId}
use Rattle.mr_node_links.specs.State.{EndState, full, serves, unread_in}
use Rattle.mr_node_links.specs.State.EndState.{client as alone, waiting, replica, upstream, shut}
use Rattle.mr_file.specs.declared.sync_mode.SyncMode.{SyncMode}
use Rattle.mr_follower.specs.State.{FollowState}
use Rattle.mr_replication.specs.State.{name_of}
use Rattle.mr_node_spec.specs.State.{NodeState, end_of as node_end, room_at}
use Rattle.mr_node_spec.specs.LinkRows.{Feeds}
use Rattle.mr_node.specs.Calls.{FitsMore}
use Rattle.mr_connections.specs.State.{ConnectionState}
use Rattle.mr_loop.specs.Stage.{LoopState, Stage, connection_at}
use Rattle.mr_loop.specs.Causes.{HasRoom}
use Rattle.mr_loop.specs.Rows.{Happens, Takes, takes}
use Rattle.mr_loop.proofs.Waiting.{by_name}
use Rattle.law_refinement.specs.Way.{sent_on, taken_on}
use Rattle.law_refinement.specs.State.{BookEntry, Link, Slot, WorldState}
use Rattle.law_refinement.specs.Carrying.{fed_caller, fed_server}
use Rattle.law_refinement.specs.Events.{IsRunning}
use Rattle.law_refinement.proofs.Places.{set_here, set_same, some_is}
use Rattle.law_refinement.proofs.Unread.{drop_front, take_front}
use Rattle.mr_world_parts.specs.AtNode.{is_spent}
use Rattle.mr_links.specs.declared.side.Side.{Side}
use Rattle.mr_links.specs.declared.side.Side.TheVariants as side
use Rattle.mr_world.specs.Calls.{CommandCall, put_link}
use Rattle.mr_world.specs.Linking.{DeliverCall, Delivers}
use Rattle.mr_world.specs.Hearing.{ListenCall, Tells}
use Rattle.mr_world.proofs.Feeding.{deliver_keeps}
use Rattle.mr_world.proofs.Happened.{heard, listened, sent}
use Rattle.mr_world.proofs.Kept.{command_keeps}
use Rattle.mr_world.proofs.Telling.{listen_keeps}
use Rattle.law_servers.specs.Worlds.{IsEndOf, NoneOpen, way_to}
use Rattle.law_servers.proofs.Calling.{no_longer}
use Rattle.law_systems.specs.System.{Connection, End, IsAt, System, end_at, from_side, is_taken, runs, to_side, with_pipe_to}
use Rattle.law_systems.specs.Network.{HasEnd, IsNext, Reads, end_of, read_on}
use Rattle.law_systems.proofs.Wired.{IsWired}
use Rattle.law_systems.proofs.Mirrors.{IsClosedSide, IsLine, IsLive, IsSide, IsTurn, Leads, Mirrors}
use Rattle.law_systems.proofs.Rebuilding.{KeepsNames, SameHalf, same_names}
use Rattle.law_systems.proofs.Living.{Stands, its_link, stands}
use Rattle.law_systems.proofs.OneEnd.{at_one_end}
use Rattle.law_systems.proofs.Quiet.{still}
use Rattle.law_systems.proofs.Apart.{no_some}
use Rattle.law_systems.proofs.Ending.{follows_by}

-- ---- what comes next of what was written comes next of what was sent
comes : (front rest sent bytes : List ℕ) (taken read : ℕ) → sent ≡ front ++ rest → taken ≡ read → read + length bytes ≤ length front → bytes ≡ take (length bytes) (drop read front)
    → (taken + length bytes ≤ length sent) × (bytes ≡ take (length bytes) (drop taken sent))
comes front rest sent bytes taken read is same within next =
    let size : length sent ≡ length front + length rest = ap (λ z. length z) is ∙ length-append front rest in
    let left = length-drop read front in (
      omega (arith, size, same, within),
      next
          ∙ (sym (ap (take (length bytes)) (drop_front read front rest (omega (arith, within))) ∙ take_front (length bytes) (drop read front) rest (omega (arith, left, within)))
          ∙ (ap (λ z. take (length bytes) (drop read z)) (sym is) ∙ ap (λ z. take (length bytes) (drop z sent)) (sym same))),
    )

drop_whole : (xs ys : List ℕ) → drop (length xs) (xs ++ ys) ≡ ys
drop_whole [] ys = refl
drop_whole (x ∷ xs) ys = drop_whole xs ys

-- what was sent just now comes next, where all before was taken
comes_last : (sent bytes : List ℕ) (taken : ℕ) → taken ≡ length sent → (taken + length bytes ≤ length (sent ++ bytes)) × (bytes ≡ take (length bytes) (drop taken (sent ++ bytes)))
comes_last sent bytes taken all =
    let size = length-append sent bytes in
    (omega (arith, all, size), sym (ap (λ z. take (length bytes) (drop z (sent ++ bytes))) all ∙ (ap (take (length bytes)) (drop_whole sent bytes) ∙ take_all (length bytes) bytes (omega arith))))

-- ---- no more bytes come than an end takes
fits_in : (unread : List ℕ) (room count n : ℕ) → ◌≡◌ {A = Option ℕ} (Some (full - length unread)) (Some room) → count ≤ room → n ≤ count → n ≢ 0 → full < length unread + n → ⊥
fits_in unread room count n is few less some past = let left : full - length unread ≡ room = some_is (full - length unread) room is in some (omega (arith, left, few, less, past))

fits_at : (end : EndState) (room count n : ℕ) → serves end ≡ true → room_at (Some end) ≡ Some room → count ≤ room → n ≤ count → n ≢ 0 → full < length (unread_in end) + n → ⊥
fits_at (alone unread) room count n served is few less some over = fits_in unread room count n is few less some over
fits_at (waiting t unread) room count n served is few less some over = fits_in unread room count n is few less some over
fits_at (replica unread) room count n served is few less some over = fits_in unread room count n is few less some over
fits_at upstream room count n served is few less some over = absurd (cc)
fits_at shut room count n served is few less some over = absurd (cc)

fits : (a : NodeState) (l : LinkId) (count n : ℕ) → HasRoom a l count → n ≤ count → FitsMore a l n
fits a l count n has less some t =
    let is : room_at (Some t.end) ≡ Some has.room = sym (ap room_at t.found) ∙ (sym (ap (λ b. if b then room_at (node_end a l) else None) t.up) ∙ has.is) in
    fits_at t.end has.room count n t.served is has.fits less some t.over

-- ---- bytes change nothing of whom a node follows
fed_name : (a b : NodeState) (l : LinkId) (bytes : List ℕ) → Feeds a l bytes b → name_of b.follow ≡ name_of a.follow
fed_name a b l bytes f = go a.follow refl
  where
    go : (o : Option (LinkId × FollowState)) → a.follow ≡ o → name_of b.follow ≡ name_of a.follow
    go None e = ap name_of (f.follow (λ q. no_some l (ap name_of (sym e) ∙ q)))
    go (Some p) e = by_name (name_of b.follow ≡ name_of a.follow) p.0 l
        (λ same. ap name_of (f.heard p.1 (e ∙ ap (λ (z : LinkId). Some (z, p.1)) same)) ∙ (ap (λ z. Some z) (sym same) ∙ ap name_of (sym e)))
        (λ ne. ap name_of (f.follow (λ q. ne (some_is p.0 l (ap name_of (sym e) ∙ q)))))

none_fed : (a b : NodeState) (l name : LinkId) (bytes : List ℕ) → Feeds a l bytes b → name ≢ l → NoneOpen a name → NoneOpen b name
none_fed a b l name bytes f ne (NoneOpen.absent e) = NoneOpen.absent (f.others.stay name ne ∙ e)
none_fed a b l name bytes f ne (NoneOpen.shut e) = NoneOpen.shut (record { is = f.others.stay name ne ∙ e.is })

-- ---- what was read on a connection, and taken on its link
abbrev took_on : Side → List ℕ → Connection → Connection
took_on a bytes k = with_pipe_to a (read_on bytes (to_side a k)) k

abbrev taken_at : Side → ℕ → Link → Link
taken_at side.Server count l = record l { ask = taken_on count l.ask }
taken_at side.Opener count l = record l { tell = taken_on count l.tell }

took_other : (a g : Side) (bytes : List ℕ) (k : Connection) (l : Link) → g ≢ a → SameHalf g k l (took_on a bytes k) (taken_at a (length bytes) l)
took_other side.Server side.Server bytes k l ne = absurd (ne refl)
took_other side.Server side.Opener bytes k l ne = record { sent = refl; written = refl; taken = refl; read = refl; dialler = refl; serving = λ e. (refl, refl, refl) }
took_other side.Opener side.Server bytes k l ne = record { sent = refl; written = refl; taken = refl; read = refl; dialler = refl; serving = λ e. (refl, refl, refl) }
took_other side.Opener side.Opener bytes k l ne = absurd (ne refl)

-- .. where nothing is taken
read_other : (a g : Side) (bytes : List ℕ) (k : Connection) (l : Link) → g ≢ a → SameHalf g k l (took_on a bytes k) l
read_other side.Server side.Server bytes k l ne = absurd (ne refl)
read_other side.Server side.Opener bytes k l ne = record { sent = refl; written = refl; taken = refl; read = refl; dialler = refl; serving = λ e. (refl, refl, refl) }
read_other side.Opener side.Server bytes k l ne = record { sent = refl; written = refl; taken = refl; read = refl; dialler = refl; serving = λ e. (refl, refl, refl) }
read_other side.Opener side.Opener bytes k l ne = absurd (ne refl)

took_ends : (a g : Side) (bytes : List ℕ) (k : Connection) → end_at g (took_on a bytes k) ≡ end_at g k
took_ends side.Server side.Server bytes k = refl
took_ends side.Server side.Opener bytes k = refl
took_ends side.Opener side.Server bytes k = refl
took_ends side.Opener side.Opener bytes k = refl

took_written : (a : Side) (bytes : List ℕ) (k : Connection) → (from_side a (took_on a bytes k)).written ≡ (from_side a k).written
took_written side.Server bytes k = refl
took_written side.Opener bytes k = refl

-- somebody dialled it, so that it is no client's
took_line : (a : Side) (bytes : List ℕ) (k : Connection) (l : Link) (dialler : End) → k.dialler ≡ Some dialler → IsLine k l → IsLine (took_on a bytes k) (taken_at a (length bytes) l)
took_line side.Server bytes k l dialler e line =
    record { asked = line.asked; answered = line.answered; waits = line.waits; served = line.served; client = λ none. absurd (no_some dialler (sym none ∙ e)); dialled = line.dialled }
took_line side.Opener bytes k l dialler e line =
    record { asked = line.asked; answered = line.answered; waits = line.waits; served = line.served; client = λ none. absurd (no_some dialler (sym none ∙ e)); dialled = line.dialled }

read_line : (a : Side) (bytes : List ℕ) (k : Connection) (l : Link) → IsLine k l → IsLine (took_on a bytes k) l
read_line side.Server bytes k l line = record { asked = line.asked; answered = line.answered; waits = line.waits; served = line.served; client = line.client; dialled = line.dialled }
read_line side.Opener bytes k l line = record { asked = line.asked; answered = line.answered; waits = line.waits; served = line.served; client = line.client; dialled = line.dialled }

-- a client sent more, all of which was taken
abbrev client_sent : List ℕ → Link → Link
client_sent bytes l = record l { ask = sent_on bytes l.ask }

abbrev client_took : List ℕ → Link → Link
client_took bytes l = record l { ask = taken_on (length bytes) (sent_on bytes l.ask) }

client_line : (bytes : List ℕ) (k : Connection) (l : Link) → k.dialler ≡ None → IsLine k l → IsLine k (client_took bytes l)
client_line bytes k l none line = record {
  asked = record { rest = line.asked.rest ++ bytes; is = ap (λ z. z ++ bytes) line.asked.is ∙ append_assoc k.asked.written line.asked.rest bytes };
  answered = line.answered;
  waits = line.waits;
  served = line.served;
  client = λ e. ((line.client e).0, (let size = length-append l.ask.sent bytes in let all = (line.client e).1 in omega (arith, size, all)));
  dialled = line.dialled;
}

module _ (x y : System) (w : WorldState) (n life : ℕ) (s t : Stage) (tells : Bool) (mode : SyncMode) (wired : IsWired x) (mirrors : Mirrors x w) (socket : LinkId) (bytes : List ℕ)
    (at : IsAt x n life s) (h : Takes tells socket bytes s t) (cs : List Connection)
    (is : y ≡ record { servers = slice_set x.servers n (record { life = life; doing = runs t }); connections = cs; ids = x.ids }) where
  place : Stands w n s
  place = stands x w n life s mirrors at

  abbrev old : Slot
  old = place.slot

  abbrev new : Slot
  new = record old { node = t.node }

  abbrev link : LinkId
  link = h.link

  abbrev held : ConnectionState
  held = h.read.connection

  abbrev count : ℕ
  count = length bytes

  running : IsRunning w n old
  running = record { at = place.found; up = ap (λ (z : NodeState). z.core.up) place.node ∙ (wired.kept n life s at).up }

  feeds : Feeds old.node link bytes t.node
  feeds = subst (λ z. Feeds z link bytes t.node) (sym place.node) h.node.feeds

  few : FitsMore old.node link count
  few = subst (λ z. FitsMore z link count) (sym place.node) (fits s.node link h.count count h.room (subst (λ (z : List ℕ). length z ≤ h.count) (sym h.bytes_are) (no_longer h.count h.buffer)))

  own : (z : LinkId) (d : ConnectionState) → connection_at t.own z ≡ Some d → connection_at s.own z ≡ Some d
  own z d now = ap (λ (o : LoopState). get o.connections z) (sym h.own) ∙ now

  its_own : (d : ConnectionState) → connection_at t.own socket ≡ Some d → held ≡ d
  its_own d now = some_is held d (sym h.read.is ∙ own socket d now)

  other_name : (z name : LinkId) (d : ConnectionState) → z ≢ socket → connection_at s.own z ≡ Some d → d.link ≡ Some name → name ≢ link
  other_name z name d ne there e same = ne ((wired.kept n life s at).apart.apart z socket d held link there h.read.is (e ∙ ap (λ q. Some q) same) h.read.linked)

  names : (z : LinkId) (c : ℕ) (d : ConnectionState) → z ≢ socket → connection_at s.own z ≡ Some d → KeepsNames old new c d
  names z c d ne there = record {
    opener = λ name e f. record { named = fed_name old.node t.node link bytes feeds ∙ f.named; dialled = f.dialled };
    follows = λ name f. record { named = sym (fed_name old.node t.node link bytes feeds) ∙ f.named; dialled = f.dialled };
    none = λ name e f. none_fed old.node t.node link name bytes feeds (other_name z name d ne there e) f;
  }

  servers : y.servers ≡ slice_set x.servers n (record { life = life; doing = runs t })
  servers = ap (λ (z : System). z.servers) is

  ids : (v : WorldState) → v.book ≡ w.book → (id : List ℕ) → is_spent v.book id ≡ true → is_taken y.ids id ≡ true
  ids v book id spent = ap (λ (z : System). is_taken z.ids id) is ∙ mirrors.ids id (ap (λ (z : List BookEntry). is_spent z id) (sym book) ∙ spent)

  -- ---- where no end is open in the World: the node drops them
  dropped : NoneOpen old.node link → t.node ≡ s.node
  dropped (NoneOpen.absent e) = absurd (h.node.there (ap (λ z. node_end z link) (sym place.node) ∙ e))
  dropped (NoneOpen.shut e) = feeds.at_shut e ∙ place.node

  closed_reads : (b : ℕ) (a : Side) (k : Connection) (l : Link) → HasEnd x.connections b a k (end_of n life socket) → slice_get w.links b ≡ Some l → cs ≡ slice_set x.connections b (took_on a bytes k)
      → IsClosedSide old b l a → NoneOpen old.node link → IsLive w n old b k l a held → Leads w y
  closed_reads b a k l end found goes ended none live = record {
    worlds = [];
    run = tt;
    mirrors = at_one_end x y w w n life s t old old wired mirrors at servers mirrors.world place.found (sym (set_same w.slots n old place.found)) refl (place.node ∙ sym (dropped none)) (ids w refl)
        socket (λ z d ne now. own z d now) (λ z c d ne there. same_names old c d) b a k (took_on a bytes k) l l end found (ap (λ (z : System). z.connections) is ∙ goes) (sym (set_same w.links b l found))
        (λ g e ne has. read_other a g bytes k l ne) (λ g. took_ends a g bytes k) (read_line a bytes k l (mirrors.lines b k l end.found found))
        (λ d has now. subst (λ z. IsLive w n old b (took_on a bytes k) l a z) (its_own d has) (record {
          sent = live.sent ∙ ap (λ z. z ++ held.waiting) (sym (took_written a bytes k));
          side = IsSide.is_closed ended (λ name e. subst (NoneOpen old.node) (some_is link name (sym h.read.linked ∙ e)) none);
        }));
  }

  -- ---- where one is
  -- another server's bytes, which come next
  server_reads : (a : Side) (b : ℕ) (k : Connection) (l : Link) (dialler : End) → HasEnd x.connections b a k (end_of n life socket) → slice_get w.links b ≡ Some l → k.dialler ≡ Some dialler → IsNext bytes (to_side a k)
      → cs ≡ slice_set x.connections b (took_on a bytes k) → IsEndOf w n old link b a → (way_to a l).taken ≡ (to_side a k).read → IsLive w n old b k l a held → Leads w y
  server_reads side.Server b k l dialler end found dialled next goes served same live =
      let one : served.link ≡ l = some_is served.link l (sym served.at.found ∙ found) in
      let to : l.to ≡ n = ap (λ (z : Link). z.to) (sym one) ∙ served.to in
      let named : l.name ≡ link = ap (λ (z : Link). z.name) (sym one) ∙ served.named in
      let serving : l.serving ≡ true = ap (λ (z : Link). z.serving) (sym one) ∙ served.at.serving in
      let line = mirrors.lines b k l end.found found in
      let brings = comes k.asked.written line.asked.rest l.ask.sent bytes l.ask.taken k.asked.read line.asked.is same next.written next.next in
      let v = fed_server w n old t.node b l count in
      let call : DeliverCall w b count v (Ok tt) = Delivers.hears (record {
        link = l;
        slot = old;
        can = record { served = record { found = found; serving = serving; at = ap (slice_get w.slots) to ∙ place.found; up = running.up }; sent = brings.0 };
        node = t.node;
        feeds = subst (λ z. Feeds old.node l.name z t.node) brings.1 (subst (λ z. Feeds old.node z bytes t.node) (sym named) feeds);
        sound = h.node.sound;
        few = subst (λ z. FitsMore old.node z count) (sym named) few;
        is = ap (λ i. fed_server w i old t.node b l count) (sym to);
      }) in
      record {
        worlds = v ∷ [];
        run = (heard w v b count tt call, deliver_keeps w v b count (Ok tt) mirrors.world call, tt);
        mirrors = at_one_end x y w v n life s t old new wired mirrors at servers (deliver_keeps w v b count (Ok tt) mirrors.world call) place.found refl refl refl (ids v refl)
            socket (λ z d ne now. own z d now) names b side.Server k (took_on side.Server bytes k) l (taken_at side.Server count l) end found (ap (λ (z : System). z.connections) is ∙ goes) refl
            (λ g e ne has. took_other side.Server g bytes k l ne) (λ g. took_ends side.Server g bytes k) (took_line side.Server bytes k l dialler dialled line)
            (λ d has now. subst (λ z. IsLive v n new b (took_on side.Server bytes k) (taken_at side.Server count l) side.Server z) (its_own d has) (record {
              sent = live.sent;
              side = IsSide.is_open link h.read.linked (record { link = taken_at side.Server count l; at = record { found = now; serving = serving }; to = to; named = named }) (λ z e. ap (λ i. i + count) same);
            }));
      }
  server_reads side.Opener b k l dialler end found dialled next goes followed same live =
      let f = follows_by old.node.follow link followed.named in
      let line = mirrors.lines b k l end.found found in
      let brings = comes k.answered.written line.answered.rest l.tell.sent bytes l.tell.taken k.answered.read line.answered.is same next.written next.next in
      let v = fed_caller w n old t.node b l count in
      let call : ListenCall w b count v (Ok tt) = Tells.listens (record {
        number = n;
        link = l;
        slot = old;
        name = link;
        reader = f.0;
        told = record {
          by = record { followed = record { at = place.found; found = ap (slice_get w.links) followed.dialled ∙ found; up = running.up }; follows = f.1; dialled = followed.dialled };
          sent = brings.0;
        };
        node = t.node;
        feeds = subst (λ z. Feeds old.node link z t.node) brings.1 feeds;
        sound = h.node.sound;
        is = refl;
      }) in
      record {
        worlds = v ∷ [];
        run = (listened w v b count tt call, listen_keeps w v b count (Ok tt) mirrors.world call, tt);
        mirrors = at_one_end x y w v n life s t old new wired mirrors at servers (listen_keeps w v b count (Ok tt) mirrors.world call) place.found refl refl refl (ids v refl)
            socket (λ z d ne now. own z d now) names b side.Opener k (took_on side.Opener bytes k) l (taken_at side.Opener count l) end found (ap (λ (z : System). z.connections) is ∙ goes) refl
            (λ g e ne has. took_other side.Opener g bytes k l ne) (λ g. took_ends side.Opener g bytes k) (took_line side.Opener bytes k l dialler dialled line)
            (λ d has now. subst (λ z. IsLive v n new b (took_on side.Opener bytes k) (taken_at side.Opener count l) side.Opener z) (its_own d has) (record {
              sent = live.sent;
              side = IsSide.is_open link h.read.linked (record { named = fed_name old.node t.node link bytes feeds ∙ followed.named; dialled = followed.dialled }) (λ z e. ap (λ i. i + count) same);
            }));
      }

  -- a client's, which it sends first
  client_reads : (a : Side) (b : ℕ) (k : Connection) (l : Link) → HasEnd x.connections b a k (end_of n life socket) → slice_get w.links b ≡ Some l → k.dialler ≡ None → cs ≡ x.connections → IsEndOf w n old link b a
      → IsLive w n old b k l a held → Leads w y
  client_reads side.Opener b k l end found none goes followed live = absurd (no_some (end_of n life socket) (sym none ∙ end.has))
  client_reads side.Server b k l end found none goes served live =
      let one : served.link ≡ l = some_is served.link l (sym served.at.found ∙ found) in
      let to : l.to ≡ n = ap (λ (z : Link). z.to) (sym one) ∙ served.to in
      let named : l.name ≡ link = ap (λ (z : Link). z.name) (sym one) ∙ served.named in
      let serving : l.serving ≡ true = ap (λ (z : Link). z.serving) (sym one) ∙ served.at.serving in
      let line = mirrors.lines b k l end.found found in
      let brings = comes_last l.ask.sent bytes l.ask.taken (line.client none).1 in
      let u = put_link w b (client_sent bytes l) in
      let first : CommandCall w b bytes u (Ok tt) = record { link = l; at = record { found = found; asking = (line.client none).0 }; is = refl } in
      let between = command_keeps w u b bytes (Ok tt) mirrors.world first in
      let v = fed_server u n old t.node b (client_sent bytes l) count in
      let call : DeliverCall u b count v (Ok tt) = Delivers.hears (record {
        link = client_sent bytes l;
        slot = old;
        can = record { served = record { found = set_here w.links b (client_sent bytes l) l found; serving = serving; at = ap (slice_get w.slots) to ∙ place.found; up = running.up }; sent = brings.0 };
        node = t.node;
        feeds = subst (λ z. Feeds old.node l.name z t.node) brings.1 (subst (λ z. Feeds old.node z bytes t.node) (sym named) feeds);
        sound = h.node.sound;
        few = subst (λ z. FitsMore old.node z count) (sym named) few;
        is = ap (λ i. fed_server u i old t.node b (client_sent bytes l) count) (sym to);
      }) in
      let world = deliver_keeps u v b count (Ok tt) between call in
      record {
        worlds = u ∷ v ∷ [];
        run = (sent w u b bytes tt first, between, (heard u v b count tt call, world, tt));
        mirrors = at_one_end x y w v n life s t old new wired mirrors at servers world place.found refl refl refl (ids v refl)
            socket (λ z d ne now. own z d now) names b side.Server k k l (client_took bytes l) end found (ap (λ (z : System). z.connections) is ∙ (goes ∙ sym (set_same x.connections b k end.found)))
            (set-set w.links b (client_sent bytes l) (client_took bytes l)) (λ g e ne has. nobody g e ne has) (λ g. refl) (client_line bytes k l none line)
            (λ d has now. subst (λ z. IsLive v n new b k (client_took bytes l) side.Server z) (its_own d has) (record {
              sent = live.sent;
              side = IsSide.is_open link h.read.linked (record { link = client_took bytes l; at = record { found = now; serving = serving }; to = to; named = named }) (λ z e. absurd (no_some z (sym none ∙ e)));
            }));
      }
    where
      -- no server is at the other side
      nobody : (g : Side) (e : End) → g ≢ side.Server → end_at g k ≡ Some e → SameHalf g k l k (client_took bytes l)
      nobody side.Server e ne has = absurd (ne refl)
      nobody side.Opener e ne has = absurd (no_some e (sym none ∙ has))

  -- ---- by whether one is
  by_server : (a : Side) (b : ℕ) (k : Connection) (l : Link) (dialler : End) → HasEnd x.connections b a k (end_of n life socket) → slice_get w.links b ≡ Some l → k.dialler ≡ Some dialler → IsNext bytes (to_side a k)
      → cs ≡ slice_set x.connections b (took_on a bytes k) → IsSide w n old b k l a held → IsLive w n old b k l a held → Leads w y
  by_server a b k l dialler end found dialled next goes (IsSide.is_open name e served taken) live =
      server_reads a b k l dialler end found dialled next goes (subst (λ z. IsEndOf w n old z b a) (some_is name link (sym e ∙ h.read.linked)) served) (taken dialler dialled) live
  by_server a b k l dialler end found dialled next goes (IsSide.is_closed ended none) live = closed_reads b a k l end found goes ended (none link h.read.linked) live

  by_client : (a : Side) (b : ℕ) (k : Connection) (l : Link) → HasEnd x.connections b a k (end_of n life socket) → slice_get w.links b ≡ Some l → k.dialler ≡ None → cs ≡ x.connections
      → IsSide w n old b k l a held → IsLive w n old b k l a held → Leads w y
  by_client a b k l end found nobody goes (IsSide.is_open name e served taken) live =
      client_reads a b k l end found nobody goes (subst (λ z. IsEndOf w n old z b a) (some_is name link (sym e ∙ h.read.linked)) served) live
  by_client a b k l end found nobody goes (IsSide.is_closed ended none) live = still x y w n life s t mirrors at (runs t) (inl refl)
      (is ∙ ap (λ z. record { servers = slice_set x.servers n (record { life = life; doing = runs t }); connections = z; ids = x.ids }) goes)
      (record { node = dropped (none link h.read.linked); own = own })

  reads : Reads x.connections (end_of n life socket) bytes cs → Leads w y
  reads (Reads.of_server b a k end dialler dialled next goes) =
      let l = its_link x w n life s mirrors at b k end.found in
      let live = mirrors.live b a k (end_of n life socket) l.0 s held old end l.1 at h.read.is place.found in
      by_server a b k l.0 dialler end l.1 dialled next goes live.side live
  reads (Reads.from_client b a k end nobody goes) =
      let l = its_link x w n life s mirrors at b k end.found in
      let live = mirrors.live b a k (end_of n life socket) l.0 s held old end l.1 at h.read.is place.found in
      by_client a b k l.0 end l.1 nobody goes live.side live

module _ (x y : System) (w : WorldState) (n life : ℕ) (s t : Stage) (tells : Bool) (mode : SyncMode) (wired : IsWired x) (mirrors : Mirrors x w) where
  pub takes_leads : (socket : LinkId) (bytes : List ℕ) → IsTurn x n life s (takes socket bytes) t y → Happens tells mode s (takes socket bytes) t → Leads w y
  takes_leads socket bytes turn h = reads x y w n life s t tells mode wired mirrors socket bytes turn.at h turn.connections turn.is turn.goes
