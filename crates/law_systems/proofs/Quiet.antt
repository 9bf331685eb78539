-- Events that change neither the node of a server nor its links in the World: what waited is written, a connection on which nothing waits is closed, or nothing that is seen happens.
use Rattle.std.proofs.Common.{◌≡◌, ◌≢◌, ◌++◌, ◌⊎◌, inl, inr, ℕ, ℤ, List, [], Bool, Some, drop, append_assoc, take-append-drop, refl, sym, ap, subst, ◌∙◌}
use Rattle.std.specs.Prelude.{slice_get, slice_set}
use Rattle.std.specs.Option.{option_map}
use Rattle.std.specs.FinMap.{get}
use Rattle.mr_links.specs.declared.link_id.LinkId.{LinkId}
use Rattle.mr_data.specs.declared.given.Given.{Given}
use Rattle.mr_file.specs.declared.sync_mode.SyncMode.{SyncMode}
use Rattle.mr_wire.specs.Wire.{count_of}
use Rattle.mr_node_spec.specs.State.{NodeState}
use Rattle.mr_connections.specs.State.{ConnectionState, changed, wrote}
use Rattle.mr_loop.specs.Stage.{LoopState, Stage, connection_at}
use Rattle.mr_loop.specs.Rows.{Happens, appends, closes, fails, finds_none, misses_tick, settles, waits, wakes, writes}
use Rattle.law_refinement.specs.State.{Link, WorldState}
use Rattle.law_refinement.proofs.Places.{set_same, some_is}
use Rattle.mr_links.specs.declared.side.Side.{Side}
use Rattle.mr_links.specs.declared.side.Side.TheVariants as side
use Rattle.law_systems.specs.System.{Connection, Doing, IsAt, System, end_at, from_side, gives_up, is_taken, runs, with_pipe_from}
use Rattle.law_systems.specs.Network.{end_of, written_on}
use Rattle.law_systems.proofs.Wired.{IsWired}
use Rattle.law_systems.proofs.Mirrors.{IsLine, IsLive, IsTurn, Leads, Mirrors, way_from}
use Rattle.law_systems.proofs.Rebuilding.{SameEnd, SameHalf, rebuilt_still, same_names, side_kept}
use Rattle.law_systems.proofs.Living.{Stands, its_link, stands}
use Rattle.law_systems.proofs.OneEnd.{at_one_end}
use Rattle.law_systems.proofs.Under.{changed_here, changed_other, removed}

-- ---- nothing of the node is another, and no connection, though one may be gone
pub record IsStill (s t : Stage) : Type 0 where
  pub node : t.node ≡ s.node
  pub own : (z : LinkId) (d : ConnectionState) → connection_at t.own z ≡ Some d → connection_at s.own z ≡ Some d

still_as : (s t : Stage) → t.node ≡ s.node → t.own.connections ≡ s.own.connections → IsStill s t
still_as s t node connections = record { node = node; own = λ z d is. ap (λ m. get m z) (sym connections) ∙ is }

-- .. where all is said of the stage
still_is : (s t u : Stage) → t ≡ u → u.node ≡ s.node → u.own.connections ≡ s.own.connections → IsStill s t
still_is s t u is node connections = still_as s t (ap (λ (z : Stage). z.node) is ∙ node) (ap (λ (z : Stage). z.own.connections) is ∙ connections)

module _ (x y : System) (w : WorldState) (n life : ℕ) (s t : Stage) (mirrors : Mirrors x w) (at : IsAt x n life s) where
  abbrev place : Stands w n s
  place = stands x w n life s mirrors at

  pub still : (doing : Doing) → (doing ≡ runs t) ⊎ (doing ≡ gives_up t) → y ≡ record { servers = slice_set x.servers n (record { life = life; doing = doing }); connections = x.connections; ids = x.ids } → IsStill s t → Leads w y
  still doing does is same = record {
    worlds = [];
    run = tt;
    mirrors = rebuilt_still x y w w n life s t doing place.slot place.slot mirrors at (ap (λ (z : System). z.servers) is) does mirrors.world place.found
        (sym (set_same w.slots n place.slot place.found)) refl (λ r. place.node ∙ sym same.node) (ap (λ (z : NodeState). z.core) (place.node ∙ sym same.node))
        (ap (λ (z : System). z.connections) is) refl (λ id spent. ap (λ (z : System). is_taken z.ids id) is ∙ mirrors.ids id spent)
        (λ c g k z l d r end was now has. mirrors.live c g k (end_of n life z) l s d place.slot end was at (same.own z d has) place.found);
  }

module _ (x y : System) (w : WorldState) (n life : ℕ) (s t : Stage) (tells : Bool) (mode : SyncMode) (mirrors : Mirrors x w) where
  -- the turn goes on, and all connections are the same
  goes_on : IsAt x n life s → (connections : List Connection) → connections ≡ x.connections
      → y ≡ record { servers = slice_set x.servers n (record { life = life; doing = runs t }); connections = connections; ids = x.ids } → IsStill s t → Leads w y
  goes_on at connections goes is same = still x y w n life s t mirrors at (runs t) (inl refl)
      (is ∙ ap (λ cs. record { servers = slice_set x.servers n (record { life = life; doing = runs t }); connections = cs; ids = x.ids }) goes) same

  pub wakes_leads : (now : ℤ) → IsTurn x n life s (wakes now) t y → Happens tells mode s (wakes now) t → Leads w y
  wakes_leads now turn h = goes_on turn.at turn.connections turn.goes turn.is (still_is s t (record s { failed = t.failed }) h.is refl refl)

  pub waits_leads : IsTurn x n life s waits t y → Happens tells mode s waits t → Leads w y
  waits_leads turn h = goes_on turn.at turn.connections turn.goes turn.is (still_is s t (record s { failed = t.failed }) h.is refl refl)

  pub finds_none_leads : (socket : LinkId) → IsTurn x n life s (finds_none socket) t y → Happens tells mode s (finds_none socket) t → Leads w y
  finds_none_leads socket turn h = goes_on turn.at turn.connections turn.goes turn.is (still_as s t h.node (ap (λ (z : LoopState). z.connections) h.own))

  pub misses_tick_leads : (given : Given) → IsTurn x n life s (misses_tick given) t y → Happens tells mode s (misses_tick given) t → Leads w y
  misses_tick_leads given turn h = goes_on turn.at turn.connections turn.goes turn.is (still_as s t (ap (λ (z : Stage). z.node) h.is) (ap (λ (z : Stage). z.own.connections) h.is))

  pub settles_leads : (hurries : Bool) → IsTurn x n life s (settles hurries) t y → Happens tells mode s (settles hurries) t → Leads w y
  settles_leads hurries turn h = goes_on turn.at turn.connections turn.goes turn.is (still_as s t (ap (λ (z : Stage). z.node) h.is) (ap (λ (z : Stage). z.own.connections) h.is))

  pub appends_leads : (texts : List ℕ) → IsTurn x n life s (appends texts) t y → Happens tells mode s (appends texts) t → Leads w y
  appends_leads texts turn h = goes_on turn.at turn.connections turn.goes turn.is (still_as s t h.node (ap (λ (z : LoopState). z.connections) h.own))

  -- nothing waited any more, and the node had no end
  pub closes_leads : (socket : LinkId) → IsTurn x n life s (closes socket) t y → Happens tells mode s (closes socket) t → Leads w y
  closes_leads socket turn h = goes_on turn.at turn.connections turn.goes turn.is (record {
    node = h.dropped.node;
    own = λ z d is. (removed s.own.connections socket z d (ap (λ m. get m z) (sym h.dropped.connections) ∙ is)).1;
  })

  -- the file failed, and the turn doesn't go on
  pub fails_leads : IsTurn x n life s fails t y → Happens tells mode s fails t → Leads w y
  fails_leads turn h = still x y w n life s t mirrors turn.at (gives_up t) (inr refl)
      (turn.is ∙ ap (λ cs. record { servers = slice_set x.servers n (record { life = life; doing = gives_up t }); connections = cs; ids = x.ids }) turn.goes)
      (still_as s t h.node (ap (λ (z : LoopState). z.connections) h.own))

-- ---- bytes are written that waited
abbrev wrote_on : Side → List ℕ → Connection → Connection
wrote_on a bytes k = with_pipe_from a (written_on bytes (from_side a k)) k

wrote_other : (a g : Side) (bytes : List ℕ) (k : Connection) (l : Link) → g ≢ a → SameHalf g k l (wrote_on a bytes k) l
wrote_other side.Server side.Server bytes k l ne = absurd (ne refl)
wrote_other side.Server side.Opener bytes k l ne = record { sent = refl; written = refl; taken = refl; read = refl; dialler = refl; serving = λ e. (refl, refl, refl) }
wrote_other side.Opener side.Server bytes k l ne = record { sent = refl; written = refl; taken = refl; read = refl; dialler = refl; serving = λ e. (refl, refl, refl) }
wrote_other side.Opener side.Opener bytes k l ne = absurd (ne refl)

wrote_end : (a : Side) (bytes : List ℕ) (k : Connection) (l : Link) → SameEnd a k l (wrote_on a bytes k) l
wrote_end side.Server bytes k l = record { taken = refl; read = refl; dialler = refl; serving = λ e. (refl, refl, refl) }
wrote_end side.Opener bytes k l = record { taken = refl; read = refl; dialler = refl; serving = λ e. (refl, refl, refl) }

wrote_ends : (a g : Side) (bytes : List ℕ) (k : Connection) → end_at g (wrote_on a bytes k) ≡ end_at g k
wrote_ends side.Server side.Server bytes k = refl
wrote_ends side.Server side.Opener bytes k = refl
wrote_ends side.Opener side.Server bytes k = refl
wrote_ends side.Opener side.Opener bytes k = refl

is_written : (a : Side) (bytes : List ℕ) (k : Connection) → (from_side a (wrote_on a bytes k)).written ≡ (from_side a k).written ++ bytes
is_written side.Server bytes k = refl
is_written side.Opener bytes k = refl

-- what is written is still the beginning of what was sent
further : (front bytes rest waiting sent : List ℕ) → sent ≡ front ++ waiting → waiting ≡ bytes ++ rest → sent ≡ (front ++ bytes) ++ rest
further front bytes rest waiting sent was cut = was ∙ (ap (λ z. front ++ z) cut ∙ sym (append_assoc front bytes rest))

wrote_line : (a : Side) (bytes rest waiting : List ℕ) (k : Connection) (l : Link) → IsLine k l → (way_from a l).sent ≡ (from_side a k).written ++ waiting → waiting ≡ bytes ++ rest → IsLine (wrote_on a bytes k) l
wrote_line side.Server bytes rest waiting k l line was cut = record {
  asked = line.asked;
  answered = record { rest = rest; is = further k.answered.written bytes rest waiting l.tell.sent was cut };
  waits = line.waits;
  served = line.served;
  client = line.client;
  dialled = line.dialled;
}
wrote_line side.Opener bytes rest waiting k l line was cut = record {
  asked = record { rest = rest; is = further k.asked.written bytes rest waiting l.ask.sent was cut };
  answered = line.answered;
  waits = line.waits;
  served = line.served;
  client = line.client;
  dialled = line.dialled;
}

module _ (x y : System) (w : WorldState) (n life : ℕ) (s t : Stage) (tells : Bool) (mode : SyncMode) (wired : IsWired x) (mirrors : Mirrors x w) (socket : LinkId) (bytes : List ℕ)
    (turn : IsTurn x n life s (writes socket bytes) t y) (h : Happens tells mode s (writes socket bytes) t) where
  its_place : Stands w n s
  its_place = stands x w n life s mirrors turn.at

  abbrev held : ConnectionState
  held = record { link = h.link; waiting = h.waiting }

  abbrev count : ℕ
  count = count_of h.answer

  -- the connection, and the side from which the server writes
  abbrev b : ℕ
  b = turn.goes.number

  abbrev a : Side
  a = turn.goes.at

  abbrev k : Connection
  k = turn.goes.connection

  link : (l : Link) × (slice_get w.links b ≡ Some l)
  link = its_link x w n life s mirrors turn.at b k turn.goes.end.found

  was : IsLive w n its_place.slot b k link.0 a held
  was = mirrors.live b a k (end_of n life socket) link.0 s held its_place.slot turn.goes.end link.1 turn.at h.has.is its_place.found

  cut : h.waiting ≡ bytes ++ drop count h.waiting
  cut = sym (take-append-drop count h.waiting) ∙ ap (λ z. z ++ drop count h.waiting) (sym h.bytes_are)

  connections : (z : LinkId) → connection_at t.own z ≡ get (changed socket (wrote count) s.own.connections) z
  connections z = ap (λ (o : LoopState). get o.connections z) h.own

  own : (z : LinkId) (d : ConnectionState) → z ≢ socket → connection_at t.own z ≡ Some d → connection_at s.own z ≡ Some d
  own z d ne is = sym (connections z ∙ changed_other s.own.connections socket (wrote count) z ne) ∙ is

  its_own : connection_at t.own socket ≡ Some (wrote count held)
  its_own = connections socket ∙ (changed_here s.own.connections socket (wrote count) ∙ ap (option_map (wrote count)) h.has.is)

  behind_it : IsLive w n its_place.slot b (wrote_on a bytes k) link.0 a (wrote count held)
  behind_it = record {
    sent = further (from_side a k).written bytes (drop count h.waiting) h.waiting (way_from a link.0).sent was.sent cut ∙ ap (λ z. z ++ drop count h.waiting) (sym (is_written a bytes k));
    side = side_kept w w n its_place.slot its_place.slot b k (wrote_on a bytes k) link.0 link.0 held (same_names its_place.slot b held) link.1 link.1 a (wrote count held) refl (wrote_end a bytes k link.0) was.side;
  }

  pub writes_leads : Leads w y
  writes_leads = record {
    worlds = [];
    run = tt;
    mirrors = at_one_end x y w w n life s t its_place.slot its_place.slot wired mirrors turn.at (ap (λ (z : System). z.servers) turn.is) mirrors.world its_place.found
        (sym (set_same w.slots n its_place.slot its_place.found)) refl (its_place.node ∙ sym h.node) (λ id spent. ap (λ (z : System). is_taken z.ids id) turn.is ∙ mirrors.ids id spent)
        socket own (λ z c d ne is. same_names its_place.slot c d) b a k (wrote_on a bytes k) link.0 link.0 turn.goes.end link.1 (ap (λ (z : System). z.connections) turn.is ∙ turn.goes.is)
        (sym (set_same w.links b link.0 link.1)) (λ g e ne is. wrote_other a g bytes k link.0 ne) (λ g. wrote_ends a g bytes k)
        (wrote_line a bytes (drop count h.waiting) h.waiting k link.0 (mirrors.lines b k link.0 turn.goes.end.found link.1) was.sent cut)
        (λ d has now. subst (λ (z : ConnectionState). IsLive w n its_place.slot b (wrote_on a bytes k) link.0 a z) (some_is (wrote count held) d (sym its_own ∙ has)) behind_it);
  }
