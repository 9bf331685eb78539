-- The World beside servers behind an event of one of them: what has to be shown of it, where the ends of the others stay what they were.
use Rattle.std.proofs.Common.{◌≡◌, ◌≢◌, ◌++◌, ◌⊎◌, inl, inr, ℕ, List, [], ◌∷◌, true, Some, length, length-append, length-set, refl, sym, ap, subst, ◌∙◌, arith}
use Rattle.std.specs.Prelude.{slice_get, slice_set}
use Rattle.mr_links.specs.declared.link_id.LinkId.{LinkId}
use Rattle.mr_connections.specs.State.{ConnectionState}
use Rattle.mr_loop.specs.Stage.{Stage, connection_at}
use Rattle.law_refinement.specs.State.{Link, Slot, WorldState}
use Rattle.law_refinement.specs.Worlds.{IsWorld}
use Rattle.law_refinement.proofs.Places.{is_within, push_cases, set_cases, set_here, set_there, some_is}
use Rattle.law_refinement.proofs.Reading.{number_or}
use Rattle.mr_world_parts.specs.AtNode.{is_spent}
use Rattle.mr_links.specs.declared.side.Side.{Side}
use Rattle.mr_links.specs.declared.side.Side.TheVariants as side
use Rattle.law_servers.specs.Worlds.{IsEndOf, IsFollowedAs, NoneOpen, way_to}
use Rattle.law_systems.specs.System.{Connection, Doing, End, IsAt, Server, System, end_at, from_side, gives_up, is_taken, runs, to_side}
use Rattle.law_systems.specs.Network.{HasEnd, end_of}
use Rattle.law_systems.proofs.Mirrors.{IsClosedSide, IsLine, IsLive, IsSide, IsSlotOf, Mirrors, way_from}
use Rattle.law_systems.proofs.Apart.{gives_up_is, not_both, runs_is}

-- the half of this side is the same
pub record SameHalf (at : Side) (k : Connection) (l : Link) (m : Connection) (j : Link) : Type 0 where
  pub sent : (way_from at j).sent ≡ (way_from at l).sent
  pub written : (from_side at m).written ≡ (from_side at k).written
  pub taken : (way_to at j).taken ≡ (way_to at l).taken
  pub read : (to_side at m).read ≡ (to_side at k).read
  pub dialler : m.dialler ≡ k.dialler
  pub serving : at ≡ side.Server → (j.serving ≡ l.serving) × (j.to ≡ l.to) × (j.name ≡ l.name)

-- another server's end was there before, with the same half
pub record WasThere (x : System) (w : WorldState) (c : ℕ) (at : Side) (m : Connection) (e : End) (j : Link) : Type 0 where
  pub connection : Connection
  pub link : Link
  pub end : HasEnd x.connections c at connection e
  pub found : slice_get w.links c ≡ Some link
  pub same : SameHalf at connection link m j

pub same_half : (at : Side) (k : Connection) (l : Link) → SameHalf at k l k l
same_half at k l = record { sent = refl; written = refl; taken = refl; read = refl; dialler = refl; serving = λ e. (refl, refl, refl) }

-- Of a half all is the same but what is sent from there.
pub record SameEnd (at : Side) (k : Connection) (l : Link) (m : Connection) (j : Link) : Type 0 where
  pub taken : (way_to at j).taken ≡ (way_to at l).taken
  pub read : (to_side at m).read ≡ (to_side at k).read
  pub dialler : m.dialler ≡ k.dialler
  pub serving : at ≡ side.Server → (j.serving ≡ l.serving) × (j.to ≡ l.to) × (j.name ≡ l.name)

same_end : (at : Side) (k : Connection) (l : Link) (m : Connection) (j : Link) → SameHalf at k l m j → SameEnd at k l m j
same_end at k l m j same = record { taken = same.taken; read = same.read; dialler = same.dialler; serving = same.serving }

-- ---- what stays of an end
-- By the name that the loop has for it an open end of the node stays open, and one that isn't open doesn't come.
pub record KeepsNames (old new : Slot) (c : ℕ) (held : ConnectionState) : Type 0 where
  pub opener : (name : LinkId) → held.link ≡ Some name → IsFollowedAs old name c → IsFollowedAs new name c
  pub follows : (name : LinkId) → IsFollowedAs new name c → IsFollowedAs old name c
  pub none : (name : LinkId) → held.link ≡ Some name → NoneOpen old.node name → NoneOpen new.node name

pub same_names : (s : Slot) (c : ℕ) (held : ConnectionState) → KeepsNames s s c held
same_names s c held = record { opener = λ name h f. f; follows = λ name f. f; none = λ name h f. f }

module _ (w v : WorldState) (n : ℕ) (old new : Slot) (c : ℕ) (k m : Connection) (l j : Link) (held : ConnectionState) (keeps : KeepsNames old new c held)
    (was : slice_get w.links c ≡ Some l) (found : slice_get v.links c ≡ Some j) where
  end_kept : (at : Side) (name : LinkId) → held.link ≡ Some name → SameEnd at k l m j → IsEndOf w n old name c at → IsEndOf v n new name c at
  end_kept side.Server name h same end =
      let one : end.link ≡ l = some_is end.link l (sym end.at.found ∙ was) in
      let stay = same.serving refl in
      record {
        link = j;
        at = record { found = found; serving = stay.0 ∙ (ap (λ (z : Link). z.serving) (sym one) ∙ end.at.serving) };
        to = stay.1 ∙ (ap (λ (z : Link). z.to) (sym one) ∙ end.to);
        named = stay.2 ∙ (ap (λ (z : Link). z.name) (sym one) ∙ end.named);
      }
  end_kept side.Opener name h same end = keeps.opener name h end

  closed_kept : (at : Side) → SameEnd at k l m j → IsClosedSide old c l at → IsClosedSide new c j at
  closed_kept side.Server same closed = (same.serving refl).0 ∙ closed
  closed_kept side.Opener same closed = λ name f. closed name (keeps.follows name f)

  pub side_kept : (at : Side) (d : ConnectionState) → d.link ≡ held.link → SameEnd at k l m j → IsSide w n old c k l at held → IsSide v n new c m j at d
  side_kept at d linked same (IsSide.is_open name h end taken) =
      IsSide.is_open name (linked ∙ h) (end_kept at name h same end) (λ e is. same.taken ∙ (taken e (sym same.dialler ∙ is) ∙ sym same.read))
  side_kept at d linked same (IsSide.is_closed closed none) = IsSide.is_closed (closed_kept at same closed) (λ name h. keeps.none name (sym linked ∙ h) (none name (sym linked ∙ h)))

  pub live_kept : (at : Side) → SameHalf at k l m j → IsLive w n old c k l at held → IsLive v n new c m j at held
  live_kept at same live = record { sent = same.sent ∙ (live.sent ∙ ap (λ z. z ++ held.waiting) (sym same.written)); side = side_kept at held refl (same_end at k l m j same) live.side }

-- ---- what a server does

-- The World behind an event of the server n.
module _ (x y : System) (w v : WorldState) (n life : ℕ) (s t : Stage) (doing : Doing) (old new : Slot)
    (mirrors : Mirrors x w) (at : IsAt x n life s)
    (servers : y.servers ≡ slice_set x.servers n (record { life = life; doing = doing })) (does : (doing ≡ runs t) ⊎ (doing ≡ gives_up t))
    (world : IsWorld v) (found : slice_get w.slots n ≡ Some old) (slots : v.slots ≡ slice_set w.slots n new)
    (as_master : new.as_master ≡ old.as_master) (node : doing ≡ runs t → new.node ≡ t.node) (core : new.node.core ≡ t.node.core) where
  abbrev here : Server
  here = record { life = life; doing = doing }

  slot_here : slice_get v.slots n ≡ Some new
  slot_here = ap (λ z. slice_get z n) slots ∙ set_here w.slots n new old found

  server_here : slice_get y.servers n ≡ Some here
  server_here = ap (λ z. slice_get z n) servers ∙ set_here x.servers n here (record { life = life; doing = runs s }) at.found

  was_master : old.as_master ≡ true
  was_master =
      let z = mirrors.slots n (record { life = life; doing = runs s }) at.found in
      let one : z.0 ≡ old = some_is z.0 old (sym z.1.found ∙ found) in
      ap (λ (z : Slot). z.as_master) (sym one) ∙ z.1.as_master

  its_node : (u : Stage) → doing ≡ runs u → new.node ≡ u.node
  its_node u e = elim does [
    | inl r ↦ node r ∙ ap (λ (z : Stage). z.node) (runs_is t u (sym r ∙ e))
    | inr g ↦ absurd (not_both u t (sym e ∙ g))
  ]

  its_core : (u : Stage) → doing ≡ gives_up u → new.node.core ≡ u.node.core
  its_core u e = elim does [
    | inl r ↦ absurd (not_both t u (sym r ∙ e))
    | inr g ↦ core ∙ ap (λ (z : Stage). z.node.core) (gives_up_is t u (sym g ∙ e))
  ]

  slot_of : (i : ℕ) (server : Server) → ((i ≡ n) × (server ≡ here)) ⊎ ((i ≢ n) × (slice_get x.servers i ≡ Some server)) → (z : Slot) × IsSlotOf v i server z
  slot_of i server (inl p) = (
    new,
    record {
      found = ap (slice_get v.slots) p.0 ∙ slot_here;
      as_master = as_master ∙ was_master;
      node = λ u e. its_node u (ap (λ (z : Server). z.doing) (sym p.1) ∙ e);
      core = λ u e. its_core u (ap (λ (z : Server). z.doing) (sym p.1) ∙ e);
    },
  )
  slot_of i server (inr p) =
      let z = mirrors.slots i server p.1 in
      (z.0, record { found = ap (λ q. slice_get q i) slots ∙ (set_there w.slots n i new p.0 ∙ z.1.found); as_master = z.1.as_master; node = z.1.node; core = z.1.core })

  -- an end of this server, which makes turns
  module _ (live : (c : ℕ) (at : Side) (k : Connection) (socket : LinkId) (l : Link) (held : ConnectionState) → doing ≡ runs t → HasEnd y.connections c at k (end_of n life socket)
      → slice_get v.links c ≡ Some l → connection_at t.own socket ≡ Some held → IsLive v n new c k l at held) where
    live_runs : (c : ℕ) (at : Side) (k : Connection) (e : End) (l : Link) (u : Stage) (held : ConnectionState) (z : Slot) → HasEnd y.connections c at k e → slice_get v.links c ≡ Some l
        → e.server ≡ n → life ≡ e.life → doing ≡ runs u → (doing ≡ runs t) ⊎ (doing ≡ gives_up t) → connection_at u.own e.socket ≡ Some held → slice_get v.slots e.server ≡ Some z
        → IsLive v e.server z c k l at held
    live_runs c at k e l u held z end at_link own same_life runs_u (inl r) has at_slot =
        let same : t ≡ u = runs_is t u (sym r ∙ runs_u) in
        let named : e ≡ end_of n life e.socket = ap (λ i. record { server = i; life = e.life; socket = e.socket }) own ∙ ap (λ i. record { server = n; life = i; socket = e.socket }) (sym same_life) in
        let slot : z ≡ new = some_is z new (sym at_slot ∙ (ap (slice_get v.slots) own ∙ slot_here)) in
        let is = live c at k e.socket l held r (record { found = end.found; has = end.has ∙ ap (λ q. Some q) named }) at_link (ap (λ (q : Stage). connection_at q.own e.socket) same ∙ has) in
        subst (λ i. IsLive v i z c k l at held) (sym own) (subst (λ (q : Slot). IsLive v n q c k l at held) (sym slot) is)
    live_runs c at k e l u held z end at_link own same_life runs_u (inr g) has at_slot = absurd (not_both u t (sym runs_u ∙ g))

    live_here : (c : ℕ) (at : Side) (k : Connection) (e : End) (l : Link) (u : Stage) (held : ConnectionState) (z : Slot) → HasEnd y.connections c at k e → slice_get v.links c ≡ Some l
        → IsAt y e.server e.life u → connection_at u.own e.socket ≡ Some held → slice_get v.slots e.server ≡ Some z → e.server ≡ n → IsLive v e.server z c k l at held
    live_here c at k e l u held z end at_link is_at has at_slot own =
        let one : here ≡ record { life = e.life; doing = runs u } = some_is here (record { life = e.life; doing = runs u }) (sym (ap (slice_get y.servers) own ∙ server_here) ∙ is_at.found) in
        live_runs c at k e l u held z end at_link own (ap (λ (q : Server). q.life) one) (ap (λ (q : Server). q.doing) one) does has at_slot

  -- an end of another
  module _ (others : (c : ℕ) (at : Side) (k : Connection) (e : End) (l : Link) → HasEnd y.connections c at k e → slice_get v.links c ≡ Some l → e.server ≢ n → WasThere x w c at k e l) where
    live_there : (c : ℕ) (at : Side) (k : Connection) (e : End) (l : Link) (u : Stage) (held : ConnectionState) (z : Slot) → HasEnd y.connections c at k e → slice_get v.links c ≡ Some l
        → IsAt y e.server e.life u → connection_at u.own e.socket ≡ Some held → slice_get v.slots e.server ≡ Some z → e.server ≢ n → IsLive v e.server z c k l at held
    live_there c at k e l u held z end at_link is_at has at_slot apart =
        let was = others c at k e l end at_link apart in
        let was_at : IsAt x e.server e.life u = record { found = sym (set_there x.servers n e.server here apart) ∙ (ap (λ q. slice_get q e.server) (sym servers) ∙ is_at.found) } in
        let slot : slice_get w.slots e.server ≡ Some z = sym (set_there w.slots n e.server new apart) ∙ (ap (λ q. slice_get q e.server) (sym slots) ∙ at_slot) in
        live_kept w v e.server z z c was.connection k was.link l held (same_names z c held) was.found at_link at was.same
        (mirrors.live c at was.connection e was.link u held z was.end was.found was_at has slot)

  pub rebuilt : length v.links ≡ length y.connections
      → ((id : List ℕ) → is_spent v.book id ≡ true → is_taken y.ids id ≡ true)
      → ((c : ℕ) (k : Connection) (l : Link) → slice_get y.connections c ≡ Some k → slice_get v.links c ≡ Some l → IsLine k l)
      → ((c : ℕ) (at : Side) (k : Connection) (e : End) (l : Link) → HasEnd y.connections c at k e → slice_get v.links c ≡ Some l → e.server ≢ n → WasThere x w c at k e l)
      → ((c : ℕ) (at : Side) (k : Connection) (socket : LinkId) (l : Link) (held : ConnectionState) → doing ≡ runs t → HasEnd y.connections c at k (end_of n life socket)
      → slice_get v.links c ≡ Some l → connection_at t.own socket ≡ Some held → IsLive v n new c k l at held)
      → Mirrors y v
  rebuilt many ids lines others live = record {
    world = world;
    as_many = ap (λ z. length z) slots ∙ (length-set w.slots n new ∙ (mirrors.as_many ∙ (sym (length-set x.servers n here) ∙ ap (λ z. length z) (sym servers))));
    as_many_links = many;
    slots = λ i server e. slot_of i server (set_cases x.servers n i here server (ap (λ z. slice_get z i) (sym servers) ∙ e));
    ids = ids;
    lines = lines;
    live = λ c at k e l u held z end at_link is_at has at_slot. elim (number_or e.server n) [
      | inl own ↦ live_here live c at k e l u held z end at_link is_at has at_slot own
      | inr apart ↦ live_there others c at k e l u held z end at_link is_at has at_slot apart
    ];
  }

  -- ---- where connections and links are all the same
  pub rebuilt_still : y.connections ≡ x.connections → v.links ≡ w.links
      → ((id : List ℕ) → is_spent v.book id ≡ true → is_taken y.ids id ≡ true)
      → ((c : ℕ) (at : Side) (k : Connection) (socket : LinkId) (l : Link) (held : ConnectionState) → doing ≡ runs t → HasEnd x.connections c at k (end_of n life socket)
      → slice_get w.links c ≡ Some l → slice_get v.links c ≡ Some l → connection_at t.own socket ≡ Some held → IsLive v n new c k l at held)
      → Mirrors y v
  rebuilt_still connections links ids live = rebuilt (ap (λ z. length z) links ∙ (mirrors.as_many_links ∙ ap (λ z. length z) (sym connections))) ids
      (λ c k l there at_link. mirrors.lines c k l (ap (λ z. slice_get z c) (sym connections) ∙ there) (ap (λ z. slice_get z c) (sym links) ∙ at_link))
      (λ c at k e l end at_link apart. record {
        connection = k;
        link = l;
        end = record { found = ap (λ z. slice_get z c) (sym connections) ∙ end.found; has = end.has };
        found = ap (λ z. slice_get z c) (sym links) ∙ at_link;
        same = same_half at k l;
      })
      (λ c at k socket l held r end at_link has.
      live c at k socket l held r (record { found = ap (λ z. slice_get z c) (sym connections) ∙ end.found; has = end.has }) (ap (λ z. slice_get z c) (sym links) ∙ at_link) at_link has)

  -- ---- where one connection and its link are others
  module _ (b : ℕ) (p q : Connection) (i j : Link) (there : slice_get x.connections b ≡ Some p) (at_link : slice_get w.links b ≡ Some i)
      (connections : y.connections ≡ slice_set x.connections b q) (links : v.links ≡ slice_set w.links b j) where
    at_b : (c : ℕ) (k : Connection) (l : Link) → slice_get y.connections c ≡ Some k → slice_get v.links c ≡ Some l
        → ((c ≡ b) × (k ≡ q) × (l ≡ j)) ⊎ ((c ≢ b) × (slice_get x.connections c ≡ Some k) × (slice_get w.links c ≡ Some l))
    at_b c k l e f = go (set_cases x.connections b c q k (ap (λ z. slice_get z c) (sym connections) ∙ e)) (set_cases w.links b c j l (ap (λ z. slice_get z c) (sym links) ∙ f))
      where
        go : ((c ≡ b) × (k ≡ q)) ⊎ ((c ≢ b) × (slice_get x.connections c ≡ Some k)) → ((c ≡ b) × (l ≡ j)) ⊎ ((c ≢ b) × (slice_get w.links c ≡ Some l))
            → ((c ≡ b) × (k ≡ q) × (l ≡ j)) ⊎ ((c ≢ b) × (slice_get x.connections c ≡ Some k) × (slice_get w.links c ≡ Some l))
        go (inl d) (inl g) = inl (d.0, d.1, g.1)
        go (inl d) (inr g) = absurd (g.0 d.0)
        go (inr d) (inl g) = absurd (d.0 g.0)
        go (inr d) (inr g) = inr (d.0, d.1, g.1)

    line_at : IsLine q j → (c : ℕ) (k : Connection) (l : Link) → ((c ≡ b) × (k ≡ q) × (l ≡ j)) ⊎ ((c ≢ b) × (slice_get x.connections c ≡ Some k) × (slice_get w.links c ≡ Some l)) → IsLine k l
    line_at line c k l (inl d) = subst (λ (z : Connection). IsLine z l) (sym d.1) (subst (λ (z : Link). IsLine q z) (sym d.2) line)
    line_at line c k l (inr d) = mirrors.lines c k l d.1 d.2

    there_at : ((at : Side) (e : End) → end_at at q ≡ Some e → e.server ≢ n → (end_at at p ≡ Some e) × SameHalf at p i q j)
        → (c : ℕ) (at : Side) (k : Connection) (e : End) (l : Link) → end_at at k ≡ Some e → e.server ≢ n
        → ((c ≡ b) × (k ≡ q) × (l ≡ j)) ⊎ ((c ≢ b) × (slice_get x.connections c ≡ Some k) × (slice_get w.links c ≡ Some l)) → WasThere x w c at k e l
    there_at others c at k e l has apart (inl d) =
        let was = others at e (ap (end_at at) (sym d.1) ∙ has) apart in
        record {
          connection = p;
          link = i;
          end = record { found = ap (slice_get x.connections) d.0 ∙ there; has = was.0 };
          found = ap (slice_get w.links) d.0 ∙ at_link;
          same = subst (λ (z : Connection). SameHalf at p i z l) (sym d.1) (subst (λ (z : Link). SameHalf at p i q z) (sym d.2) was.1);
        }
    there_at others c at k e l has apart (inr d) = record { connection = k; link = l; end = record { found = d.1; has = has }; found = d.2; same = same_half at k l }

    live_at : ((at : Side) (socket : LinkId) (held : ConnectionState) → doing ≡ runs t → end_at at q ≡ Some (end_of n life socket) → connection_at t.own socket ≡ Some held → IsLive v n new b q j at held)
        → ((c : ℕ) (at : Side) (k : Connection) (socket : LinkId) (l : Link) (held : ConnectionState) → c ≢ b → doing ≡ runs t → HasEnd x.connections c at k (end_of n life socket)
        → slice_get w.links c ≡ Some l → slice_get v.links c ≡ Some l → connection_at t.own socket ≡ Some held → IsLive v n new c k l at held)
        → (c : ℕ) (at : Side) (k : Connection) (socket : LinkId) (l : Link) (held : ConnectionState) → doing ≡ runs t → end_at at k ≡ Some (end_of n life socket)
        → slice_get v.links c ≡ Some l → connection_at t.own socket ≡ Some held
        → ((c ≡ b) × (k ≡ q) × (l ≡ j)) ⊎ ((c ≢ b) × (slice_get x.connections c ≡ Some k) × (slice_get w.links c ≡ Some l)) → IsLive v n new c k l at held
    live_at last others c at k socket l held r has now is (inl d) =
        let one = last at socket held r (ap (end_at at) (sym d.1) ∙ has) is in
        subst (λ z. IsLive v n new z k l at held) (sym d.0) (subst (λ (z : Connection). IsLive v n new b z l at held) (sym d.1) (subst (λ (z : Link). IsLive v n new b q z at held) (sym d.2) one))
    live_at last others c at k socket l held r has now is (inr d) = others c at k socket l held d.0 r (record { found = d.1; has = has }) d.2 now is

    pub rebuilt_one : IsLine q j
        → ((id : List ℕ) → is_spent v.book id ≡ true → is_taken y.ids id ≡ true)
        → ((at : Side) (e : End) → end_at at q ≡ Some e → e.server ≢ n → (end_at at p ≡ Some e) × SameHalf at p i q j)
        → ((at : Side) (socket : LinkId) (held : ConnectionState) → doing ≡ runs t → end_at at q ≡ Some (end_of n life socket) → connection_at t.own socket ≡ Some held → IsLive v n new b q j at held)
        → ((c : ℕ) (at : Side) (k : Connection) (socket : LinkId) (l : Link) (held : ConnectionState) → c ≢ b → doing ≡ runs t → HasEnd x.connections c at k (end_of n life socket)
        → slice_get w.links c ≡ Some l → slice_get v.links c ≡ Some l → connection_at t.own socket ≡ Some held → IsLive v n new c k l at held)
        → Mirrors y v
    rebuilt_one line ids others live_b live = rebuilt
        (ap (λ z. length z) links ∙ (length-set w.links b j ∙ (mirrors.as_many_links ∙ (sym (length-set x.connections b q) ∙ ap (λ z. length z) (sym connections)))))
        ids
        (λ c k l e f. line_at line c k l (at_b c k l e f))
        (λ c at k e l end f apart. there_at others c at k e l end.has apart (at_b c k l end.found f))
        (λ c at k socket l held r end f is. live_at live_b live c at k socket l held r end.has f is (at_b c k l end.found f))

  -- ---- where one connection more is there, and its link
  module _ (q : Connection) (j : Link) (connections : y.connections ≡ x.connections ++ q ∷ []) (links : v.links ≡ w.links ++ j ∷ []) where
    at_end : (c : ℕ) (k : Connection) (l : Link) → slice_get y.connections c ≡ Some k → slice_get v.links c ≡ Some l
        → ((c ≡ length x.connections) × (k ≡ q) × (l ≡ j)) ⊎ ((slice_get x.connections c ≡ Some k) × (slice_get w.links c ≡ Some l))
    at_end c k l e f = go (push_cases x.connections q c k (ap (λ z. slice_get z c) (sym connections) ∙ e)) (push_cases w.links j c l (ap (λ z. slice_get z c) (sym links) ∙ f))
      where
        go : ((c ≡ length x.connections) × (k ≡ q)) ⊎ (slice_get x.connections c ≡ Some k) → ((c ≡ length w.links) × (l ≡ j)) ⊎ (slice_get w.links c ≡ Some l)
            → ((c ≡ length x.connections) × (k ≡ q) × (l ≡ j)) ⊎ ((slice_get x.connections c ≡ Some k) × (slice_get w.links c ≡ Some l))
        go (inl d) (inl g) = inl (d.0, d.1, g.1)
        go (inl d) (inr g) = absurd (let far = is_within w.links c l g in let many = mirrors.as_many_links in let last = d.0 in omega (arith, far, many, last))
        go (inr d) (inl g) = absurd (let far = is_within x.connections c k d in let many = mirrors.as_many_links in let last = g.0 in omega (arith, far, many, last))
        go (inr d) (inr g) = inr (d, g)

    line_in : IsLine q j → (c : ℕ) (k : Connection) (l : Link) → ((c ≡ length x.connections) × (k ≡ q) × (l ≡ j)) ⊎ ((slice_get x.connections c ≡ Some k) × (slice_get w.links c ≡ Some l)) → IsLine k l
    line_in line c k l (inl d) = subst (λ (z : Connection). IsLine z l) (sym d.1) (subst (λ (z : Link). IsLine q z) (sym d.2) line)
    line_in line c k l (inr d) = mirrors.lines c k l d.0 d.1

    there_in : ((at : Side) (e : End) → end_at at q ≡ Some e → e.server ≡ n)
        → (c : ℕ) (at : Side) (k : Connection) (e : End) (l : Link) → end_at at k ≡ Some e → e.server ≢ n
        → ((c ≡ length x.connections) × (k ≡ q) × (l ≡ j)) ⊎ ((slice_get x.connections c ≡ Some k) × (slice_get w.links c ≡ Some l)) → WasThere x w c at k e l
    there_in own c at k e l has apart (inl d) = absurd (apart (own at e (ap (end_at at) (sym d.1) ∙ has)))
    there_in own c at k e l has apart (inr d) = record { connection = k; link = l; end = record { found = d.0; has = has }; found = d.1; same = same_half at k l }

    live_in : ((at : Side) (socket : LinkId) (held : ConnectionState) → doing ≡ runs t → end_at at q ≡ Some (end_of n life socket) → connection_at t.own socket ≡ Some held
        → IsLive v n new (length x.connections) q j at held)
        → ((c : ℕ) (at : Side) (k : Connection) (socket : LinkId) (l : Link) (held : ConnectionState) → doing ≡ runs t → HasEnd x.connections c at k (end_of n life socket)
        → slice_get w.links c ≡ Some l → slice_get v.links c ≡ Some l → connection_at t.own socket ≡ Some held → IsLive v n new c k l at held)
        → (c : ℕ) (at : Side) (k : Connection) (socket : LinkId) (l : Link) (held : ConnectionState) → doing ≡ runs t → end_at at k ≡ Some (end_of n life socket)
        → slice_get v.links c ≡ Some l → connection_at t.own socket ≡ Some held
        → ((c ≡ length x.connections) × (k ≡ q) × (l ≡ j)) ⊎ ((slice_get x.connections c ≡ Some k) × (slice_get w.links c ≡ Some l)) → IsLive v n new c k l at held
    live_in last old_ends c at k socket l held r has now is (inl d) =
        let one = last at socket held r (ap (end_at at) (sym d.1) ∙ has) is in
        subst (λ z. IsLive v n new z k l at held) (sym d.0)
        (subst (λ (z : Connection). IsLive v n new (length x.connections) z l at held) (sym d.1) (subst (λ (z : Link). IsLive v n new (length x.connections) q z at held) (sym d.2) one))
    live_in last old_ends c at k socket l held r has now is (inr d) = old_ends c at k socket l held r (record { found = d.0; has = has }) d.1 now is

    pub rebuilt_more : IsLine q j
        → ((id : List ℕ) → is_spent v.book id ≡ true → is_taken y.ids id ≡ true)
        → ((at : Side) (e : End) → end_at at q ≡ Some e → e.server ≡ n)
        → ((at : Side) (socket : LinkId) (held : ConnectionState) → doing ≡ runs t → end_at at q ≡ Some (end_of n life socket) → connection_at t.own socket ≡ Some held
        → IsLive v n new (length x.connections) q j at held)
        → ((c : ℕ) (at : Side) (k : Connection) (socket : LinkId) (l : Link) (held : ConnectionState) → doing ≡ runs t → HasEnd x.connections c at k (end_of n life socket)
        → slice_get w.links c ≡ Some l → slice_get v.links c ≡ Some l → connection_at t.own socket ≡ Some held → IsLive v n new c k l at held)
        → Mirrors y v
    rebuilt_more line ids own last live =
        let a = length-append w.links (j ∷ []) in
        let b = length-append x.connections (q ∷ []) in
        let many : length (w.links ++ j ∷ []) ≡ length (x.connections ++ q ∷ []) = let was = mirrors.as_many_links in omega (arith, a, b, was) in
        rebuilt
        (ap (λ z. length z) links ∙ (many ∙ ap (λ z. length z) (sym connections)))
        ids
        (λ c k l e f. line_in line c k l (at_end c k l e f))
        (λ c at k e l end f apart. there_in own c at k e l end.has apart (at_end c k l end.found f))
        (λ c at k socket l held r end f is. live_in last live c at k socket l held r end.has f is (at_end c k l end.found f))
