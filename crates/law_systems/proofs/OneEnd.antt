-- The World beside servers behind an event at one end of a server: its other ends, and those of others, stay what they were.
use Rattle.std.proofs.Common.{◌≡◌, ◌≢◌, ◌⊎◌, inl, inr, ℕ, List, true, Option, Some, refl, sym, ap, subst, ◌∙◌}
use Rattle.std.specs.Prelude.{slice_get, slice_set}
use Rattle.mr_links.specs.declared.link_id.LinkId.{LinkId}
use Rattle.mr_connections.specs.State.{ConnectionState}
use Rattle.mr_loop.specs.Stage.{Stage, connection_at}
use Rattle.mr_loop.proofs.Waiting.{by_name}
use Rattle.mr_node_spec.specs.State.{NodeState}
use Rattle.law_refinement.specs.State.{Link, Slot, WorldState}
use Rattle.law_refinement.specs.Worlds.{IsWorld}
use Rattle.law_refinement.proofs.Places.{set_here, some_is}
use Rattle.mr_world_parts.specs.AtNode.{is_spent}
use Rattle.mr_links.specs.declared.side.Side.{Side}
use Rattle.mr_links.specs.declared.side.Side.TheVariants as side
use Rattle.law_systems.specs.System.{Connection, End, IsAt, System, end_at, is_taken, runs}
use Rattle.law_systems.specs.Network.{HasEnd, end_of}
use Rattle.law_systems.proofs.Wired.{IsWired}
use Rattle.law_systems.proofs.Mirrors.{IsLine, IsLive, Mirrors}
use Rattle.law_systems.proofs.Rebuilding.{KeepsNames, SameHalf, live_kept, rebuilt_one, same_half}

pub side_or : (a b : Side) → (a ≡ b) ⊎ (a ≢ b)
side_or side.Opener side.Opener = inl refl
side_or side.Opener side.Server = inr (λ e. cc)
side_or side.Server side.Opener = inr (λ e. cc)
side_or side.Server side.Server = inl refl

socket_is : (n life : ℕ) (a b : LinkId) → ◌≡◌ {A = Option End} (Some (end_of n life a)) (Some (end_of n life b)) → a ≡ b
socket_is n life a b e = ap (λ (z : End). z.socket) (some_is (end_of n life a) (end_of n life b) e)

-- The server n goes on: the end at the side a of the connection b changes, and what is of that connection and its link.
module _ (x y : System) (w v : WorldState) (n life : ℕ) (s t : Stage) (old new : Slot) (wired : IsWired x) (mirrors : Mirrors x w) (at : IsAt x n life s)
    (servers : y.servers ≡ slice_set x.servers n (record { life = life; doing = runs t })) (world : IsWorld v) (found : slice_get w.slots n ≡ Some old) (slots : v.slots ≡ slice_set w.slots n new)
    (as_master : new.as_master ≡ old.as_master) (node : new.node ≡ t.node) (ids : (id : List ℕ) → is_spent v.book id ≡ true → is_taken y.ids id ≡ true)
    (socket : LinkId) (own : (z : LinkId) (d : ConnectionState) → z ≢ socket → connection_at t.own z ≡ Some d → connection_at s.own z ≡ Some d)
    (names : (z : LinkId) (c : ℕ) (d : ConnectionState) → z ≢ socket → connection_at s.own z ≡ Some d → KeepsNames old new c d)
    (b : ℕ) (a : Side) (p q : Connection) (i j : Link) (end : HasEnd x.connections b a p (end_of n life socket)) (at_link : slice_get w.links b ≡ Some i)
    (connections : y.connections ≡ slice_set x.connections b q) (links : v.links ≡ slice_set w.links b j) where
  -- an end of the server elsewhere
  elsewhere : (c : ℕ) (g : Side) (k : Connection) (z : LinkId) (l : Link) (d : ConnectionState) → c ≢ b → HasEnd x.connections c g k (end_of n life z)
      → slice_get w.links c ≡ Some l → slice_get v.links c ≡ Some l → connection_at t.own z ≡ Some d → IsLive v n new c k l g d
  elsewhere c g k z l d apart h was now has = by_name (IsLive v n new c k l g d) z socket
      (λ same. absurd (apart (wired.apart c b g a k p (end_of n life socket) (record { found = h.found; has = h.has ∙ ap (λ (o : LinkId). Some (end_of n life o)) same }) end).0))
      (λ other.
      let before = own z d other has in
      live_kept w v n old new c k k l l d (names z c d other before) was now g (same_half g k l) (mirrors.live c g k (end_of n life z) l s d old h was at before found))

  -- .. or at the other side of the same connection, or the one itself
  at_it : ((g : Side) (e : End) → g ≢ a → end_at g q ≡ Some e → SameHalf g p i q j) → ((g : Side) → end_at g q ≡ end_at g p) → ((d : ConnectionState) → connection_at t.own socket ≡ Some d → IsLive v n new b q j a d)
      → slice_get v.links b ≡ Some j → (g : Side) (z : LinkId) (d : ConnectionState) → end_at g q ≡ Some (end_of n life z) → connection_at t.own z ≡ Some d → IsLive v n new b q j g d
  at_it halves ends here now g z d is has =
      let was : HasEnd x.connections b g p (end_of n life z) = record { found = end.found; has = sym (ends g) ∙ is } in
      by_name (IsLive v n new b q j g d) z socket
      (λ same.
      let one = (wired.apart b b g a p p (end_of n life socket) (record { found = was.found; has = was.has ∙ ap (λ (o : LinkId). Some (end_of n life o)) same }) end).1 in
      subst (λ o. IsLive v n new b q j o d) (sym one) (here d (ap (connection_at t.own) (sym same) ∙ has)))
      (λ other.
      let apart : g ≢ a = λ same. other (socket_is n life z socket (sym was.has ∙ (ap (λ o. end_at o p) same ∙ end.has))) in
      let before = own z d other has in
      live_kept w v n old new b p q i j d (names z b d other before) at_link now g (halves g (end_of n life z) apart is) (mirrors.live b g p (end_of n life z) i s d old was at_link at before found))

  pub at_one_end : ((g : Side) (e : End) → g ≢ a → end_at g q ≡ Some e → SameHalf g p i q j) → ((g : Side) → end_at g q ≡ end_at g p) → IsLine q j
      → ((d : ConnectionState) → connection_at t.own socket ≡ Some d → slice_get v.links b ≡ Some j → IsLive v n new b q j a d) → Mirrors y v
  at_one_end halves ends line here =
      let now : slice_get v.links b ≡ Some j = ap (λ z. slice_get z b) links ∙ set_here w.links b j i at_link in
      rebuilt_one x y w v n life s t (runs t) old new mirrors at servers (inl refl) world found slots as_master (λ r. node) (ap (λ (z : NodeState). z.core) node) b p q i j end.found at_link connections links
      line ids
      (λ g e is apart.
      let not_a : g ≢ a = λ same. apart (ap (λ (z : End). z.server) (some_is e (end_of n life socket) (sym is ∙ (ends g ∙ (ap (λ o. end_at o p) same ∙ end.has))))) in
      (sym (ends g) ∙ is, halves g e not_a is))
      (λ g z d r is has. at_it halves ends (λ d has. here d has now) now g z d is has)
      (λ c g k z l d apart r h was now has. elsewhere c g k z l d apart h was now has)
