-- What a call on a node does to the other links that it serves.
use Rattle.std.proofs.Common.{◌≡◌, ◌≢◌, ℕ, List, [], ◌∷◌, Bool, true, false, ◌==◌, ◌&&◌, cond, Option, None, Some, map, refl, sym, ap, subst, ◌∙◌, arith}
use Rattle.std.specs.Prelude.{slice_get, slice_set}
use Rattle.std.specs.Option.{option_map}
use Rattle.std.proofs.lemmas.Option.{slice_get-map}
use Rattle.std.proofs.lemmas.List.{append-nil}
use Rattle.mr_links.specs.declared.link_id.LinkId.{LinkId}
use Rattle.mr_node_links.specs.State.{EndState, Transaction, streams, serves}
use Rattle.mr_node_links.specs.Replicas.{is_named, Lists}
use Rattle.mr_node_output.specs.Outs.{OutsState}
use Rattle.mr_node_spec.specs.State.{NodeState, end_of}
use Rattle.mr_node_spec.specs.Growing.{FedTo}
use Rattle.law_protocol.specs.Language as language
use Rattle.law_protocol.specs.World as history
use Rattle.law_protocol.specs.World.{hears, told_if}
use Rattle.law_refinement.specs.Way.{IsWay, unread}
use Rattle.law_refinement.specs.State.{Link, Slot, WorldState}
use Rattle.law_refinement.specs.Seeing.{open_at, open_on, link_with, seen_link}
use Rattle.law_refinement.specs.Worlds.{IsWorld, end_for}
use Rattle.law_refinement.specs.Carrying.{is_at, fed_if, shut_if, reached}
use Rattle.law_refinement.proofs.Places.{set_here, set_there, some_is}
use Rattle.law_refinement.proofs.Seen.{sent_seen}
use Rattle.law_refinement.proofs.Open.{eqb_yes, open_stays, same_end}
use Rattle.law_refinement.proofs.Unaccepted.{hears_at}

pub streams_for : (b : Bool) (held : Option Transaction) (u : List ℕ) → streams (Some (end_for b held u)) ≡ b
streams_for true held u = refl
streams_for false None u = refl
streams_for false (Some t) u = refl

serves_for : (b : Bool) (held : Option Transaction) (u : List ℕ) → serves (end_for b held u) ≡ true
serves_for true held u = refl
serves_for false None u = refl
serves_for false (Some t) u = refl

-- The ends that a node serves stay, but for that of this name and for those that are closed.
pub record Apart (a : NodeState) (name : LinkId) (b : NodeState) (outs : OutsState) : Type 0 where
  pub up : b.core.up ≡ a.core.up
  pub others : (q : LinkId) (streams : Bool) (held : Option Transaction) (v : List ℕ) → q ≢ name → is_named outs.closed q ≡ false → end_of a q ≡ Some (end_for streams held v) → end_of b q ≡ Some (end_for streams held v)

-- .. all of them
pub record KeepsEnds (a b : NodeState) : Type 0 where
  pub up : b.core.up ≡ a.core.up
  pub all : (q : LinkId) (streams : Bool) (held : Option Transaction) (v : List ℕ) → end_of a q ≡ Some (end_for streams held v) → end_of b q ≡ Some (end_for streams held v)

pub and_third : (a c d : Bool) → ((a && c) && d) ≡ false → a ≡ true → c ≡ true → d ≡ false
and_third true true d e p q = e
and_third true false d e p q = absurd (cc)
and_third false c d e p q = absurd (cc)

eqb_is : (m n : ℕ) → (m == n) ≡ true → m ≡ n
eqb_is m n e = grind arith

-- no end of these names is one that the node serves
abbrev pub NoneServed : NodeState → List LinkId → Type 0
NoneServed a names = (x : LinkId) (e : EndState) → is_named names x ≡ true → end_of a x ≡ Some e → serves e ≡ false

pub no_names : (a : NodeState) (names : List LinkId) → names ≡ [] → NoneServed a names
no_names a names none x e named is = let none_named : false ≡ true = ap (λ z. is_named z x) (sym none) ∙ named in absurd (cc)

module _ (w : WorldState) (is : IsWorld w) (n : ℕ) (s : Slot) (at : slice_get w.slots n ≡ Some s) (up : s.node.core.up ≡ true) where
  pub served_end : (j : ℕ) (k : Link) → slice_get w.links j ≡ Some k → k.to ≡ n → k.serving ≡ true → (held : Option Transaction) × (end_of s.node k.name ≡ Some (end_for k.streams held (unread k.ask)))
  served_end j k found to g =
      let h = is.servers j k found in
      let one : h.slot ≡ s = some_is h.slot s (sym h.found ∙ (ap (slice_get w.slots) to ∙ at)) in
      let e = h.agrees (subst (λ (z : Slot). z.node.core.up ≡ true) (sym one) up) g in
      (e.0, ap (λ (z : Slot). end_of z.node k.name) (sym one) ∙ e.1)

  -- what is open at ends that stay
  pub kept_open : (t : Slot) → KeepsEnds s.node t.node → (j : ℕ) (k : Link) → slice_get w.links j ≡ Some k → k.to ≡ n → k.serving ≡ true → open_at (Some t) k.name ≡ open_at (Some s) k.name
  kept_open t keeps j k found to g =
      let e = served_end j k found to g in
      same_end s t k.name keeps.up (keeps.all k.name k.streams e.0 (unread k.ask) e.1 ∙ sym e.1)

  -- all links are seen as they were
  pub all_seen : (t : Slot) → KeepsEnds s.node t.node → (j : ℕ) (k : Link) → slice_get w.links j ≡ Some k → seen_link (slice_set w.slots n t) k ≡ seen_link w.slots k
  all_seen t keeps j k found = ap (λ o. link_with o k) (open_stays w.slots n s t at k (kept_open t keeps j k found))

  -- names that are those of the ends that stream are those of the links that hear the node
  named_hears : (names : List LinkId) → ((x : LinkId) → is_named names x ≡ streams (end_of s.node x))
      → (j : ℕ) (k : Link) → slice_get w.links j ≡ Some k → (is_at n k && is_named names k.name) ≡ hears n (seen_link w.slots k)
  named_hears names named j k found = go (k.to == n) k.serving refl refl ∙ sym (hears_at n w.slots k (λ e. (is.untouched j k found e).serving))
    where
      go : (a c : Bool) → (k.to == n) ≡ a → k.serving ≡ c → ((a && c) && is_named names k.name) ≡ (a && (c && k.streams))
      go false c e g = refl
      go true false e g = refl
      go true true e g = let served = served_end j k found (eqb_is k.to n e) g in named k.name ∙ (ap streams served.1 ∙ streams_for k.streams served.0 (unread k.ask))

  named_none : (names : List LinkId) → NoneServed s.node names → (j : ℕ) (k : Link) → slice_get w.links j ≡ Some k → (is_at n k && is_named names k.name) ≡ false
  named_none names none j k found = go (k.to == n) k.serving (is_named names k.name) refl refl refl
    where
      go : (a c d : Bool) → (k.to == n) ≡ a → k.serving ≡ c → is_named names k.name ≡ d → ((a && c) && d) ≡ false
      go false c d e g h = refl
      go true false d e g h = refl
      go true true false e g h = refl
      go true true true e g h =
          let served = served_end j k found (eqb_is k.to n e) g in
          let no = none k.name (end_for k.streams served.0 (unread k.ask)) h served.1 in
          let yes = serves_for k.streams served.0 (unread k.ask) in absurd (cc)

  -- ---- how another link is reached
  fed_seen : (within : Option language.Transaction) (b : Bool) (bytes : List ℕ) (k : Link) → IsWay k.tell → link_with within (fed_if b bytes k) ≡ told_if b (link_with within k) bytes
  fed_seen within true bytes k way = ap (λ z. record (link_with within k) { tell = z }) (sent_seen k.tell bytes way)
  fed_seen within false bytes k way = refl

  closed_seen : (within : Option language.Transaction) (b : Bool) (k : Link) → link_with (cond b None within) (shut_if b k) ≡ history.shut b (link_with within k)
  closed_seen within true k = refl
  closed_seen within false k = refl

  -- neither
  pub unreached : (outs : OutsState) → outs.fed ≡ [] → NoneServed s.node outs.closed → (j : ℕ) (k : Link) → slice_get w.links j ≡ Some k → reached n outs k ≡ k
  unreached outs fed closed j k found =
      ap (λ b. shut_if b (fed_if (is_at n k && is_named outs.fed k.name) outs.grown k)) (named_none outs.closed closed j k found)
      ∙ ap (λ b. fed_if b outs.grown k) (named_none outs.fed (no_names s.node outs.fed fed) j k found)

  told_nothing : (b : Bool) (x : history.Link) → x ≡ told_if b x []
  told_nothing true x = ap (λ z. record x { tell = record x.tell { left = z } }) (sym (append-nil x.tell.left))
  told_nothing false x = refl

  -- ---- .. and seen, where what is open at its end stays unless it is closed
  module _ (t : Slot) (outs : OutsState) (j : ℕ) (k : Link) (found : slice_get w.links j ≡ Some k)
      (stays : is_named outs.closed k.name ≡ false → k.to ≡ n → k.serving ≡ true → open_at (Some t) k.name ≡ open_at (Some s) k.name) where
    open_reached : (c d : Bool) (bytes : List ℕ) → (c ≡ false → k.to ≡ n → k.serving ≡ true → open_at (Some t) k.name ≡ open_at (Some s) k.name)
        → open_on (slice_set w.slots n t) (shut_if c (fed_if d bytes k)) ≡ cond c None (open_on w.slots k)
    open_reached true d bytes same = refl
    open_reached false true bytes same = open_stays w.slots n s t at k (same refl)
    open_reached false false bytes same = open_stays w.slots n s t at k (same refl)

    unclosed : (is_at n k && is_named outs.closed k.name) ≡ false → k.to ≡ n → k.serving ≡ true → open_at (Some t) k.name ≡ open_at (Some s) k.name
    unclosed e to g = stays (and_third (k.to == n) k.serving (is_named outs.closed k.name) e (eqb_yes k.to n to) g) to g

    -- neither
    pub unreached_seen : outs.fed ≡ [] → NoneServed s.node outs.closed → seen_link (slice_set w.slots n t) (reached n outs k) ≡ seen_link w.slots k
    unreached_seen fed closed = ap (seen_link (slice_set w.slots n t)) (unreached outs fed closed j k found)
        ∙ ap (λ o. link_with o k) (open_stays w.slots n s t at k (unclosed (named_none outs.closed closed j k found)))

    -- fed
    pub fed_reached : FedTo outs.grown s.node outs.fed → outs.closed ≡ [] → seen_link (slice_set w.slots n t) (reached n outs k) ≡ told_if (hears n (seen_link w.slots k)) (seen_link w.slots k) outs.grown
    fed_reached fed closed =
        let d = is_at n k && is_named outs.fed k.name in
        let none = named_none outs.closed (no_names s.node outs.closed closed) j k found in
        ap (λ b. seen_link (slice_set w.slots n t) (shut_if b (fed_if d outs.grown k))) none
        ∙ (ap (λ o. link_with o (fed_if d outs.grown k)) (open_reached false d outs.grown (λ e. unclosed none))
        ∙ (fed_seen (open_on w.slots k) d outs.grown k (is.tells j k found) ∙ go outs.grown fed))
      where
        go : (bytes : List ℕ) → FedTo bytes s.node outs.fed → told_if (is_at n k && is_named outs.fed k.name) (seen_link w.slots k) bytes ≡ told_if (hears n (seen_link w.slots k)) (seen_link w.slots k) bytes
        go [] none = sym (told_nothing (is_at n k && is_named outs.fed k.name) (seen_link w.slots k)) ∙ told_nothing (hears n (seen_link w.slots k)) (seen_link w.slots k)
        go (x ∷ bytes) listed = ap (λ b. told_if b (seen_link w.slots k) (x ∷ bytes)) (named_hears outs.fed listed.each j k found)

    -- shut
    pub shut_reached : outs.fed ≡ [] → Lists outs.closed s.node.ends.open_links → seen_link (slice_set w.slots n t) (reached n outs k) ≡ history.shut (hears n (seen_link w.slots k)) (seen_link w.slots k)
    shut_reached fed closed =
        let c = is_at n k && is_named outs.closed k.name in
        ap (λ b. seen_link (slice_set w.slots n t) (shut_if c (fed_if b outs.grown k))) (named_none outs.fed (no_names s.node outs.fed fed) j k found)
        ∙ (ap (λ o. link_with o (shut_if c k)) (open_reached c false outs.grown unclosed)
        ∙ (closed_seen (open_on w.slots k) c k ∙ ap (λ b. history.shut b (seen_link w.slots k)) (named_hears outs.closed closed.each j k found)))

-- ---- where a link stands among those that were reached
module _ (old new : Link → history.Link) (f : Link → Link) (links : List Link) where
  pub map_there : (g : history.Link → history.Link) (j : ℕ) → ((k : Link) → slice_get links j ≡ Some k → new (f k) ≡ g (old k)) → option_map new (slice_get (map f links) j) ≡ option_map g (option_map old (slice_get links j))
  map_there g j same = ap (option_map new) (slice_get-map f links j) ∙ go (slice_get links j) refl
    where
      go : (o : Option Link) → slice_get links j ≡ o → option_map new (option_map f o) ≡ option_map g (option_map old o)
      go None e = refl
      go (Some k) e = ap (λ z. Some z) (same k e)

  pub others_there : (l : ℕ) (m : Link) (g : history.Link → history.Link) (j : ℕ) → j ≢ l → ((k : Link) → slice_get links j ≡ Some k → new (f k) ≡ g (old k))
      → option_map new (slice_get (slice_set (map f links) l m) j) ≡ option_map g (option_map old (slice_get links j))
  others_there l m g j ne same = ap (option_map new) (set_there (map f links) l j m ne) ∙ map_there g j same

  pub here : (l : ℕ) (m k : Link) → slice_get links l ≡ Some k → option_map new (slice_get (slice_set (map f links) l m) l) ≡ Some (new m)
  here l m k e = ap (option_map new) (set_here (map f links) l m (f k) (slice_get-map f links l ∙ ap (option_map f) e))
