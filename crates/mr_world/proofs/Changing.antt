-- What is true of each World stays so, where a node or a link of it changes, or one comes.
use Rattle.std.proofs.Common.{◌≡◌, ◌≢◌, ◌⊎◌, inl, inr, ℕ, List, [], ◌∷◌, ◌++◌, true, Option, Some, refl, sym, ap, subst, ◌∙◌}
use Rattle.std.specs.Prelude.{slice_get, slice_set}
use Rattle.mr_links.specs.declared.link_id.LinkId.{LinkId}
use Rattle.mr_follower.specs.State.{FollowState, Agrees}
use Rattle.mr_node_links.specs.State.{Transaction}
use Rattle.mr_node_spec.specs.State.{NodeState, end_of}
use Rattle.mr_node_spec.specs.Sound.{IsSound}
use Rattle.law_refinement.specs.Way.{IsWay, unread}
use Rattle.law_refinement.specs.State.{a_node, BookEntry, Link, Slot, WorldState}
use Rattle.law_refinement.specs.Worlds.{IsUntouched, IsWorld, HasServer, HasMaster, end_for}
use Rattle.law_refinement.proofs.Places.{set_here, set_there, set_cases, push_cases, push_old, some_is}
use Rattle.law_refinement.proofs.Reading.{number_or}

-- the node's end of a link is open and agrees with it, in a transaction or in none
abbrev pub HasEnd : NodeState → Link → Type 0
HasEnd a k = (held : Option Transaction) × (end_of a k.name ≡ Some (end_for k.streams held (unread k.ask)))

-- the ends that would agree with the one link agree with the other
abbrev pub SameEnds : Link → Link → Type 0
SameEnds x y = (held : Option Transaction) → end_for x.streams held (unread x.ask) ≡ end_for y.streams held (unread y.ask)

-- a link that was there, at the same node by the same name, and its server's end isn't opened anew
pub record Was (w : WorldState) (j : ℕ) (y : Link) : Type 0 where
  pub link : Link
  pub found : slice_get w.links j ≡ Some link
  pub to : y.to ≡ link.to
  pub name : y.name ≡ link.name
  pub serving : y.serving ≡ true → link.serving ≡ true

-- The node n is t from now on, and the links are these.
pub record Changed (w : WorldState) (n : ℕ) (t : Slot) (links : List Link) : Type 0 where
  pub origin : (j : ℕ) (y : Link) → slice_get links j ≡ Some y → Was w j y
  pub asks : (j : ℕ) (y : Link) → slice_get links j ≡ Some y → IsWay y.ask
  pub tells : (j : ℕ) (y : Link) → slice_get links j ≡ Some y → IsWay y.tell
  pub untouched : (j : ℕ) (y : Link) → slice_get links j ≡ Some y → y.waits ≡ true → IsUntouched y
  pub here : (j : ℕ) (y : Link) → slice_get links j ≡ Some y → y.to ≡ n → t.node.core.up ≡ true → y.serving ≡ true → HasEnd t.node y
  pub there : (j : ℕ) (x y : Link) → slice_get w.links j ≡ Some x → slice_get links j ≡ Some y → y.to ≢ n → y.serving ≡ true → SameEnds x y
  pub sound : t.node.core.up ≡ true → IsSound t.node
  pub own : (name : LinkId) (f : FollowState) → t.node.core.up ≡ true → t.node.follow ≡ Some (name, f) → HasMaster links n t name f
  pub onward : (i : ℕ) (u : Slot) (name : LinkId) (f : FollowState) → i ≢ n → HasMaster w.links i u name f → HasMaster links i u name f

module _ (w : WorldState) (n : ℕ) (s t : Slot) (links : List Link) (is : IsWorld w) (at : slice_get w.slots n ≡ Some s) (c : Changed w n t links) where
  server : (j : ℕ) (y : Link) → slice_get links j ≡ Some y → HasServer (slice_set w.slots n t) y
  server j y e = let x = c.origin j y e in elim (number_or y.to n) [
    | inl same ↦ record {
      slot = t;
      found = ap (slice_get (slice_set w.slots n t)) same ∙ set_here w.slots n t s at;
      agrees = λ up q. c.here j y e same up q;
    }
    | inr apart ↦ (let h = is.servers j x.link x.found in record {
      slot = h.slot;
      found = set_there w.slots n y.to t apart ∙ (ap (slice_get w.slots) x.to ∙ h.found);
      agrees = λ up q. let v = h.agrees up (x.serving q) in (v.0, ap (end_of h.slot.node) x.name ∙ (v.1 ∙ ap (λ z. Some z) (c.there j x.link y x.found e apart q v.0)));
    })
  ]

  node_of : (m : ℕ) (u : Slot) → ((m ≡ n) × (u ≡ t)) ⊎ ((m ≢ n) × (slice_get w.slots m ≡ Some u)) → u.node.core.up ≡ true → IsSound u.node
  node_of m u (inl p) up = subst (λ (z : Slot). IsSound z.node) (sym p.1) (c.sound (subst (λ (z : Slot). z.node.core.up ≡ true) p.1 up))
  node_of m u (inr p) up = is.nodes m u p.1 up

  follower_of : (m : ℕ) (u : Slot) (name : LinkId) (f : FollowState) → ((m ≡ n) × (u ≡ t)) ⊎ ((m ≢ n) × (slice_get w.slots m ≡ Some u)) → u.node.core.up ≡ true → u.node.follow ≡ Some (name, f) → HasMaster links m u name f
  follower_of m u name f (inl p) up q =
      subst (λ (z : Slot). HasMaster links m z name f) (sym p.1) (subst (λ (i : ℕ). HasMaster links i t name f) (sym p.0)
      (c.own name f (subst (λ (z : Slot). z.node.core.up ≡ true) p.1 up) (ap (λ (z : Slot). z.node.follow) (sym p.1) ∙ q)))
  follower_of m u name f (inr p) up q = c.onward m u name f p.0 (is.followers m u name f p.1 up q)

  pub changed_world : IsWorld (record w { slots = slice_set w.slots n t; links = links })
  changed_world = record {
    asks = c.asks;
    tells = c.tells;
    servers = server;
    untouched = c.untouched;
    names = λ i j y z e f p q d a. let x = c.origin i y e in let v = c.origin j z f in
        is.names i j x.link v.link x.found v.found (x.serving p) (v.serving q) (sym x.to ∙ (d ∙ v.to)) (sym x.name ∙ (a ∙ v.name));
    nodes = λ m u e up. node_of m u (set_cases w.slots n m t u e) up;
    followers = λ m u name f e up q. follower_of m u name f (set_cases w.slots n m t u e) up q;
  }

-- ---- a node changes alone
pub record NodeChanges (w : WorldState) (n : ℕ) (t : Slot) : Type 0 where
  pub here : (j : ℕ) (y : Link) → slice_get w.links j ≡ Some y → y.to ≡ n → t.node.core.up ≡ true → y.serving ≡ true → HasEnd t.node y
  pub sound : t.node.core.up ≡ true → IsSound t.node
  pub own : (name : LinkId) (f : FollowState) → t.node.core.up ≡ true → t.node.follow ≡ Some (name, f) → HasMaster w.links n t name f

pub node_world : (w : WorldState) (n : ℕ) (s t : Slot) → IsWorld w → slice_get w.slots n ≡ Some s → NodeChanges w n t → IsWorld (record w { slots = slice_set w.slots n t })
node_world w n s t is at c = changed_world w n s t w.links is at (record {
  origin = λ j y e. record { link = y; found = e; to = refl; name = refl; serving = λ q. q };
  asks = is.asks;
  tells = is.tells;
  untouched = is.untouched;
  here = c.here;
  there = λ j x y d e apart q held. let one : x ≡ y = some_is x y (sym d ∙ e) in ap (λ (z : Link). end_for z.streams held (unread z.ask)) one;
  sound = c.sound;
  own = c.own;
  onward = λ i u name f apart h. h;
})

-- ---- one link changes, and a node with it
pub record LinkChanges (w : WorldState) (n : ℕ) (t : Slot) (l : ℕ) (k m : Link) : Type 0 where
  pub to : m.to ≡ k.to
  pub name : m.name ≡ k.name
  pub serving : m.serving ≡ true → k.serving ≡ true
  pub ask : IsWay m.ask
  pub tell : IsWay m.tell
  pub untouched : m.waits ≡ true → IsUntouched m
  pub here : m.to ≡ n → t.node.core.up ≡ true → m.serving ≡ true → HasEnd t.node m
  pub others : (j : ℕ) (y : Link) → j ≢ l → slice_get w.links j ≡ Some y → y.to ≡ n → t.node.core.up ≡ true → y.serving ≡ true → HasEnd t.node y
  pub there : m.to ≢ n → m.serving ≡ true → SameEnds k m
  pub sound : t.node.core.up ≡ true → IsSound t.node
  pub own : (name : LinkId) (f : FollowState) → t.node.core.up ≡ true → t.node.follow ≡ Some (name, f) → HasMaster (slice_set w.links l m) n t name f
  pub onward : (i : ℕ) (name : LinkId) (f : FollowState) → i ≢ n → k.caller ≡ a_node i name → Agrees f (unread k.tell) → (m.caller ≡ a_node i name) × Agrees f (unread m.tell)

-- what a node has of its master's link, where that is the one that changes and where it isn't
pub master_set : (w : WorldState) (l : ℕ) (k m : Link) (i : ℕ) (u : Slot) (name : LinkId) (f : FollowState) → slice_get w.links l ≡ Some k
    → (k.caller ≡ a_node i name → Agrees f (unread k.tell) → (m.caller ≡ a_node i name) × Agrees f (unread m.tell)) → HasMaster w.links i u name f → HasMaster (slice_set w.links l m) i u name f
master_set w l k m i u name f found goes h = elim (number_or u.dialled l) [
  | inl same ↦
      (let one : h.link ≡ k = some_is h.link k (sym h.found ∙ (ap (slice_get w.links) same ∙ found)) in
      let g = goes (ap (λ (z : Link). z.caller) (sym one) ∙ h.caller) (subst (λ (z : Link). Agrees f (unread z.tell)) one h.agrees) in
      record { link = m; found = ap (slice_get (slice_set w.links l m)) same ∙ set_here w.links l m k found; caller = g.0; agrees = g.1 })
  | inr apart ↦ record { link = h.link; found = set_there w.links l u.dialled m apart ∙ h.found; caller = h.caller; agrees = h.agrees }
]

pub link_world : (w : WorldState) (n : ℕ) (s t : Slot) (l : ℕ) (k m : Link) → IsWorld w → slice_get w.slots n ≡ Some s → slice_get w.links l ≡ Some k → LinkChanges w n t l k m
    → IsWorld (record w { slots = slice_set w.slots n t; links = slice_set w.links l m })
link_world w n s t l k m is at found c = changed_world w n s t (slice_set w.links l m) is at (record {
  origin = λ j y e. elim (set_cases w.links l j m y e) [
    | inl p ↦ record { link = k; found = ap (slice_get w.links) p.0 ∙ found; to = ap (λ (z : Link). z.to) p.1 ∙ c.to; name = ap (λ (z : Link). z.name) p.1 ∙ c.name; serving = λ q. c.serving (subst (λ (z : Link). z.serving ≡ true) p.1 q) }
    | inr p ↦ record { link = y; found = p.1; to = refl; name = refl; serving = λ q. q }
  ];
  asks = λ j y e. elim (set_cases w.links l j m y e) [ inl p ↦ subst (λ (z : Link). IsWay z.ask) (sym p.1) c.ask | inr p ↦ is.asks j y p.1 ];
  tells = λ j y e. elim (set_cases w.links l j m y e) [ inl p ↦ subst (λ (z : Link). IsWay z.tell) (sym p.1) c.tell | inr p ↦ is.tells j y p.1 ];
  untouched = λ j y e. elim (set_cases w.links l j m y e) [ inl p ↦ subst (λ (z : Link). z.waits ≡ true → IsUntouched z) (sym p.1) c.untouched | inr p ↦ is.untouched j y p.1 ];
  here = λ j y e. elim (set_cases w.links l j m y e) [
    | inl p ↦ subst (λ (z : Link). z.to ≡ n → t.node.core.up ≡ true → z.serving ≡ true → HasEnd t.node z) (sym p.1) c.here
    | inr p ↦ c.others j y p.0 p.1
  ];
  there = λ j x y d e. elim (set_cases w.links l j m y e) [
    | inl p ↦
        (let one : k ≡ x = some_is k x (sym found ∙ (ap (slice_get w.links) (sym p.0) ∙ d)) in
        subst (λ (z : Link). y.to ≢ n → y.serving ≡ true → SameEnds z y) one
        (subst (λ (z : Link). z.to ≢ n → z.serving ≡ true → SameEnds k z) (sym p.1) c.there))
    | inr p ↦ (let one : x ≡ y = some_is x y (sym d ∙ p.1) in λ apart q held. ap (λ (z : Link). end_for z.streams held (unread z.ask)) one)
  ];
  sound = c.sound;
  own = c.own;
  onward = λ i u name f apart h. master_set w l k m i u name f found (c.onward i name f apart) h;
})

-- ---- one comes
pub link_comes : (w : WorldState) (k : Link) → IsWorld w → IsWay k.ask → IsWay k.tell → HasServer w.slots k → (k.waits ≡ true → IsUntouched k)
    → ((j : ℕ) (y : Link) → slice_get w.links j ≡ Some y → y.serving ≡ true → y.to ≡ k.to → y.name ≡ k.name → ⊥) → IsWorld (record w { links = w.links ++ k ∷ [] })
link_comes w k is ask tell served untouched new = record {
  asks = λ j y e. elim (push_cases w.links k j y e) [ inl p ↦ subst (λ (z : Link). IsWay z.ask) (sym p.1) ask | inr p ↦ is.asks j y p ];
  tells = λ j y e. elim (push_cases w.links k j y e) [ inl p ↦ subst (λ (z : Link). IsWay z.tell) (sym p.1) tell | inr p ↦ is.tells j y p ];
  servers = λ j y e. elim (push_cases w.links k j y e) [ inl p ↦ subst (λ (z : Link). HasServer w.slots z) (sym p.1) served | inr p ↦ is.servers j y p ];
  untouched = λ j y e. elim (push_cases w.links k j y e) [ inl p ↦ subst (λ (z : Link). z.waits ≡ true → IsUntouched z) (sym p.1) untouched | inr p ↦ is.untouched j y p ];
  names = λ i j y z e f p q d a. elim (push_cases w.links k i y e) [
    | inl x ↦ elim (push_cases w.links k j z f) [
      | inl v ↦ x.0 ∙ sym v.0
      | inr v ↦ absurd (new j z v q (sym d ∙ ap (λ (z : Link). z.to) x.1) (sym a ∙ ap (λ (z : Link). z.name) x.1))
    ]
    | inr x ↦ elim (push_cases w.links k j z f) [
      | inl v ↦ absurd (new i y x p (d ∙ ap (λ (z : Link). z.to) v.1) (a ∙ ap (λ (z : Link). z.name) v.1))
      | inr v ↦ is.names i j y z x v p q d a
    ]
  ];
  nodes = is.nodes;
  followers = λ m u name f e up q. let h = is.followers m u name f e up q in record { link = h.link; found = push_old w.links k u.dialled h.link h.found; caller = h.caller; agrees = h.agrees };
}

pub node_comes : (w : WorldState) (t : Slot) (book : List BookEntry) → IsWorld w → IsSound t.node → ((name : LinkId) (f : FollowState) → t.node.follow ≡ Some (name, f) → ⊥) → IsWorld (record w { slots = w.slots ++ t ∷ []; book = book })
node_comes w t book is sound nobody = record {
  asks = is.asks;
  tells = is.tells;
  servers = λ j y e. let h = is.servers j y e in record { slot = h.slot; found = push_old w.slots t y.to h.slot h.found; agrees = h.agrees };
  untouched = is.untouched;
  names = is.names;
  nodes = λ m u e up. elim (push_cases w.slots t m u e) [ inl p ↦ subst (λ (z : Slot). IsSound z.node) (sym p.1) sound | inr p ↦ is.nodes m u p up ];
  followers = λ m u name f e up q. elim (push_cases w.slots t m u e) [ inl p ↦ absurd (nobody name f (ap (λ (z : Slot). z.node.follow) (sym p.1) ∙ q)) | inr p ↦ is.followers m u name f p up q ];
}
