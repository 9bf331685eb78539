-- How the parts of an event make it.
use Rattle.std.proofs.Common.{◌≡◌, ◌⊎◌, inl, inr, ◌+◌, ◌<◌, ◌≤◌, ℕ, List, [], ◌∷◌, ◌++◌, Bool, true, false, Some, length, get_or, refl, sym, ap, subst, ◌∙◌}
use Rattle.std.specs.Prelude.{slice_get, slice_set}
use Rattle.std.proofs.lemmas.List.{set-get_or}
use Rattle.mr_links.specs.declared.link_id.LinkId.{LinkId}
use Rattle.mr_node_spec.specs.State.{NodeState, stopped_as}
use Rattle.mr_node_spec.specs.LinkRows.{Opens, closed_at}
use Rattle.mr_node.specs.Calls.{OpensNoMore}
use Rattle.law_refinement.specs.Way.{sent_on, taken_on}
use Rattle.law_refinement.specs.State.{WorldState, Slot, Link, a_client}
use Rattle.law_refinement.specs.Carrying.{opened_link}
use Rattle.law_refinement.specs.Worlds.{IsWorld}
use Rattle.law_refinement.specs.Events.{IsRunning}
use Rattle.law_refinement.proofs.Places.{is_within, some_is}
use Rattle.law_refinement.specs.OwnEnds.{IsAClients}
use Rattle.mr_world_parts.specs.AtLink.{IsAsking}
use Rattle.mr_world_parts.proofs.Places.{stands}
use Rattle.mr_world.specs.Calls.{Breaks, Clients, IsDown, Runs, StopsForLinks, NoneAsks, Sends, Takes, WereNotSent, Leaves, put_link}

pub put_same : {A : Type 0} (xs : List A) (i : ℕ) (x t : A) → x ≡ get_or xs i x → t ≡ x → slice_set xs i t ≡ xs
put_same xs i x t r e = ap (λ z. slice_set xs i z) (e ∙ r) ∙ set-get_or xs i x

node_is : (x t : Slot) → t ≡ record x { node = t.node } → (b : NodeState) → t.node ≡ b → t ≡ record x { node = b }
node_is x t r b e = r ∙ ap (λ (z : NodeState). record x { node = z }) e

-- ---- a client's link
module _ (w : WorldState) (n : ℕ) (x : Slot) (within : n < length w.slots) (slot : x ≡ get_or w.slots n x) where
  pub rests_here : x.node.core.up ≡ false → Clients w n w
  rests_here down = Clients.rests (record { slot = x; at = stands w.slots n x within slot; down = down }) refl

  pub running : x.node.core.up ≡ true → IsRunning w n x
  running up = record { at = stands w.slots n x within slot; up = up }

  pub runs_here : x.node.core.up ≡ true → Runs w n
  runs_here up = record { slot = x; running = running up }

  pub came : (t : Slot) (name : LinkId) (k : Link) (links : List Link) → x.node.core.up ≡ true → Opens x.node name t.node → t ≡ record x { node = t.node } → k ≡ opened_link n name → links ≡ w.links ++ k ∷ []
      → Clients w n (record w { slots = slice_set w.slots n t; links = links })
  came t name k links up o rest is ls = Clients.comes (record {
    slot = x;
    running = running up;
    name = name;
    node = t.node;
    opens = o;
    is = ap (λ (z : List Link). record w { slots = slice_set w.slots n t; links = z }) (ls ∙ ap (λ z. w.links ++ z ∷ []) is)
        ∙ ap (λ (z : Slot). record w { slots = slice_set w.slots n z; links = w.links ++ opened_link n name ∷ [] }) rest;
  })

  pub same_slots : (t : Slot) (links : List Link) → t.node ≡ x.node → t ≡ record x { node = t.node } → links ≡ w.links → ◌≡◌ {A = WorldState} (record w { slots = slice_set w.slots n t; links = links }) w
  same_slots t links e rest ls = ap (λ (z : List Link). record w { slots = slice_set w.slots n t; links = z }) ls ∙ ap (λ (z : List Slot). record w { slots = z }) (put_same w.slots n x t slot (node_is x t rest x.node e))

  -- it has opened as many links as it may, or is stopped
  pub opens_none : (t : Slot) (links : List Link) → OpensNoMore x.node t.node → t ≡ record x { node = t.node } → links ≡ w.links
      → StopsForLinks w n (record w { slots = slice_set w.slots n t; links = links }) ⊎ (IsDown w n × ◌≡◌ {A = WorldState} (record w { slots = slice_set w.slots n t; links = links }) w)
  opens_none t links o rest ls = elim o [
    | OpensNoMore.down d e ↦ inr (record { slot = x; at = stands w.slots n x within slot; down = d }, same_slots t links e rest ls)
    | OpensNoMore.spent up far e ↦ inl (record {
      slot = x;
      running = running up;
      spent = far;
      is = ap (λ (z : List Link). record w { slots = slice_set w.slots n t; links = z }) ls ∙ ap (λ (z : Slot). record w { slots = slice_set w.slots n z }) (node_is x t rest (stopped_as x.node) e);
    })
  ]

  pub stops_here : (t : Slot) (links : List Link) → OpensNoMore x.node t.node → t ≡ record x { node = t.node } → links ≡ w.links → Clients w n (record w { slots = slice_set w.slots n t; links = links })
  stops_here t links o rest ls = elim (opens_none t links o rest ls) [
    | inl d ↦ Clients.stops d
    | inr p ↦ Clients.rests p.0 p.1
  ]

-- ---- what a client sends
module _ (w : WorldState) (l : ℕ) (x : Link) (within : l < length w.links) (link : x ≡ get_or w.links l x) where
  pub asks_here : IsAsking x → IsAClients w l x
  asks_here asking = record { found = stands w.links l x within link; asking = asking }

  pub none_asks : (IsAsking x → ⊥) → NoneAsks w l
  none_asks closed k at = let one : x ≡ k = some_is x k (sym (stands w.links l x within link) ∙ at.found) in closed (subst (λ (z : Link). IsAsking z) (sym one) at.asking)

  pub same_links : (y : Link) → y ≡ x → put_link w l y ≡ w
  same_links y e = ap (λ (z : List Link). record w { links = z }) (put_same w.links l x y link e)

  pub sends_here : (bytes : List ℕ) (y : Link) → IsAsking x → y ≡ record x { ask = sent_on bytes x.ask } → Sends w l bytes (put_link w l y)
  sends_here bytes y asking e = record { link = x; at = asks_here asking; is = ap (λ (z : Link). put_link w l z) e }

  pub takes_here : (count : ℕ) (y : Link) → IsAsking x → x.tell.taken + count ≤ length x.tell.sent → y ≡ record x { tell = taken_on count x.tell } → Takes w l count (put_link w l y)
  takes_here count y asking sent e = record { link = x; at = asks_here asking; sent = sent; is = ap (λ (z : Link). put_link w l z) e }

  pub not_sent : (count : ℕ) → IsAsking x → (b : Bool) → b ≡ false → (x.tell.taken + count ≤ length x.tell.sent → b ≡ true) → WereNotSent w l count
  not_sent count asking b is f = record { link = x; at = asks_here asking; fewer = λ h. let wrong : false ≡ true = sym is ∙ f h in cc }

  pub leaves_here : (y : Link) → IsAsking x → y ≡ record x { caller = a_client false } → Leaves w l (put_link w l y)
  leaves_here y asking e = record { link = x; at = asks_here asking; is = ap (λ (z : Link). put_link w l z) e }

-- what is read twice at a place is the same
pub read_twice : {A : Type 0} (xs : List A) (i : ℕ) (x y : A) → i < length xs → x ≡ get_or xs i x → y ≡ get_or xs i y → x ≡ y
read_twice xs i x y within p q = some_is x y (sym (stands xs i x within p) ∙ stands xs i y within q)

-- ---- a server's end
module _ (w : WorldState) (l to : ℕ) (k : Link) (within : l < length w.links) (link : k ≡ get_or w.links l k) (at : to ≡ k.to) where
  found_link : slice_get w.links l ≡ Some k
  found_link = stands w.links l k within link

  pub server_there : IsWorld w → to < length w.slots
  server_there is = let h = is.servers l k found_link in is_within w.slots to h.slot (ap (slice_get w.slots) at ∙ h.found)

  module _ (x : Slot) (there : to < length w.slots) (slot : x ≡ get_or w.slots to x) (serving : k.serving ≡ true) where
    found_slot : slice_get w.slots k.to ≡ Some x
    found_slot = ap (slice_get w.slots) (sym at) ∙ stands w.slots to x there slot

    pub idles_here : x.node.core.up ≡ false → Breaks w l w
    idles_here down = Breaks.idles k (record { found = found_link; serving = serving }) (record { slot = x; at = found_slot; down = down }) refl

    pub closes_here : (t : Slot) (name : LinkId) (m : Link) → x.node.core.up ≡ true → name ≡ k.name → t ≡ record x { node = closed_at name x.node } → m ≡ record k { serving = false }
        → Breaks w l (record w { slots = slice_set w.slots to t; links = slice_set w.links l m })
    closes_here t name m up n c e = Breaks.closes (record {
      link = k;
      slot = x;
      served = record { found = found_link; serving = serving; at = found_slot; up = up };
      is = ap (λ (z : Link). record w { slots = slice_set w.slots to t; links = slice_set w.links l z }) e
          ∙ (ap (λ i. record w { slots = slice_set w.slots i t; links = slice_set w.links l (record k { serving = false }) }) at
          ∙ ap (λ (z : Slot). record w { slots = slice_set w.slots k.to z; links = slice_set w.links l (record k { serving = false }) }) (c ∙ ap (λ i. record x { node = closed_at i x.node }) n));
    })
