-- How the parts of it make it that a replica opens its end of a link, and that a node accepts the link later.
use Rattle.std.proofs.Common.{◌≡◌, ◌⊎◌, inl, inr, ◌<◌, ◌≤◌, ◌++◌, ◌∷◌, [], ℕ, List, Bool, true, false, None, Some, length, get_or, refl, sym, ap, ◌∙◌, arith}
use Rattle.std.specs.Prelude.{slice_get, slice_set}
use Rattle.mr_links.specs.declared.link_id.LinkId.{LinkId}
use Rattle.mr_node_output.specs.Outs.{OutsState}
use Rattle.mr_follower.specs.Handshake.{ping_line}
use Rattle.mr_node_spec.specs.Sound.{IsSound}
use Rattle.mr_node_spec.specs.LinkRows.{Opens, Dials}
use Rattle.mr_node.specs.Calls.{OpensNoMore}
use Rattle.law_refinement.specs.Way.{WayState, no_way, sent_on}
use Rattle.law_refinement.specs.State.{Link, Slot, WorldState, a_node}
use Rattle.law_refinement.specs.Events.{IsWaiting}
use Rattle.law_refinement.specs.Carrying.{accepted_by}
use Rattle.law_refinement.proofs.Places.{is_within, some_is}
use Rattle.mr_world_parts.proofs.Places.{stands}
use Rattle.mr_world.specs.Calls.{IsDown}
use Rattle.mr_world.specs.Accepting.{Accepted, CanAccept, CanConnect, Connected}
use Rattle.mr_world.proofs.Joins.{opens_none, running}

-- ---- a replica opens its end
pub no_dialler : (w : WorldState) (n : ℕ) → length w.slots ≤ n → CanConnect w n → ⊥
no_dialler w n far c = let near = is_within w.slots n c.dialler c.at in omega (arith, far, near)

module _ (w : WorldState) (n : ℕ) (x : Slot) (within : n < length w.slots) (slot : x ≡ get_or w.slots n x) where
  x_at : slice_get w.slots n ≡ Some x
  x_at = stands w.slots n x within slot

  pub cant_connect : (b : Bool) → b ≡ false → ((x.node.core.master ≡ false) × (x.node.follow ≡ None) → b ≡ true) → CanConnect w n → ⊥
  cant_connect b is h c =
      let one : c.dialler ≡ x = some_is c.dialler x (sym c.at ∙ x_at) in
      let wrong : false ≡ true = sym is ∙ h (ap (λ (z : Slot). z.node.core.master) (sym one) ∙ c.replica, ap (λ (z : Slot). z.node.follow) (sym one) ∙ c.alone) in
      cc

  pub down_here : x.node.core.up ≡ false → IsDown w n
  down_here down = record { slot = x; at = x_at; down = down }

  pub can_connect : x.node.core.master ≡ false → x.node.follow ≡ None → CanConnect w n
  can_connect replica alone = record { dialler = x; at = x_at; replica = replica; alone = alone }

  pub opens_here : (t : Slot) (name : LinkId) (outs : OutsState) (k : Link) (links : List Link) (l : ℕ) (ask : WayState) → x.node.core.up ≡ true → l ≡ length w.links → Dials x.node name t.node outs → IsSound t.node
      → t ≡ record x { node = t.node; dialled = l } → ask ≡ sent_on ping_line no_way
      → k ≡ record { caller = a_node n name; waits = true; to = n; name = name; serving = false; streams = false; ask = ask; tell = no_way } → links ≡ w.links ++ k ∷ []
      → Connected w n (record w { slots = slice_set w.slots n t; links = links })
  opens_here t name outs k links l ask up li d sound ts asked ks ls = Connected.opens (record {
    slot = x;
    running = running w n x within slot up;
    name = name;
    node = t.node;
    outs = outs;
    dials = d;
    sound = sound;
    is = ap (λ (z : Slot). record w { slots = slice_set w.slots n z; links = links }) (ts ∙ ap (λ i. record x { node = t.node; dialled = i }) li)
        ∙ ap (λ (z : List Link). record w { slots = slice_set w.slots n (record x { node = t.node; dialled = length w.links }); links = z })
        (ls ∙ ap (λ (z : Link). w.links ++ z ∷ []) (ks ∙ ap (λ (z : WayState). record { caller = a_node n name; waits = true; to = n; name = name; serving = false; streams = false; ask = z; tell = no_way })
        (asked ∙ ap (λ z. sent_on z no_way) (sym (ap (λ (z : OutsState). z.reply) d.outs_are)))));
  })

  pub ends_here : (t : Slot) (links : List Link) → OpensNoMore x.node t.node → t ≡ record x { node = t.node } → links ≡ w.links → Connected w n (record w { slots = slice_set w.slots n t; links = links })
  ends_here t links o rest ls = elim (opens_none w n x within slot t links o rest ls) [
    | inl d ↦ Connected.stops d
    | inr p ↦ Connected.rests p.0 p.1
  ]

-- ---- a node accepts
pub no_link : (w : WorldState) (l m : ℕ) → length w.links ≤ l → CanAccept w l m → ⊥
no_link w l m far c = let near = is_within w.links l c.link c.waiting.found in omega (arith, far, near)

pub no_acceptor : (w : WorldState) (l m : ℕ) → length w.slots ≤ m → CanAccept w l m → ⊥
no_acceptor w l m far c = let near = is_within w.slots m c.server c.at in omega (arith, far, near)

module _ (w : WorldState) (l : ℕ) (k : Link) (l_in : l < length w.links) (link : k ≡ get_or w.links l k) where
  k_at : slice_get w.links l ≡ Some k
  k_at = stands w.links l k l_in link

  pub is_accepted : (m : ℕ) → k.waits ≡ false → CanAccept w l m → ⊥
  is_accepted m served c =
      let wrong : false ≡ true = sym served ∙ (ap (λ (z : Link). z.waits) (some_is k c.link (sym k_at ∙ c.waiting.found)) ∙ c.waiting.waits) in
      cc

  module _ (waits : k.waits ≡ true) where
    waiting : IsWaiting w l k
    waiting = record { found = k_at; waits = waits }

    module _ (m : ℕ) (x : Slot) (within : m < length w.slots) (slot : x ≡ get_or w.slots m x) where
      pub can_accept : CanAccept w l m
      can_accept = record { link = k; waiting = waiting; server = x; at = stands w.slots m x within slot }

      pub accepts_here : (t : Slot) (at : LinkId) (j : Link) → x.node.core.up ≡ true → Opens x.node at t.node → t ≡ record x { node = t.node } → j ≡ accepted_by m at k
          → Accepted w l m (record w { slots = slice_set w.slots m t; links = slice_set w.links l j })
      accepts_here t at j up o rest js = Accepted.accepts (record {
        link = k;
        waiting = waiting;
        slot = x;
        running = running w m x within slot up;
        at = at;
        node = t.node;
        opens = o;
        is = ap (λ (z : Link). record w { slots = slice_set w.slots m t; links = slice_set w.links l z }) js
            ∙ ap (λ (z : Slot). record w { slots = slice_set w.slots m z; links = slice_set w.links l (accepted_by m at k) }) rest;
      })

      pub stays_here : (t : Slot) (links : List Link) → OpensNoMore x.node t.node → t ≡ record x { node = t.node } → links ≡ w.links → Accepted w l m (record w { slots = slice_set w.slots m t; links = links })
      stays_here t links o rest ls = elim (opens_none w m x within slot t links o rest ls) [
        | inl d ↦ Accepted.stops d
        | inr p ↦ Accepted.rests p.0 p.1
      ]
