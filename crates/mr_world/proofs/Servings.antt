-- How the parts of a step at a server's end make it, and that what is true of each World stays.
use Rattle.std.proofs.Common.{◌≡◌, ◌<◌, inl, inr, ◌∙◌, ℕ, List, Bool, true, false, Option, None, Some, Result, Ok, Err, length, get_or, refl, sym, ap, subst}
use Rattle.std.specs.Prelude.{slice_get, slice_set}
use Rattle.mr_links.specs.declared.link_id.LinkId.{LinkId}
use Rattle.mr_data.specs.declared.given.Given.{Given}
use Rattle.mr_node_output.specs.Outs.{OutsState}
use Rattle.mr_node_links.specs.State.{Transaction}
use Rattle.mr_node_spec.specs.State.{Agrees, AgreesWithin, NodeState, end_of, shown, stopped_as}
use Rattle.mr_node_spec.specs.Sound.{IsSound}
use Rattle.mr_node.specs.Steps.{ClientStep, ReplicaStep, Steps}
use Rattle.mr_node.specs.Within.{WithinStep}
use Rattle.mr_node.specs.declared.fault.NodeFault.{NodeFault}
use Rattle.mr_node.specs.declared.fault.NodeFault.TheVariants as fault
use Rattle.mr_node.specs.declared.step.Step.{Step}
use Rattle.mr_node.specs.declared.step.Step.TheVariants as step
use Rattle.law_refinement.specs.Way.{unread}
use Rattle.law_refinement.specs.State.{BookEntry, Link, Slot, WorldState}
use Rattle.law_refinement.specs.Worlds.{IsWorld, end_for}
use Rattle.law_refinement.specs.Carrying.{behind, booked_as, filed, put_node, stepped}
use Rattle.law_refinement.proofs.Places.{is_within, set_here, set_same, some_is}
use Rattle.law_refinement.proofs.Turning.{clients_keep, within_keep, replicas_keep}
use Rattle.mr_world_parts.specs.Answering.{Carries, IsBehind, IsServing, answered_links, carried_as}
use Rattle.mr_world_parts.proofs.Places.{stands, set_twice}
use Rattle.mr_world.specs.declared.refusal.Refusal.{Refusal}
use Rattle.mr_world.specs.declared.refusal.Refusal.TheVariants as refusal
use Rattle.mr_world.specs.Serving.{HasServed, MayLackAt, NeedsMemory, ServedRow, ServesLink, Spends, StepCall}
use Rattle.mr_world.proofs.Changing.{HasEnd}
use Rattle.mr_world.proofs.Feeding.{its_end}
use Rattle.mr_world.proofs.Kept.{stops_world}
use Rattle.mr_world.proofs.Served.{client_behind, within_behind, replica_behind}
use Rattle.mr_world.proofs.Spent.{spends_down}
use Rattle.mr_world.proofs.Ticking.{shown_id, shown_offset}

-- ---- what is true of each World stays
served_keeps : (w : WorldState) (l : ℕ) (given : Given) (fresh : List ℕ) → IsWorld w → (t : HasServed w l given fresh) → IsWorld (stepped w t.link.to t.slot l t.link t.node t.outs)
served_keeps w l given fresh is t = elim t.row [
  | ServedRow.client q g r ↦ clients_keep w l t.link t.slot given fresh t.node t.outs is t.served t.sound r
  | ServedRow.within held q g r ↦ within_keep w l t.link t.slot held given t.node t.outs is t.served t.sound r
  | ServedRow.replica q r ↦ replicas_keep w l t.link t.slot t.node t.outs is t.served t.sound r
]

pub step_keeps : (w v : WorldState) (l : ℕ) (given : Given) (fresh : List ℕ) (r : Result (Unit {0}) Refusal) → IsWorld w → StepCall w l given fresh v r → IsWorld v
step_keeps w v l given fresh (Ok done) is c = elim c.1 [
  | ServesLink.carries t e ↦ subst (λ (z : WorldState). IsWorld z) (sym e) (served_keeps w l given fresh is t)
  | ServesLink.fails t takes e ↦ subst (λ (z : WorldState). IsWorld z) (sym e) (stops_world w t.link.to t.slot (stopped_as t.node) is t.served.at refl)
  | ServesLink.idles t e ↦ subst (λ (z : WorldState). IsWorld z)
      (sym (e ∙ (ap (put_node w t.link.to t.slot) t.idles.same ∙ ap (λ (z : List Slot). record w { slots = z }) (set_same w.slots t.link.to t.slot t.served.at)))) is
  | ServesLink.spends t e ↦ subst (λ (z : WorldState). IsWorld z) (sym e) (stops_world w t.link.to t.slot t.node is t.served.at (spends_down t.link t.slot.node given t.node t.spends))
  | ServesLink.rests k at down e ↦ subst (λ (z : WorldState). IsWorld z) (sym e) is
]
step_keeps w v l given fresh (Err refusal.Drawn) is c = subst (λ (z : WorldState). IsWorld z) (sym c.1) is
step_keeps w v l given fresh (Err refusal.Nobody) is c = subst (λ (z : WorldState). IsWorld z) (sym c.2) is
step_keeps w v l given fresh (Err refusal.Memory) is c = subst (λ (z : WorldState). IsWorld z) (sym c.2) is
step_keeps w v l given fresh (Err refusal.TooMuch) is c = absurd c
step_keeps w v l given fresh (Err refusal.InputFull) is c = absurd c

-- ---- it is carried, or the node stops
module _ (w : WorldState) (n l : ℕ) (s x : Slot) (k : Link) (within : n < length w.slots) (slot : x ≡ get_or w.slots n x) (at : slice_get w.slots n ≡ Some s) (found : slice_get w.links l ≡ Some k) where
  one : x ≡ s
  one = some_is x s (sym (stands w.slots n x within slot) ∙ at)

  pub carries_here : (id : List ℕ) (offset : ℕ) (outs : OutsState) (g : Slot) (links : List Link) (book : List BookEntry) → g ≡ record x { file = filed outs x.file }
      → ((q : Link) → slice_get w.links l ≡ Some q → links ≡ answered_links n l q x.node outs w.links) → book ≡ booked_as outs.used w.book id offset outs.grown
      → ◌≡◌ {A = WorldState} (record { slots = slice_set w.slots n g; links = links; book = book }) (carried_as w n s l k id offset outs)
  carries_here id offset outs g links book f ls bs =
      ap (λ (z : List Link). record { slots = slice_set w.slots n g; links = z; book = book }) (ls k found ∙ ap (λ (z : Slot). answered_links n l k z.node outs w.links) one)
      ∙ (ap (λ (z : List BookEntry). record { slots = slice_set w.slots n g; links = answered_links n l k s.node outs w.links; book = z }) bs
      ∙ ap (λ (z : Slot). record { slots = slice_set w.slots n z; links = answered_links n l k s.node outs w.links; book = booked_as outs.used w.book id offset outs.grown })
      (f ∙ ap (λ (z : Slot). record z { file = filed outs z.file }) one))

  pub stops_here : (g y f : Slot) (links : List Link) (book : List BookEntry) → g ≡ x → y ≡ get_or (slice_set w.slots n g) n y → f ≡ record y { node = stopped_as y.node } → links ≡ w.links → book ≡ w.book
      → ◌≡◌ {A = WorldState} (record { slots = slice_set (slice_set w.slots n g) n f; links = links; book = book }) (put_node w n s (stopped_as s.node))
  stops_here g y f links book same again stops ls bs =
      let placed : slice_get (slice_set w.slots n g) n ≡ Some g = set_here w.slots n g s at in
      let two : y ≡ g = some_is y g (sym (stands (slice_set w.slots n g) n y (is_within (slice_set w.slots n g) n g placed) again) ∙ placed) in
      ap (λ (z : List Link). record { slots = slice_set (slice_set w.slots n g) n f; links = z; book = book }) ls
      ∙ (ap (λ (z : List BookEntry). record { slots = slice_set (slice_set w.slots n g) n f; links = w.links; book = z }) bs
      ∙ ap (λ (z : List Slot). record { slots = z; links = w.links; book = w.book })
      (set_twice w.slots n g f ∙ ap (slice_set w.slots n) (stops ∙ ap (λ (z : Slot). record z { node = stopped_as z.node }) (two ∙ (same ∙ one)))))

-- ---- the step
-- by the kind of the end, and what is open there
data AtServer (k : Link) (a : NodeState) (given : Given) (fresh : List ℕ) (b : NodeState) (r : Result Step NodeFault) : Type 0 where
  client : k.streams ≡ false → Agrees a k.name (unread k.ask) → ClientStep a k.name (unread k.ask) given fresh b r → AtServer k a given fresh b r
  within : (t : Transaction) → k.streams ≡ false → AgreesWithin a k.name t (unread k.ask) → WithinStep a k.name t (unread k.ask) given b r → AtServer k a given fresh b r
  replica : k.streams ≡ true → ReplicaStep a k.name (unread k.ask) b r → AtServer k a given fresh b r

at_server : (k : Link) (a b : NodeState) (given : Given) (fresh : List ℕ) (r : Result Step NodeFault) → a.core.up ≡ true → HasEnd a k → Steps a k.name given fresh b r → AtServer k a given fresh b r
at_server k a b given fresh r up at row = go k.streams at.0 refl at.1
  where
    go : (c : Bool) (held : Option Transaction) → k.streams ≡ c → end_of a k.name ≡ Some (end_for c held (unread k.ask)) → AtServer k a given fresh b r
    go true held q e = AtServer.replica q (row.at_replica (unread k.ask) (record { up = up; agrees = record { is = e } }))
    go false None q e = AtServer.client q (record { is = e }) (row.at_client (unread k.ask) (record { up = up; agrees = record { is = e } }))
    go false (Some t) q e = AtServer.within t q (record { is = e }) (row.at_waiting t (unread k.ask) (record { up = up; agrees = record { is = e } }))

module _ (w : WorldState) (l n : ℕ) (name : LinkId) (given : Given) (fresh : List ℕ) (is : IsWorld w) (v : IsServing w l n name) where
  placed : slice_get w.slots n ≡ Some v.slot
  placed = ap (slice_get w.slots) v.number ∙ v.served.at

  node_there : n < length w.slots
  node_there = is_within w.slots n v.slot placed

  module _ (x : Slot) (slot : x ≡ get_or w.slots n x) where
    first : x ≡ v.slot
    first = some_is x v.slot (sym (stands w.slots n x node_there slot) ∙ placed)

    module _ (t : Slot) (r : Result Step NodeFault) (row : Steps x.node name given fresh t.node r) (rest : t ≡ record x { node = t.node }) where
      came : AtServer v.link v.slot.node given fresh t.node r
      came = at_server v.link v.slot.node t.node given fresh r v.served.up (its_end w l v.link v.slot is v.served)
          (subst (λ (z : Slot). Steps z.node v.link.name given fresh t.node r) first (subst (λ (z : LinkId). Steps x.node z given fresh t.node r) v.named row))

      whole : t ≡ record v.slot { node = t.node }
      whole = rest ∙ ap (λ (z : Slot). record z { node = t.node }) first

      put : ◌≡◌ {A = WorldState} (record w { slots = slice_set w.slots n t }) (put_node w v.link.to v.slot t.node)
      put = ap (λ i. record w { slots = slice_set w.slots i t }) v.number ∙ ap (λ (z : Slot). record w { slots = slice_set w.slots v.link.to z }) whole

      pub never_closed : r ≡ Ok step.Closed → ⊥
      never_closed e = elim (subst (λ z. AtServer v.link v.slot.node given fresh t.node z) e came) [ AtServer.client q g p ↦ p | AtServer.within held q g p ↦ p | AtServer.replica q p ↦ p ]

      pub never_absent : r ≡ Err fault.NoLink → ⊥
      never_absent e = elim (subst (λ z. AtServer v.link v.slot.node given fresh t.node z) e came) [ AtServer.client q g p ↦ p | AtServer.within held q g p ↦ p | AtServer.replica q p ↦ p ]

      pub never_full : r ≡ Err fault.InputFull → ⊥
      never_full e = elim (subst (λ z. AtServer v.link v.slot.node given fresh t.node z) e came) [ AtServer.client q g p ↦ p | AtServer.within held q g p ↦ p | AtServer.replica q p ↦ p ]

      pub idles_there : r ≡ Ok step.Idle → ServesLink w l given fresh (record w { slots = slice_set w.slots n t })
      idles_there e = ServesLink.idles (record {
        link = v.link;
        slot = v.slot;
        served = v.served;
        node = t.node;
        idles = elim (subst (λ z. AtServer v.link v.slot.node given fresh t.node z) e came) [ AtServer.client q g p ↦ p | AtServer.within held q g p ↦ p | AtServer.replica q p ↦ p ];
      }) put

      spent : Spends v.link v.slot.node given t.node → ServesLink w l given fresh (record w { slots = slice_set w.slots n t })
      spent p = ServesLink.spends (record { link = v.link; slot = v.slot; served = v.served; node = t.node; spends = p }) put

      pub spends_there : r ≡ Err fault.Stopped → ServesLink w l given fresh (record w { slots = slice_set w.slots n t })
      spends_there e = elim (subst (λ z. AtServer v.link v.slot.node given fresh t.node z) e came) [
        | AtServer.client q g p ↦ spent (Spends.client q g p)
        | AtServer.within held q g p ↦ spent (Spends.within held q g p)
        | AtServer.replica q p ↦ absurd p
      ]

      pub lacks_there : r ≡ Err fault.Memory → NeedsMemory w l × (◌≡◌ {A = WorldState} (record w { slots = slice_set w.slots n t }) w)
      lacks_there e = elim (subst (λ z. AtServer v.link v.slot.node given fresh t.node z) e came) [
        | AtServer.client q g p ↦ (needs false q p.0, same p.1)
        | AtServer.within held q g p ↦ (needs false q p.0, same p.1)
        | AtServer.replica q p ↦ (needs true q p.0, same p.1)
      ]
        where
          needs : (c : Bool) → v.link.streams ≡ c → MayLackAt c (unread v.link.ask) → NeedsMemory w l
          needs c q lacks = record { link = v.link; slot = v.slot; served = v.served; may_lack = subst (λ z. MayLackAt z (unread v.link.ask)) (sym q) lacks }

          same : t.node ≡ v.slot.node → ◌≡◌ {A = WorldState} (record w { slots = slice_set w.slots n t }) w
          same q = put ∙ (ap (put_node w v.link.to v.slot) q ∙ ap (λ (z : List Slot). record w { slots = z }) (set_same w.slots v.link.to v.slot v.served.at))

      module _ (outs : OutsState) (e : r ≡ Ok (step.Done outs)) where
        row_there : ServedRow v.link v.slot.node given fresh t.node outs
        row_there = elim (subst (λ z. AtServer v.link v.slot.node given fresh t.node z) e came) [
          | AtServer.client q g p ↦ ServedRow.client q g p
          | AtServer.within held q g p ↦ ServedRow.within held q g p
          | AtServer.replica q p ↦ ServedRow.replica q p
        ]

        its_behind : IsBehind t.node v.link.name outs
        its_behind = elim row_there [
          | ServedRow.client q g c ↦ client_behind v.slot.node t.node v.link.name (unread v.link.ask) outs g.is (is.nodes v.link.to v.slot v.served.at v.served.up).node.followed given fresh c
          | ServedRow.within held q g c ↦ within_behind v.slot.node t.node v.link.name (unread v.link.ask) outs held g.is given c
          | ServedRow.replica q c ↦ replica_behind v.slot.node t.node v.link.name (unread v.link.ask) outs c
        ]

        pub behind_there : (s : Slot) (k : Link) → slice_get (slice_set w.slots n t) n ≡ Some s → slice_get w.links l ≡ Some k → IsBehind s.node k.name outs
        behind_there s k at found =
            subst (λ (z : Slot). IsBehind z.node k.name outs) (some_is t s (sym (set_here w.slots n t v.slot placed) ∙ at))
            (subst (λ (z : Link). IsBehind t.node z.name outs) (some_is v.link k (sym v.served.found ∙ found)) its_behind)

        pub carries_there : (sound : IsSound t.node) (id : List ℕ) (offset : ℕ) (y : Slot) (u : WorldState) → y ≡ get_or w.slots n y → shown y.node.core ≡ Some (id, offset)
            → Carries (record w { slots = slice_set w.slots n t }) n l id offset outs u → ServesLink w l given fresh u
        carries_there sound id offset y u early shows c = elim (c t v.link (set_here w.slots n t v.slot placed) v.served.found) [ inl q ↦ ServesLink.carries had (q ∙ all) | inr q ↦ ServesLink.fails had q.0 (q.1 ∙ stop) ]
          where
            had : HasServed w l given fresh
            had = record { link = v.link; slot = v.slot; served = v.served; node = t.node; outs = outs; row = row_there; sound = sound }

            then : y ≡ v.slot
            then = some_is y v.slot (sym (stands w.slots n y node_there early) ∙ placed)

            all : carried_as (record w { slots = slice_set w.slots n t }) n t l v.link id offset outs ≡ stepped w v.link.to v.slot l v.link t.node outs
            all =
                ap (λ (z : List Slot). record { slots = z; links = answered_links n l v.link t.node outs w.links; book = booked_as outs.used w.book id offset outs.grown })
                (set_twice w.slots n t (record t { file = filed outs t.file }) ∙ ap (λ (z : Slot). slice_set w.slots n (record z { file = filed outs z.file })) whole)
                ∙ (ap (λ i. record { slots = slice_set w.slots i (behind v.slot t.node outs); links = answered_links i l v.link t.node outs w.links; book = booked_as outs.used w.book id offset outs.grown }) v.number
                ∙ (ap (λ i. record { slots = slice_set w.slots v.link.to (behind v.slot t.node outs); links = answered_links v.link.to l v.link t.node outs w.links; book = booked_as outs.used w.book i offset outs.grown })
                (shown_id y.node.core (id, offset) shows ∙ ap (λ (z : Slot). z.node.core.lineage.id) then)
                ∙ ap (λ i. record { slots = slice_set w.slots v.link.to (behind v.slot t.node outs); links = answered_links v.link.to l v.link t.node outs w.links; book = booked_as outs.used w.book v.slot.node.core.lineage.id i outs.grown })
                (shown_offset y.node.core (id, offset) shows ∙ ap (λ (z : Slot). z.node.core.lineage.stream.offset) then)))

            stop : put_node (record w { slots = slice_set w.slots n t }) n t (stopped_as t.node) ≡ put_node w v.link.to v.slot (stopped_as t.node)
            stop = ap (λ (z : List Slot). record w { slots = z }) (set_twice w.slots n t (record t { node = stopped_as t.node }) ∙ (ap (λ (z : Slot). slice_set w.slots n (record z { node = stopped_as t.node })) whole
                ∙ ap (λ i. slice_set w.slots i (record v.slot { node = stopped_as t.node })) v.number))

-- ---- which end it is
module _ (w : WorldState) (l to : ℕ) (k : Link) (within : l < length w.links) (link : k ≡ get_or w.links l k) (at : to ≡ k.to) (serving : k.serving ≡ true) (x : Slot) (there : to < length w.slots) (slot : x ≡ get_or w.slots to x) where
  the_link : slice_get w.links l ≡ Some k
  the_link = stands w.links l k within link

  the_slot : slice_get w.slots k.to ≡ Some x
  the_slot = ap (slice_get w.slots) (sym at) ∙ stands w.slots to x there slot

  pub rests_there : (given : Given) (fresh : List ℕ) → x.node.core.up ≡ false → ServesLink w l given fresh w
  rests_there given fresh down = ServesLink.rests k (record { found = the_link; serving = serving }) (record { slot = x; at = the_slot; down = down }) refl

  pub serving_there : (name : LinkId) → name ≡ k.name → x.node.core.up ≡ true → IsServing w l to name
  serving_there name named up = record { link = k; slot = x; served = record { found = the_link; serving = serving; at = the_slot; up = up }; number = at; named = named }
