-- How the parts of it make it that a node dials another, or itself.
use Rattle.std.proofs.Common.{zero, suc, ◌≡◌, ◌≢◌, ◌⊎◌, inl, inr, ◌<◌, ◌≤◌, ◌+◌, ◌++◌, ◌∷◌, [], ℕ, List, Bool, true, false, None, Some, Err, length, get_or, refl, sym, ap, subst, ◌∙◌, arith}
use Rattle.std.specs.Prelude.{slice_get, slice_set}
use Rattle.std.proofs.lemmas.Option.{slice_get-get_or}
use Rattle.mr_links.specs.Links.{Links, links_limit}
use Rattle.mr_links.specs.declared.link_id.LinkId.{LinkId}
use Rattle.mr_node_output.specs.Outs.{OutsState}
use Rattle.mr_follower.specs.Handshake.{ping_line}
use Rattle.mr_node_links.specs.State.{EndState, end_at}
use Rattle.mr_node_spec.specs.State.{Agrees, Core, NodeState, stopped_as}
use Rattle.mr_node_spec.specs.Sound.{IsSound}
use Rattle.mr_node_spec.specs.LinkRows.{Opens, Dials}
use Rattle.mr_node.specs.Calls.{OpensNoMore}
use Rattle.mr_node.specs.declared.fault.NodeFault.{NodeFault}
use Rattle.mr_node.specs.declared.fault.NodeFault.TheVariants as fault
use Rattle.law_refinement.specs.Way.{WayState, no_way, sent_on}
use Rattle.law_refinement.specs.State.{Link, Slot, WorldState, a_node}
use Rattle.law_refinement.specs.Events.{IsRunning}
use Rattle.law_refinement.specs.Carrying.{put_node}
use Rattle.law_refinement.proofs.Places.{is_within, set_cases, set_here, set_there, some_is}
use Rattle.mr_world_parts.specs.AtNode.{DialsBy}
use Rattle.mr_world_parts.proofs.Places.{stands, set_twice}
use Rattle.mr_world.specs.Connecting.{BothRun, CanDial, Dialled, DiallerStops}
use Rattle.mr_world.proofs.Connects.{opened_once, opened_stopped}
use Rattle.mr_world.proofs.Joins.{put_same}

-- what is read at a place where this was put
read_put : (xs : List Slot) (i : ℕ) (x t y : Slot) → slice_get xs i ≡ Some x → y ≡ get_or (slice_set xs i t) i y → y ≡ t
read_put xs i x t y e r =
    let here = set_here xs i t x e in
    some_is y t (sym (stands (slice_set xs i t) i y (is_within (slice_set xs i t) i t here) r) ∙ here)

set_length : {A : Type 0} (xs : List A) (i : ℕ) (x : A) → length (slice_set xs i x) ≡ length xs
set_length [] i x = refl
set_length (z ∷ xs) zero x = refl
set_length (z ∷ xs) (suc i) x = ap suc (set_length xs i x)

set_apart : {A : Type 0} (xs : List A) (i j : ℕ) (x y : A) → i ≢ j → slice_set (slice_set xs i x) j y ≡ slice_set (slice_set xs j y) i x
set_apart [] i j x y ne = refl
set_apart (z ∷ xs) zero zero x y ne = absurd (ne refl)
set_apart (z ∷ xs) zero (suc j) x y ne = refl
set_apart (z ∷ xs) (suc i) zero x y ne = refl
set_apart (z ∷ xs) (suc i) (suc j) x y ne = ap (λ q. z ∷ q) (set_apart xs i j x y (λ e. ne (ap suc e)))

-- ---- nobody can dial
pub far_dialler : (w : WorldState) (n m : ℕ) → length w.slots ≤ n → CanDial w n m → ⊥
far_dialler w n m far c = let near = is_within w.slots n c.dialler c.at in omega (arith, far, near)

pub far_server : (w : WorldState) (n m : ℕ) → length w.slots ≤ m → CanDial w n m → ⊥
far_server w n m far c = let near = is_within w.slots m c.server c.found in omega (arith, far, near)

-- what stands at a place, and that it stands there
pub stood : (xs : List Slot) (i : ℕ) (x : Slot) → slice_get xs i ≡ Some x → x ≡ get_or xs i x
stood xs i x e = some_is x (get_or xs i x) (sym e ∙ slice_get-get_or xs i x (is_within xs i x e))

pub set_within : (xs : List Slot) (i n : ℕ) (x : Slot) → n < length xs → n < length (slice_set xs i x)
set_within xs i n x h = let k = set_length xs i x in omega (arith, h, k)

-- what is read of a node that was there before
pub read_of : (xs : List Slot) (i : ℕ) (x y : Slot) → slice_get xs i ≡ Some x → y ≡ get_or xs i y → x ≡ y
read_of xs i x y e r = some_is x y (sym e ∙ stands xs i y (is_within xs i x e) r)

-- ---- the dialler is stopped
pub dialler_rests_here : (w : WorldState) (n m : ℕ) (x : Slot) → n < length w.slots → x ≡ get_or w.slots n x → m < length w.slots → x.node.core.master ≡ false → x.node.follow ≡ None → x.node.core.up ≡ false
    → CanDial w n m × Dialled w n m w
dialler_rests_here w n m x n_in dialler m_in replica alone down =
    let at = stands w.slots n x n_in dialler in (
      record { dialler = x; at = at; replica = replica; alone = alone; server = get_or w.slots m x; found = slice_get-get_or w.slots m x m_in },
      Dialled.dialler_rests (record { slot = x; at = at; down = down }) refl,
    )

-- ---- both are there
module _ (w : WorldState) (n m : ℕ) (x y : Slot) (n_in : n < length w.slots) (dialler : x ≡ get_or w.slots n x) (m_in : m < length w.slots) (server : y ≡ get_or w.slots m y) where
  x_at : slice_get w.slots n ≡ Some x
  x_at = stands w.slots n x n_in dialler

  y_at : slice_get w.slots m ≡ Some y
  y_at = stands w.slots m y m_in server

  pub waits_not : (b : Bool) → b ≡ false → ((x.node.core.master ≡ false) × (x.node.follow ≡ None) → b ≡ true) → CanDial w n m → ⊥
  waits_not b is h c =
      let one : c.dialler ≡ x = some_is c.dialler x (sym c.at ∙ x_at) in
      let wrong : false ≡ true = sym is ∙ h (ap (λ (z : Slot). z.node.core.master) (sym one) ∙ c.replica, ap (λ (z : Slot). z.node.follow) (sym one) ∙ c.alone) in
      cc

  module _ (replica : x.node.core.master ≡ false) (alone : x.node.follow ≡ None) where
    pub can : CanDial w n m
    can = record { dialler = x; at = x_at; replica = replica; alone = alone; server = y; found = y_at }

    pub server_rests_here : y.node.core.up ≡ false → Dialled w n m w
    server_rests_here down = Dialled.server_rests (record { slot = y; at = y_at; down = down }) refl

    module _ (up : x.node.core.up ≡ true) (serving : y.node.core.up ≡ true) where
      pub both : BothRun w n m
      both = record { can = record { dialler = x; at = x_at; replica = replica; alone = alone; server = y; found = y_at }; dialler_up = up; server_up = serving }

      running : IsRunning w m y
      running = record { at = y_at; up = serving }

      pub same_none : (t : Slot) (links : List Link) → t.node ≡ y.node → t ≡ record y { node = t.node } → links ≡ w.links → record w { slots = slice_set w.slots m t; links = links } ≡ w
      same_none t links e rest ls = ap (λ (z : List Link). record w { slots = slice_set w.slots m t; links = z }) ls
          ∙ ap (λ (z : List Slot). record w { slots = z }) (put_same w.slots m y t server (rest ∙ ap (λ (z : NodeState). record y { node = z }) e))

      pub server_stops_here : (t : Slot) (links : List Link) → OpensNoMore y.node t.node → t ≡ record y { node = t.node } → links ≡ w.links → Dialled w n m (record w { slots = slice_set w.slots m t; links = links })
      server_stops_here t links (OpensNoMore.down d e) rest ls = absurd (runs (sym serving ∙ d))
        where
          runs : true ≡ false → ⊥
          runs q = cc
      server_stops_here t links (OpensNoMore.spent u far e) rest ls = Dialled.server_stops both (record {
        slot = y;
        running = running;
        spent = far;
        is = ap (λ (z : List Link). record w { slots = slice_set w.slots m t; links = z }) ls
            ∙ ap (λ (z : Slot). record w { slots = slice_set w.slots m z }) (rest ∙ ap (λ (z : NodeState). record y { node = z }) e);
      })

      -- ---- the server opened its end, and the dialler is read behind that
      module _ (t s : Slot) (at : LinkId) (rest : t ≡ record y { node = t.node }) (o : Opens y.node at t.node) (again : s ≡ get_or (slice_set w.slots m t) n s) where
        found : slice_get (slice_set w.slots m t) n ≡ Some s
        found = let k = set_length w.slots m t in stands (slice_set w.slots m t) n s (omega (arith, n_in, k)) again

        which : ((n ≡ m) × (s ≡ t)) ⊎ ((n ≢ m) × (slice_get w.slots n ≡ Some s))
        which = set_cases w.slots m n t s found

        itself : n ≡ m → y ≡ x
        itself same = some_is y x (sym y_at ∙ (ap (slice_get w.slots) (sym same) ∙ x_at))

        core_is : s.node.core ≡ x.node.core
        core_is = elim which [
          | inl p ↦ ap (λ (z : Slot). z.node.core) p.1 ∙ (ap (λ (z : NodeState). z.core) o.node ∙ ap (λ (z : Slot). z.node.core) (itself p.0))
          | inr p ↦ ap (λ (z : Slot). z.node.core) (some_is s x (sym p.1 ∙ x_at))
        ]

        pub waits_alone : s.node.follow ≡ None
        waits_alone = elim which [
          | inl p ↦ ap (λ (z : Slot). z.node.follow) p.1 ∙ (ap (λ (z : NodeState). z.follow) o.node ∙ (ap (λ (z : Slot). z.node.follow) (itself p.0) ∙ alone))
          | inr p ↦ ap (λ (z : Slot). z.node.follow) (some_is s x (sym p.1 ∙ x_at)) ∙ alone
        ]

        pub waits_replica : s.node.core.master ≡ false
        waits_replica = ap (λ (z : Core). z.master) core_is ∙ replica

        up_still : s.node.core.up ≡ true
        up_still = ap (λ (z : Core). z.up) core_is ∙ up

        pub connects_here : (r : Slot) (name : LinkId) (outs : OutsState) (k : Link) (links : List Link) (l : ℕ) (ask : WayState) → l ≡ length w.links → Dials s.node name r.node outs → IsSound r.node
            → r ≡ record s { node = r.node; dialled = l } → ask ≡ sent_on ping_line no_way
            → k ≡ record { caller = a_node n name; waits = false; to = m; name = at; serving = true; streams = false; ask = ask; tell = no_way } → links ≡ w.links ++ k ∷ []
            → Dialled w n m (record w { slots = slice_set (slice_set w.slots m t) n r; links = links })
        connects_here r name outs k links l ask li d sound rs asked ks ls = Dialled.connects (record {
          server = y;
          running = running;
          at = at;
          served = t.node;
          opens = o;
          dialler = s;
          found = ap (λ (z : Slot). slice_get (slice_set w.slots m z) n) (sym rest) ∙ found;
          up = up_still;
          name = name;
          node = r.node;
          outs = outs;
          dials = d;
          sound = sound;
          is = ap (λ (z : Slot). record w { slots = slice_set (slice_set w.slots m z) n r; links = links }) rest
              ∙ (ap (λ (z : Slot). record w { slots = slice_set (slice_set w.slots m (record y { node = t.node })) n z; links = links }) (rs ∙ ap (λ i. record s { node = r.node; dialled = i }) li)
              ∙ ap (λ (z : List Link). record w { slots = slice_set (slice_set w.slots m (record y { node = t.node })) n (record s { node = r.node; dialled = length w.links }); links = z })
              (ls ∙ ap (λ (z : Link). w.links ++ z ∷ []) (ks ∙ ap (λ (z : WayState). record { caller = a_node n name; waits = false; to = m; name = at; serving = true; streams = false; ask = z; tell = no_way })
              (asked ∙ ap (λ z. sent_on z no_way) (sym (ap (λ (z : OutsState). z.reply) d.outs_are))))));
        })

        -- ---- .. and takes it back
        module _ (r q : Slot) (links : List Link) (rs : r ≡ record s { node = r.node }) (qs : q ≡ get_or (slice_set (slice_set w.slots m t) n r) m q) where
          flat : n ≡ m → slice_set (slice_set w.slots m t) n r ≡ slice_set w.slots m r
          flat same = ap (λ i. slice_set (slice_set w.slots m t) i r) same ∙ set_twice w.slots m t r

          -- what the server's place has: what the dialler left there, or what the server had behind its first change
          read_itself : n ≡ m → q ≡ r
          read_itself same = read_put w.slots m y r q y_at (qs ∙ ap (λ (z : List Slot). get_or z m q) (flat same))

          read_other : n ≢ m → q ≡ t
          read_other ne =
              let there : slice_get (slice_set (slice_set w.slots m t) n r) m ≡ Some t = set_there (slice_set w.slots m t) n m r (λ f. ne (sym f)) ∙ set_here w.slots m t y y_at in
              some_is q t (sym (stands (slice_set (slice_set w.slots m t) n r) m q (is_within (slice_set (slice_set w.slots m t) n r) m t there) qs) ∙ there)

          ends_still : r.node.ends ≡ s.node.ends → q.node.ends ≡ t.node.ends
          ends_still e = elim which [
            | inl p ↦ ap (λ (z : Slot). z.node.ends) (read_itself p.0) ∙ (e ∙ ap (λ (z : Slot). z.node.ends) p.1)
            | inr p ↦ ap (λ (z : Slot). z.node.ends) (read_other p.0)
          ]

          dial_ends : (f : NodeFault) → DialsBy s.node r.node (Err f) → r.node.ends ≡ s.node.ends
          dial_ends fault.Memory d = ap (λ (z : NodeState). z.ends) d.1
          dial_ends fault.Stopped (OpensNoMore.down u e) = ap (λ (z : NodeState). z.ends) e
          dial_ends fault.Stopped (OpensNoMore.spent u far e) = ap (λ (z : NodeState). z.ends) e
          dial_ends fault.NoLink d = absurd d
          dial_ends fault.InputFull d = absurd d

          -- the server's end is still as it was opened, and the last one
          pub still_open : (f : NodeFault) → DialsBy s.node r.node (Err f) → Agrees q.node at []
          still_open f d = record { is = ap (λ (z : Links EndState). end_at z at) (ends_still (dial_ends f d)) ∙ o.agrees.is }

          pub still_last : (f : NodeFault) → DialsBy s.node r.node (Err f) → q.node.ends.opened ≡ at.generation + 1
          still_last f d = ap (λ (z : Links EndState). z.opened) (ends_still (dial_ends f d)) ∙ (ap (λ (z : NodeState). z.ends.opened) o.node ∙ ap (λ i. i + 1) (sym o.generation))

          module _ (c : Slot) (back : Opens c.node at q.node) (cs : c ≡ record q { node = c.node }) (ls : links ≡ w.links) where
            -- where the server's place has what it had behind its first change
            is_back : q ≡ t → c ≡ y
            is_back one =
                let node : c.node ≡ y.node = opened_once c.node y.node t.node at (subst (λ (z : Slot). Opens c.node at z.node) one back) o in
                cs ∙ (ap (λ (z : Slot). record z { node = c.node }) (one ∙ rest) ∙ ap (λ (z : NodeState). record y { node = z }) node)

            pub same_again : r.node ≡ s.node → record w { slots = slice_set (slice_set (slice_set w.slots m t) n r) m c; links = links } ≡ w
            same_again e =
                let same : slice_set (slice_set w.slots m t) n r ≡ slice_set w.slots m t = put_same (slice_set w.slots m t) n s r again (rs ∙ ap (λ (z : NodeState). record s { node = z }) e) in
                let one : q ≡ t = read_put w.slots m y t q y_at (qs ∙ ap (λ (z : List Slot). get_or z m q) same) in
                ap (λ (z : List Link). record w { slots = slice_set (slice_set (slice_set w.slots m t) n r) m c; links = z }) ls
                ∙ ap (λ (z : List Slot). record w { slots = z }) (ap (λ (z : List Slot). slice_set z m c) same ∙ (set_twice w.slots m t c ∙ put_same w.slots m y c server (is_back one)))

            abbrev behind : WorldState
            behind = record w { slots = slice_set (slice_set (slice_set w.slots m t) n r) m c; links = links }

            stops_as : (d : Slot) → IsRunning w n d → links_limit ≤ s.node.ends.opened → behind ≡ put_node w n d (stopped_as d.node) → DiallerStops w n m behind
            stops_as d runs far is = record {
              server = y;
              running = running;
              at = at;
              served = t.node;
              opens = o;
              behind = s;
              found = ap (λ (z : Slot). slice_get (slice_set w.slots m z) n) (sym rest) ∙ found;
              spent = far;
              dialler = d;
              dialling = runs;
              is = is;
            }

            -- the dialler is another node
            stops_other : n ≢ m → slice_get w.slots n ≡ Some s → links_limit ≤ s.node.ends.opened → r.node ≡ stopped_as s.node → DiallerStops w n m behind
            stops_other ne e far stops = stops_as s (record { at = e; up = up_still }) far
                (ap (λ (z : List Link). record w { slots = slice_set (slice_set (slice_set w.slots m t) n r) m c; links = z }) ls
                ∙ ap (λ (z : List Slot). record w { slots = z }) (set_apart (slice_set w.slots m t) n m r c ne
                ∙ (ap (λ (z : List Slot). slice_set z n r) (set_twice w.slots m t c ∙ put_same w.slots m y c server (is_back (read_other ne)))
                ∙ ap (slice_set w.slots n) (rs ∙ ap (λ (z : NodeState). record s { node = z }) stops))))

            -- .. the same
            stops_itself : n ≡ m → s ≡ t → links_limit ≤ s.node.ends.opened → r.node ≡ stopped_as s.node → DiallerStops w n m behind
            stops_itself same one far stops =
                let whole : r ≡ record y { node = stopped_as t.node } = rs ∙ (ap (λ (z : NodeState). record s { node = z }) stops ∙ ap (λ (z : Slot). record z { node = stopped_as z.node }) (one ∙ rest)) in
                let read : q ≡ record y { node = stopped_as t.node } = read_itself same ∙ whole in
                let node : c.node ≡ stopped_as y.node = opened_once c.node (stopped_as y.node) (stopped_as t.node) at (subst (λ (z : Slot). Opens c.node at z.node) read back) (opened_stopped y.node t.node at o) in
                let ends : c ≡ record y { node = stopped_as y.node } = cs ∙ (ap (λ (z : Slot). record z { node = c.node }) read ∙ ap (λ (z : NodeState). record y { node = z }) node) in
                stops_as y (record { at = ap (slice_get w.slots) same ∙ y_at; up = serving }) far
                (ap (λ (z : List Link). record w { slots = slice_set (slice_set (slice_set w.slots m t) n r) m c; links = z }) ls
                ∙ ap (λ (z : List Slot). record w { slots = z }) (ap (λ (z : List Slot). slice_set z m c) (flat same)
                ∙ (set_twice w.slots m r c ∙ (ap (slice_set w.slots m) ends ∙ ap (λ i. slice_set w.slots i (record y { node = stopped_as y.node })) (sym same)))))

            pub stops_again : OpensNoMore s.node r.node → Dialled w n m behind
            stops_again (OpensNoMore.down d e) = absurd (runs (sym up_still ∙ d))
              where
                runs : true ≡ false → ⊥
                runs z = cc
            stops_again (OpensNoMore.spent u far e) = Dialled.dialler_stops both (elim which [
              | inl p ↦ stops_itself p.0 p.1 far e
              | inr p ↦ stops_other p.0 p.1 far e
            ])
