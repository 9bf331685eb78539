-- A server whose turn has met a fault tells its node to stop: the World's node stops, too, where it hasn't yet.
use Rattle.std.proofs.Common.{◌≡◌, inl, inr, ℕ, List, [], ◌∷◌, Bool, true, false, Some, length, length-set, refl, sym, ap, subst, ◌∙◌}
use Rattle.std.specs.Prelude.{slice_get}
use Rattle.mr_connections.specs.State.{ConnectionState}
use Rattle.mr_node_spec.specs.State.{Core, stopped_as}
use Rattle.mr_loop.specs.Stage.{Stage, connection_at}
use Rattle.mr_loop.specs.Rows.{IsToldToStop}
use Rattle.law_refinement.specs.State.{Link, Slot, WorldState}
use Rattle.law_refinement.specs.Worlds.{IsWorld}
use Rattle.law_refinement.specs.Carrying.{put_node}
use Rattle.law_refinement.proofs.Places.{set_cases, set_here, set_there}
use Rattle.law_refinement.specs.Runs.{Happens}
use Rattle.mr_world_parts.specs.AtNode.{is_spent}
use Rattle.mr_links.specs.declared.side.Side.{Side}
use Rattle.law_servers.specs.Worlds.{Halts}
use Rattle.law_servers.proofs.Moving.{servers_keep_worlds}
use Rattle.law_systems.specs.System.{Connection, End, IsAt, Server, System, gives_up, runs}
use Rattle.law_systems.specs.Network.{HasEnd}
use Rattle.law_systems.specs.Steps.{put_server}
use Rattle.law_systems.proofs.Mirrors.{IsLive, IsSlotOf, Leads, Mirrors}
use Rattle.law_systems.proofs.Standing.{live_still}
use Rattle.law_systems.proofs.Apart.{gives_up_is, no_turns}

-- a core that is down is as a stopped one
down_same : (c : Core) → c.up ≡ false → record c { up = false } ≡ c
down_same c e = ap (λ (b : Bool). record c { up = b }) (sym e)

module _ (x : System) (w : WorldState) (m : Mirrors x w) (n life : ℕ) (s t : Stage) (there : slice_get x.servers n ≡ Some (record { life = life; doing = gives_up s })) (told : IsToldToStop s t) where
  abbrev old : Server
  old = record { life = life; doing = gives_up s }

  abbrev server : Server
  server = record { life = life; doing = gives_up t }

  abbrev y : System
  y = put_server x n server

  abbrev was : (z : Slot) × IsSlotOf w n old z
  was = m.slots n old there

  core_is : t.node.core ≡ record s.node.core { up = false }
  core_is = ap (λ (z : Stage). z.node.core) told.is

  module _ (v : WorldState) (new : Slot) (world : IsWorld v) (at : slice_get v.slots n ≡ Some new) (others : (i : ℕ) → (i ≡ n → ⊥) → slice_get v.slots i ≡ slice_get w.slots i)
      (as_many : length v.slots ≡ length w.slots) (links : v.links ≡ w.links) (book : v.book ≡ w.book) (role : new.as_master ≡ true) (core : new.node.core ≡ t.node.core) where
    slots : (i : ℕ) (a : Server) → slice_get y.servers i ≡ Some a → (z : Slot) × IsSlotOf v i a z
    slots i a e = elim (set_cases x.servers n i server a e) [
      | inl p ↦ (
        new,
        subst (λ (j : ℕ). IsSlotOf v j a new) (sym p.0) (record {
          found = at;
          as_master = role;
          node = λ u q. absurd (no_turns t u (sym (ap (λ (b : Server). b.doing) p.1) ∙ q));
          core = λ u q. core ∙ ap (λ (z : Stage). z.node.core) (gives_up_is t u (sym (ap (λ (b : Server). b.doing) p.1) ∙ q));
        }),
      )
      | inr p ↦ let h = m.slots i a p.1 in (h.0, record { found = others i p.0 ∙ h.1.found; as_master = h.1.as_master; node = h.1.node; core = h.1.core })
    ]

    live : (c : ℕ) (at : Side) (k : Connection) (e : End) (l : Link) (u : Stage) (held : ConnectionState) (z : Slot)
        → HasEnd y.connections c at k e → slice_get v.links c ≡ Some l → IsAt y e.server e.life u → connection_at u.own e.socket ≡ Some held → slice_get v.slots e.server ≡ Some z
        → IsLive v e.server z c k l at held
    live c at k e l u held z end found is q at_slot = elim (set_cases x.servers n e.server server (record { life = e.life; doing = runs u }) is.found) [
      | inl i ↦ absurd (no_turns t u (sym (ap (λ (b : Server). b.doing) i.1)))
      | inr i ↦
          let before : slice_get w.links c ≡ Some l = ap (λ (ls : List Link). slice_get ls c) (sym links) ∙ found in
          live_still w v e.server z c k l held before at found (m.live c at k e l u held z end before (record { found = i.1 }) q (sym (others e.server i.0) ∙ at_slot))
    ]

    mirrors : Mirrors y v
    mirrors = record {
      world = world;
      as_many = as_many ∙ (m.as_many ∙ sym (length-set x.servers n server));
      as_many_links = ap length links ∙ m.as_many_links;
      slots = slots;
      ids = λ id e. m.ids id (subst (λ es. is_spent es id ≡ true) book e);
      lines = λ c k l e f. m.lines c k l e (ap (λ (ls : List Link). slice_get ls c) (sym links) ∙ f);
      live = live;
    }

  -- the World's node stops
  stops : was.0.node.core.up ≡ true → Leads w y
  stops up =
      let new : Slot = record was.0 { node = stopped_as was.0.node } in
      let v : WorldState = put_node w n was.0 (stopped_as was.0.node) in
      let h : Halts w v = record { number = n; slot = was.0; running = record { at = was.1.found; up = up }; is = refl } in
      let k : Happens w v × IsWorld v = servers_keep_worlds w v m.world (inr h) in
      record {
        worlds = v ∷ [];
        run = (k.0, k.1, tt);
        mirrors = mirrors v new k.1 (set_here w.slots n new was.0 was.1.found) (λ i apart. set_there w.slots n i new apart) (length-set w.slots n new) refl refl was.1.as_master
            (ap (λ (c : Core). record c { up = false }) (was.1.core s refl) ∙ sym core_is);
      }

  -- .. or has stopped
  rests : was.0.node.core.up ≡ false → Leads w y
  rests down = record {
    worlds = [];
    run = tt;
    mirrors = mirrors w was.0 m.world was.1.found (λ i apart. refl) refl refl refl was.1.as_master
        (sym (down_same was.0.node.core down) ∙ (ap (λ (c : Core). record c { up = false }) (was.1.core s refl) ∙ sym core_is));
  }

  pub stops_leads : Leads w y
  stops_leads = go was.0.node.core.up refl
    where
      go : (b : Bool) → was.0.node.core.up ≡ b → Leads w y
      go true e = stops e
      go false e = rests e
