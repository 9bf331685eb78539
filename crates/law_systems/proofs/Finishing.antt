-- A server ends, or is killed: nothing happens in the World.
use Rattle.std.proofs.Common.{◌≡◌, inl, inr, ℕ, [], Some, length-set, sym, ap, subst, ◌∙◌}
use Rattle.std.specs.Prelude.{slice_get}
use Rattle.mr_connections.specs.State.{ConnectionState}
use Rattle.mr_loop.specs.Stage.{Stage, connection_at}
use Rattle.law_refinement.specs.State.{Link, Slot, WorldState}
use Rattle.law_refinement.proofs.Places.{set_cases}
use Rattle.mr_links.specs.declared.side.Side.{Side}
use Rattle.law_systems.specs.System.{Connection, End, IsAt, Server, System, rests, runs}
use Rattle.law_systems.specs.Network.{HasEnd}
use Rattle.law_systems.specs.Steps.{put_server}
use Rattle.law_systems.proofs.Mirrors.{IsLive, IsSlotOf, Leads, Mirrors}
use Rattle.law_systems.proofs.Apart.{rests_gives_up, rests_runs}

module _ (x : System) (w : WorldState) (m : Mirrors x w) (n : ℕ) (old : Server) (there : slice_get x.servers n ≡ Some old) where
  abbrev server : Server
  server = record old { doing = rests }

  abbrev y : System
  y = put_server x n server

  slots : (i : ℕ) (a : Server) → slice_get y.servers i ≡ Some a → (z : Slot) × IsSlotOf w i a z
  slots i a e = elim (set_cases x.servers n i server a e) [
    | inl p ↦ let h = m.slots n old there in (
      h.0,
      subst (λ (j : ℕ). IsSlotOf w j a h.0) (sym p.0) (record {
        found = h.1.found;
        as_master = h.1.as_master;
        node = λ t q. absurd (rests_runs t (sym (ap (λ (b : Server). b.doing) p.1) ∙ q));
        core = λ t q. absurd (rests_gives_up t (sym (ap (λ (b : Server). b.doing) p.1) ∙ q));
      }),
    )
    | inr p ↦ m.slots i a p.1
  ]

  live : (c : ℕ) (at : Side) (k : Connection) (e : End) (l : Link) (t : Stage) (held : ConnectionState) (z : Slot)
      → HasEnd y.connections c at k e → slice_get w.links c ≡ Some l → IsAt y e.server e.life t → connection_at t.own e.socket ≡ Some held → slice_get w.slots e.server ≡ Some z
      → IsLive w e.server z c k l at held
  live c at k e l t held z end found is q at_slot = elim (set_cases x.servers n e.server server (record { life = e.life; doing = runs t }) is.found) [
    | inl i ↦ absurd (rests_runs t (sym (ap (λ (b : Server). b.doing) i.1)))
    | inr i ↦ m.live c at k e l t held z end found (record { found = i.1 }) q at_slot
  ]

  pub ends_leads : Leads w y
  ends_leads = record {
    worlds = [];
    run = tt;
    mirrors = record {
      world = m.world;
      as_many = m.as_many ∙ sym (length-set x.servers n server);
      as_many_links = m.as_many_links;
      slots = slots;
      ids = m.ids;
      lines = m.lines;
      live = live;
    };
  }
