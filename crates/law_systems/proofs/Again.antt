-- A server begins again, with what its file is read as: the World's event Restart.
use Rattle.std.proofs.Common.{◌≡◌, ◌≢◌, ◌+◌, ◌==◌, inl, inr, ℕ, List, [], ◌∷◌, true, false, Some, length-set, take, refl, sym, ap, subst, ◌∙◌, arith}
use Rattle.std.specs.Prelude.{slice_get}
use Rattle.std.proofs.lemmas.Option.{slice_get-map}
use Rattle.mr_keyspace.specs.Dataset.{Dataset}
use Rattle.mr_connections.specs.State.{ConnectionState}
use Rattle.law_protocol.specs.Event as events
use Rattle.mr_node_spec.specs.Sound.{IsSound}
use Rattle.mr_loop.specs.Stage.{Stage, connection_at}
use Rattle.law_refinement.specs.State.{Link, Slot, WorldState}
use Rattle.law_refinement.specs.Worlds.{IsWorld}
use Rattle.law_refinement.specs.Carrying.{begun_slot, restarted_with, shut_if}
use Rattle.law_refinement.proofs.Beginning.{restarts}
use Rattle.law_refinement.proofs.Places.{set_cases, set_here, set_there, some_is}
use Rattle.law_refinement.specs.Runs.{Happens, an_event}
use Rattle.mr_world_parts.specs.AtLink.{shut_at}
use Rattle.mr_links.specs.declared.side.Side.{Side}
use Rattle.mr_links.specs.declared.side.Side.TheVariants as side
use Rattle.mr_world.proofs.Happened.{fresh}
use Rattle.mr_world.proofs.Restarts.{restarts_world}
use Rattle.law_systems.specs.System.{Connection, End, IsAt, Server, System, runs}
use Rattle.law_systems.specs.Network.{HasEnd}
use Rattle.law_systems.specs.Steps.{Begins, IsNew, put_server}
use Rattle.law_systems.proofs.Wired.{IsWired}
use Rattle.law_systems.proofs.Mirrors.{IsLine, IsLive, IsSlotOf, Leads, Mirrors}
use Rattle.law_systems.proofs.Standing.{live_shut}
use Rattle.law_systems.proofs.Begun.{begun_ids, eq_true, length_map, shut_line, unspent}
use Rattle.law_systems.proofs.Apart.{from_map, not_both, runs_is}

module _ (x : System) (w : WorldState) (wired : IsWired x) (m : Mirrors x w) (n : ℕ) (old : Server) (there : slice_get x.servers n ≡ Some old)
    (id file : List ℕ) (held : Dataset) (s : Stage) (new : IsNew x id) (b : Begins id file held s) where
  abbrev kept : List ℕ
  kept = take b.read.0 file

  abbrev slot : Slot
  slot = begun_slot false b.port b.backlog id held kept

  abbrev server : Server
  server = record { life = old.life + 1; doing = runs s }

  abbrev v : WorldState
  v = restarted_with w n slot id kept

  abbrev y : System
  y = record (put_server x n server) { ids = id ∷ x.ids }

  abbrev was : (z : Slot) × IsSlotOf w n old z
  was = m.slots n old there

  world : IsWorld v
  world = restarts_world w n was.0 slot m.world was.1.found (subst IsSound b.node b.sound) refl id kept

  happens : Happens w v
  happens = an_event (events.Event.Restart n file id)
      (λ book holds. restarts w book n was.0 false b.port b.backlog id file kept kept held holds was.1.found was.1.as_master (fresh w.book id (unspent x w id m new)) b.read b.read.1.made)

  own_slot : IsSlotOf v n server slot
  own_slot = record {
    found = set_here w.slots n slot was.0 was.1.found;
    as_master = refl;
    node = λ t e. sym b.node ∙ ap (λ (z : Stage). z.node) (runs_is s t e);
    core = λ t e. absurd (not_both s t e);
  }

  slots : (i : ℕ) (a : Server) → slice_get y.servers i ≡ Some a → (z : Slot) × IsSlotOf v i a z
  slots i a e = elim (set_cases x.servers n i server a e) [
    | inl p ↦ (slot, subst (λ (j : ℕ). IsSlotOf v j a slot) (sym p.0) (subst (λ (q : Server). IsSlotOf v n q slot) (sym p.1) own_slot))
    | inr p ↦ let h = m.slots i a p.1 in
        (h.0, record { found = set_there w.slots n i slot p.0 ∙ h.1.found; as_master = h.1.as_master; node = h.1.node; core = h.1.core })
  ]

  link_of : (c : ℕ) (l : Link) → slice_get v.links c ≡ Some l → (k : Link) × (slice_get w.links c ≡ Some k) × (l ≡ shut_if (k.to == n) k)
  link_of c l e = from_map (shut_at n) (slice_get w.links c) l (sym (slice_get-map (shut_at n) w.links c) ∙ e)

  lines : (c : ℕ) (k : Connection) (l : Link) → slice_get y.connections c ≡ Some k → slice_get v.links c ≡ Some l → IsLine k l
  lines c k l e f = let h = link_of c l f in subst (λ (z : Link). IsLine k z) (sym h.2) (shut_line (h.0.to == n) k h.0 (m.lines c k h.0 e h.1))

  live : (c : ℕ) (at : Side) (k : Connection) (e : End) (l : Link) (t : Stage) (held : ConnectionState) (z : Slot)
      → HasEnd y.connections c at k e → slice_get v.links c ≡ Some l → IsAt y e.server e.life t → connection_at t.own e.socket ≡ Some held → slice_get v.slots e.server ≡ Some z
      → IsLive v e.server z c k l at held
  live c at k e l t held z end found is q at_slot = elim (set_cases x.servers n e.server server (record { life = e.life; doing = runs t }) is.found) [
    | inl i ↦
        let p = wired.past c at k e end in
        let same : p.server ≡ old = some_is p.server old (sym p.found ∙ (ap (slice_get x.servers) i.0 ∙ there)) in
        let life : e.life ≡ old.life + 1 = ap (λ (a : Server). a.life) i.1 in
        absurd (omega (arith, p.life, ap (λ (a : Server). a.life) same, life))
    | inr i ↦
        let h = link_of c l found in
        let before : slice_get w.slots e.server ≡ Some z = sym (set_there w.slots n e.server slot i.0) ∙ at_slot in
        let now = m.live c at k e h.0 t held z end h.1 (record { found = i.1 }) q before in
        subst (λ (g : Link). IsLive v e.server z c k g at held) (sym h.2)
        (live_shut w v e.server z c k h.0 held h.1 at (h.0.to == n) (elsewhere c at k e h.0 end h.1 i.0) (found ∙ ap (λ (g : Link). Some g) h.2) now)
  ]
    where
      elsewhere : (c : ℕ) (at : Side) (k : Connection) (e : End) (l : Link) → HasEnd x.connections c at k e → slice_get w.links c ≡ Some l → e.server ≢ n → (l.to == n) ≡ true → at ≡ side.Opener
      elsewhere c side.Opener k e l end found apart q = refl
      elsewhere c side.Server k e l end found apart q = absurd (apart (sym ((m.lines c k l end.found found).served e end.has).1 ∙ eq_true l.to n q))

  mirrors : Mirrors y v
  mirrors = record {
    world = world;
    as_many = length-set w.slots n slot ∙ (m.as_many ∙ sym (length-set x.servers n server));
    as_many_links = length_map (shut_at n) w.links ∙ m.as_many_links;
    slots = slots;
    ids = begun_ids x w id kept m;
    lines = lines;
    live = live;
  }

  pub begins_again_leads : Leads w y
  begins_again_leads = record { worlds = v ∷ []; run = (happens, world, tt); mirrors = mirrors }
