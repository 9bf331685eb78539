-- A server begins for the first time: the World's event Start.
use Rattle.std.proofs.Common.{◌≡◌, ◌≢◌, ◌+◌, ◌<◌, ◌++◌, inl, inr, ℕ, List, [], ◌∷◌, false, not, None, Some, length, length-append, refl, sym, ap, subst, ◌∙◌, arith}
use Rattle.std.specs.Prelude.{slice_get}
use Rattle.std.specs.FinMap.{empty}
use Rattle.mr_connections.specs.State.{ConnectionState}
use Rattle.law_protocol.specs.Event as events
use Rattle.mr_node_spec.specs.Sound.{IsSound}
use Rattle.mr_loop.specs.Stage.{Stage, connection_at}
use Rattle.law_refinement.specs.State.{Link, Slot, WorldState}
use Rattle.law_refinement.specs.Worlds.{IsWorld}
use Rattle.law_refinement.specs.Books.{begun}
use Rattle.law_refinement.specs.Carrying.{begun_slot, started_with}
use Rattle.law_refinement.proofs.Beginning.{starts}
use Rattle.law_refinement.proofs.Places.{is_within, push_cases, push_here, push_old}
use Rattle.law_refinement.specs.Runs.{Happens, an_event}
use Rattle.mr_links.specs.declared.side.Side.{Side}
use Rattle.mr_world.proofs.Changing.{node_comes}
use Rattle.mr_world.proofs.Happened.{fresh}
use Rattle.law_systems.specs.System.{Connection, End, IsAt, Server, System, runs}
use Rattle.law_systems.specs.Network.{HasEnd}
use Rattle.law_systems.specs.Steps.{Begins, IsNew}
use Rattle.law_systems.proofs.Wired.{IsPast, IsWired}
use Rattle.law_systems.proofs.Mirrors.{IsLive, IsSlotOf, Leads, Mirrors}
use Rattle.law_systems.proofs.Standing.{live_still}
use Rattle.law_systems.proofs.Begun.{begun_ids, unspent}
use Rattle.law_systems.proofs.Apart.{not_both, runs_is}

module _ (x : System) (w : WorldState) (wired : IsWired x) (m : Mirrors x w) (id file : List ℕ) (s : Stage) (new : IsNew x id) (b : Begins id file empty s) where
  abbrev slot : Slot
  slot = begun_slot false b.port b.backlog id empty file

  abbrev server : Server
  server = record { life = 0; doing = runs s }

  abbrev v : WorldState
  v = started_with w slot id

  abbrev y : System
  y = record x { servers = x.servers ++ server ∷ []; ids = id ∷ x.ids }

  slot_sound : IsSound slot.node
  slot_sound = subst IsSound b.node b.sound

  world : IsWorld v
  world = node_comes w slot (begun w.book id []) m.world slot_sound (λ name f e. let q : None ≡ Some (name, f) = e in absurd (cc))

  happens : Happens w v
  happens = an_event (events.Event.Start id (not false)) (λ book holds. starts w book false b.port b.backlog id file holds (fresh w.book id (unspent x w id m new)))

  own_slot : IsSlotOf v (length x.servers) server slot
  own_slot = record {
    found = subst (λ (n : ℕ). slice_get (w.slots ++ slot ∷ []) n ≡ Some slot) m.as_many (push_here w.slots slot);
    as_master = refl;
    node = λ t e. sym b.node ∙ ap (λ (z : Stage). z.node) (runs_is s t e);
    core = λ t e. absurd (not_both s t e);
  }

  old_slot : (n : ℕ) (a : Server) (z : Slot) → IsSlotOf w n a z → IsSlotOf v n a z
  old_slot n a z i = record { found = push_old w.slots slot n z i.found; as_master = i.as_master; node = i.node; core = i.core }

  slots : (n : ℕ) (a : Server) → slice_get y.servers n ≡ Some a → (z : Slot) × IsSlotOf v n a z
  slots n a e = elim (push_cases x.servers server n a e) [
    | inl p ↦ (slot, subst (λ (i : ℕ). IsSlotOf v i a slot) (sym p.0) (subst (λ (q : Server). IsSlotOf v (length x.servers) q slot) (sym p.1) own_slot))
    | inr p ↦ let h = m.slots n a p in (h.0, old_slot n a h.0 h.1)
  ]

  -- no end is this server's yet
  before : (e : End) → IsPast x e → e.server ≢ length x.servers
  before e p q = let within : e.server < length x.servers = is_within x.servers e.server p.server p.found in omega (arith, within, q)

  live : (c : ℕ) (at : Side) (k : Connection) (e : End) (l : Link) (t : Stage) (held : ConnectionState) (z : Slot)
      → HasEnd y.connections c at k e → slice_get v.links c ≡ Some l → IsAt y e.server e.life t → connection_at t.own e.socket ≡ Some held → slice_get v.slots e.server ≡ Some z
      → IsLive v e.server z c k l at held
  live c at k e l t held z end found is q there =
      let p = before e (wired.past c at k e end) in
      elim (push_cases x.servers server e.server (record { life = e.life; doing = runs t }) is.found) [
        | inl i ↦ absurd (p i.0)
        | inr i ↦ elim (push_cases w.slots slot e.server z there) [
          | inl j ↦ absurd (p (j.0 ∙ m.as_many))
          | inr j ↦ live_still w v e.server z c k l held found at found (m.live c at k e l t held z end found (record { found = i }) q j)
        ]
      ]

  mirrors : Mirrors y v
  mirrors = record {
    world = world;
    as_many = length-append w.slots (slot ∷ []) ∙ (ap (λ i. i + 1) m.as_many ∙ sym (length-append x.servers (server ∷ [])));
    as_many_links = m.as_many_links;
    slots = slots;
    ids = begun_ids x w id [] m;
    lines = m.lines;
    live = live;
  }

  pub begins_leads : Leads w y
  begins_leads = record { worlds = v ∷ []; run = (happens, world, tt); mirrors = mirrors }
