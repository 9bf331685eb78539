-- The laws, from what each step of servers leads to.
use Rattle.std.proofs.Common.{◌≡◌, ℕ, List, [], ◌∷◌, true, false, ◌||◌, Bool, Some, refl, sym, ap, subst, ◌∙◌}
use Rattle.std.specs.Prelude.{bytes_eq, slice_get}
use Rattle.std.proofs.lemmas.Option.{none-some}
use Rattle.mr_keyspace.specs.Dataset.{Dataset}
use Rattle.mr_bytes.proofs.Numbers.{equal_bytes, same_bytes}
use Rattle.mr_repl.specs.ReplId.{zero_id}
use Rattle.mr_node_spec.specs.State.{Core, NodeState}
use Rattle.law_refinement.specs.State.{Slot, WorldState}
use Rattle.law_refinement.specs.Worlds.{no_world}
use Rattle.law_refinement.proofs.Beginning.{worlds_begin}
use Rattle.law_refinement.specs.Showing as world
use Rattle.law_refinement.proofs.Moments.{no_silent_difference}
use Rattle.mr_loop.specs.Stage.{Stage}
use Rattle.law_systems.specs.System.{Doing, System, gives_up, is_taken, no_system, rests, runs}
use Rattle.law_systems.specs.Steps.{Course, Step}
use Rattle.law_systems.specs.Servers.{Has, HasWorld, IsBeside, ServersHaveWorlds, ServersNeverDiffer, Shows}
use Rattle.law_systems.proofs.Mirrors.{Leads, Mirrors}
use Rattle.law_systems.proofs.Passing.{follows}

-- the id of zeros alone is spent at first
zero_spent : (id : List ℕ) → (bytes_eq id zero_id || false) ≡ true → is_taken (zero_id ∷ []) id ≡ true
zero_spent id e = go (bytes_eq id zero_id) refl e
  where
    go : (b : Bool) → bytes_eq id zero_id ≡ b → (b || false) ≡ true → is_taken (zero_id ∷ []) id ≡ true
    go true q h = ap (λ (z : Bool). z || false) (subst (λ (i : List ℕ). bytes_eq zero_id i ≡ true) (sym (same_bytes id zero_id q)) (equal_bytes zero_id))
    go false q h = absurd (cc)

pub mirrors_begin : Mirrors no_system no_world
mirrors_begin = record {
  world = worlds_begin.world;
  as_many = refl;
  as_many_links = refl;
  slots = λ n a e. absurd (none-some a e);
  ids = zero_spent;
  lines = λ c k l e. absurd (none-some k e);
  live = λ c at k e l t held s end. absurd (none-some k end.found);
}

-- what a server has is what the World beside has
core_of : (a : NodeState) (z : Slot) (doing : Doing) → ((t : Stage) → doing ≡ runs t → z.node ≡ t.node) → ((t : Stage) → doing ≡ gives_up t → z.node.core ≡ t.node.core) → Has a doing → z.node.core ≡ a.core
core_of a z rests f g has = absurd has
core_of a z (runs s) f g has = ap (λ (b : NodeState). b.core) (f s refl ∙ has)
core_of a z (gives_up s) f g has = g s refl ∙ ap (λ (b : NodeState). b.core) has

beside : (x : System) (w : WorldState) → Mirrors x w → IsBeside x w
beside x w m n server a found has = let h = m.slots n server found in (h.0, h.1.found, core_of a h.0 server.doing h.1.node h.1.core has)

module _ (Known : System → Type 0) (steps_lead : (x y : System) (w : WorldState) → Known x → Mirrors x w → Step x y → Leads w y) (steps_known : (x y : System) → Step x y → Known x → Known y) (begins : Known no_system) where
  has_world : (systems : List System) → Course no_system systems → (worlds : List WorldState) × ((k : ℕ) (x : System) → slice_get (no_system ∷ systems) k ≡ Some x → HasWorld worlds x)
  has_world systems c =
      let f = follows Known steps_lead steps_known no_system systems no_world begins mirrors_begin c in
      (f.worlds, λ k x e. let h = f.each k x e in record { number = h.number; world = h.world; moment = record { run = f.run; there = h.there }; beside = beside x h.world h.mirrors })

  pub servers_have_worlds : ServersHaveWorlds
  servers_have_worlds = has_world

  shown : (x : System) (w : WorldState) → IsBeside x w → (n : ℕ) (id : List ℕ) (offset : ℕ) (m : Dataset) → Shows x n id offset m → world.Shows w n id offset m
  shown x w b n id offset m s =
      let h = b n s.server s.node s.found s.has in record {
        slot = h.0;
        found = h.1;
        up = ap (λ (c : Core). c.up) h.2 ∙ s.up;
        id_is = ap (λ (c : Core). c.lineage.id) h.2 ∙ s.id_is;
        offset_is = ap (λ (c : Core). c.lineage.stream.offset) h.2 ∙ s.offset_is;
        held_is = ap (λ (c : Core). c.held) h.2 ∙ s.held_is;
      }

  pub servers_never_differ : ServersNeverDiffer
  servers_never_differ systems c j k x y e f n m id offset a b s t =
      let h = has_world systems c in
      let u = h.1 j x e in
      let v = h.1 k y f in
      no_silent_difference h.0 u.number v.number u.world v.world u.moment v.moment n m id offset a b (shown x u.world u.beside n id offset a s) (shown y v.world v.beside m id offset b t)
