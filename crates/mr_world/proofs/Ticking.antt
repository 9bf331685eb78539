-- How the parts of an event make it in which a node gives something out, and that what is true of each World stays.
use Rattle.std.proofs.Common.{◌≡◌, ◌<◌, ◌∙◌, ℕ, ℤ, List, Bool, true, false, cond, Option, None, Some, Result, Ok, Err, length, map, get_or, refl, sym, ap, subst}
use Rattle.std.specs.Prelude.{slice_get, slice_set}
use Rattle.mr_node_output.specs.Outs.{OutsState}
use Rattle.mr_node_spec.specs.Sound.{IsSound}
use Rattle.mr_node_spec.specs.State.{Core, NodeState, shown, stopped_as}
use Rattle.mr_node_spec.specs.TimeRows.{HasDue, TickRow}
use Rattle.law_refinement.specs.State.{BookEntry, Link, Slot, WorldState}
use Rattle.law_refinement.specs.Worlds.{IsWorld}
use Rattle.law_refinement.specs.Carrying.{booked_as, filed, reached, said_on}
use Rattle.law_refinement.proofs.Places.{is_within, set_here, some_is}
use Rattle.law_refinement.proofs.Kept.{ticks_keep}
use Rattle.mr_world_parts.specs.Memory.{TakesMemory}
use Rattle.mr_world_parts.proofs.Places.{stands, set_twice}
use Rattle.mr_world.specs.declared.refusal.Refusal.{Refusal}
use Rattle.mr_world.specs.declared.refusal.Refusal.TheVariants as refusal
use Rattle.mr_world.specs.Stepping.{HasTicked, NeedsTick, TickCall, Ticks}
use Rattle.mr_world.proofs.Joins.{put_same}
use Rattle.mr_world.proofs.Kept.{stops_world}

-- ---- what a node shows
shows_none : (c : Core) → shown c ≡ None → c.up ≡ false
shows_none c e = go c.up refl
  where
    go : (b : Bool) → c.up ≡ b → c.up ≡ false
    go false q = q
    go true q = let wrong : ◌≡◌ {A = Option (List ℕ × ℕ)} (Some (c.lineage.id, c.lineage.stream.offset)) None = sym (ap (λ b. cond b (Some (c.lineage.id, c.lineage.stream.offset)) None) q) ∙ e in absurd (cc)

shown_is : (c : Core) (p : List ℕ × ℕ) → shown c ≡ Some p → p ≡ (c.lineage.id, c.lineage.stream.offset)
shown_is c p e = go c.up refl
  where
    go : (b : Bool) → c.up ≡ b → p ≡ (c.lineage.id, c.lineage.stream.offset)
    go true q = some_is p (c.lineage.id, c.lineage.stream.offset) (sym e ∙ ap (λ b. cond b (Some (c.lineage.id, c.lineage.stream.offset)) None) q)
    go false q = let wrong : ◌≡◌ {A = Option (List ℕ × ℕ)} None (Some p) = sym (ap (λ b. cond b (Some (c.lineage.id, c.lineage.stream.offset)) None) q) ∙ e in absurd (cc)

pub shown_id : (c : Core) (p : List ℕ × ℕ) → shown c ≡ Some p → p.0 ≡ c.lineage.id
shown_id c p e = ap (λ (z : List ℕ × ℕ). z.0) (shown_is c p e)

pub shown_offset : (c : Core) (p : List ℕ × ℕ) → shown c ≡ Some p → p.1 ≡ c.lineage.stream.offset
shown_offset c p e = ap (λ (z : List ℕ × ℕ). z.1) (shown_is c p e)

-- ---- a tick
module _ (w : WorldState) (n : ℕ) (now : ℤ) (x : Slot) (within : n < length w.slots) (slot : x ≡ get_or w.slots n x) where
  pub rests_shown : shown x.node.core ≡ None → Ticks w n now w
  rests_shown e = Ticks.rests (record { slot = x; at = stands w.slots n x within slot; down = shows_none x.node.core e }) refl

  pub tick_lacks : (t : Slot) → t ≡ record x { node = t.node } → x.node.core.up ≡ true → t.node ≡ x.node → HasDue x.node now → NeedsTick w n now × (◌≡◌ {A = WorldState} (record w { slots = slice_set w.slots n t }) w)
  tick_lacks t rest up e due = (
    record { slot = x; running = record { at = stands w.slots n x within slot; up = up }; due = due },
    ap (λ (z : List Slot). record w { slots = z }) (put_same w.slots n x t slot (rest ∙ ap (λ (z : NodeState). record x { node = z }) e)),
  )

  row_up : (b : NodeState) (outs : OutsState) → TickRow x.node now b outs → x.node.core.up ≡ true
  row_up b outs (TickRow.deletes up d) = up
  row_up b outs (TickRow.rests up m k r e) = up

  -- the node, as it stands behind its tick
  module _ (t : Slot) (rest : t ≡ record x { node = t.node }) (outs : OutsState) (row : TickRow x.node now t.node outs) (sound : IsSound t.node) where
    here : slice_get w.slots n ≡ Some x
    here = stands w.slots n x within slot

    abbrev came : HasTicked w n now
    came = record { slot = x; running = record { at = here; up = row_up t.node outs row }; node = t.node; outs = outs; row = row; sound = sound }

    read : (y : Slot) → y ≡ get_or (slice_set w.slots n t) n y → y ≡ t
    read y again = read_is (slice_set w.slots n t) y again (set_here w.slots n t x here)
      where
        read_is : (xs : List Slot) (y : Slot) → y ≡ get_or xs n y → slice_get xs n ≡ Some t → y ≡ t
        read_is xs y r e = let inside : n < length xs = within_of xs n e in some_is y t (sym (stands xs n y inside r) ∙ e)
          where
            within_of : (xs : List Slot) (n : ℕ) → slice_get xs n ≡ Some t → n < length xs
            within_of xs n e = is_within xs n t e

    pub carried : (y g : Slot) (links : List Link) (book : List BookEntry) (id : List ℕ) (offset : ℕ) → y ≡ get_or (slice_set w.slots n t) n y → g ≡ record y { file = filed outs y.file }
        → links ≡ said_on outs.link y.dialled outs.reply (map (reached n outs) w.links) → book ≡ booked_as outs.used w.book id offset outs.grown
        → id ≡ x.node.core.lineage.id → offset ≡ x.node.core.lineage.stream.offset
        → Ticks w n now (record { slots = slice_set (slice_set w.slots n t) n g; links = links; book = book })
    carried y g links book id offset again f ls bs i o =
        let one : y ≡ t = read y again in
        let whole : y ≡ record x { node = t.node } = one ∙ rest in
        Ticks.carries came (
        ap (λ z. record { slots = z; links = links; book = book }) (set_twice w.slots n t g ∙ ap (slice_set w.slots n) (f ∙ ap (λ (z : Slot). record z { file = filed outs z.file }) whole))
        ∙ (ap (λ z. record { slots = slice_set w.slots n (record x { node = t.node; file = filed outs x.file }); links = z; book = book }) (ls ∙ ap (λ (z : Slot). said_on outs.link z.dialled outs.reply (map (reached n outs) w.links)) whole)
        ∙ ap (λ z. record { slots = slice_set w.slots n (record x { node = t.node; file = filed outs x.file }); links = said_on outs.link x.dialled outs.reply (map (reached n outs) w.links); book = z })
        (bs ∙ (ap (λ z. booked_as outs.used w.book z offset outs.grown) i ∙ ap (λ z. booked_as outs.used w.book x.node.core.lineage.id z outs.grown) o))))

    pub failed : TakesMemory outs → (y g z f : Slot) (links : List Link) (book : List BookEntry) → y ≡ get_or (slice_set w.slots n t) n y → g ≡ y → z ≡ get_or (slice_set (slice_set w.slots n t) n g) n z → f ≡ record z { node = stopped_as z.node }
        → links ≡ w.links → book ≡ w.book
        → Ticks w n now (record { slots = slice_set (slice_set (slice_set w.slots n t) n g) n f; links = links; book = book })
    failed takes y g z f links book again same third stops ls bs =
        let one : g ≡ t = same ∙ read y again in
        let two : z ≡ t = read z (third ∙ ap (λ (q : List Slot). get_or q n z) (set_twice w.slots n t g ∙ ap (slice_set w.slots n) one)) in
        Ticks.fails came takes (
        ap (λ q. record { slots = slice_set (slice_set (slice_set w.slots n t) n g) n f; links = q; book = book }) ls
        ∙ (ap (λ q. record { slots = slice_set (slice_set (slice_set w.slots n t) n g) n f; links = w.links; book = q }) bs
        ∙ ap (λ q. record { slots = q; links = w.links; book = w.book }) (set_twice (slice_set w.slots n t) n g f ∙ (set_twice w.slots n t f
        ∙ ap (slice_set w.slots n) (stops ∙ ap (λ (q : Slot). record q { node = stopped_as q.node }) (two ∙ rest))))))

-- ---- what is true of each World stays
pub tick_keeps : (w v : WorldState) (n : ℕ) (now : ℤ) (r : Result (Unit {0}) Refusal) → IsWorld w → TickCall w n now v r → IsWorld v
tick_keeps w v n now (Ok done) is (Ticks.carries t e) = subst (λ (z : WorldState). IsWorld z) (sym e) (ticks_keep w n t.slot now t.node t.outs is t.running t.sound t.row)
tick_keeps w v n now (Ok done) is (Ticks.fails t takes e) = subst (λ (z : WorldState). IsWorld z) (sym e) (stops_world w n t.slot (stopped_as t.node) is t.running.at refl)
tick_keeps w v n now (Ok done) is (Ticks.rests d e) = subst (λ (z : WorldState). IsWorld z) (sym e) is
tick_keeps w v n now (Err refusal.Nobody) is c = subst (λ (z : WorldState). IsWorld z) (sym c.1) is
tick_keeps w v n now (Err refusal.Memory) is c = subst (λ (z : WorldState). IsWorld z) (sym c.1) is
tick_keeps w v n now (Err refusal.Drawn) is c = absurd c
tick_keeps w v n now (Err refusal.TooMuch) is c = absurd c
tick_keeps w v n now (Err refusal.InputFull) is c = absurd c
