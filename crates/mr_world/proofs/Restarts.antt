-- A node that begins anew: how the parts of it make it, and that what is true of each World stays.
use Rattle.std.proofs.Common.{◌≡◌, ◌<◌, ◌≤◌, ◌==◌, ◌^◌, ℕ, List, Bool, true, false, not, Option, None, Some, Result, Ok, Err, length, map, get_or, refl, sym, ap, subst, ◌∙◌, arith}
use Rattle.std.specs.Prelude.{slice_get, slice_set}
use Rattle.std.specs.Option.{option_map}
use Rattle.std.proofs.lemmas.Option.{slice_get-map, none-some}
use Rattle.mr_links.specs.declared.link_id.LinkId.{LinkId}
use Rattle.mr_repl.specs.ReplId.{IsId}
use Rattle.mr_follower.specs.State.{FollowState, Agrees}
use Rattle.mr_node_spec.specs.Sound.{IsSound}
use Rattle.law_refinement.specs.Way.{IsWay, unread}
use Rattle.law_refinement.specs.State.{BookEntry, Link, Slot, WorldState}
use Rattle.law_refinement.specs.Worlds.{IsUntouched, IsWorld, HasMaster, end_for}
use Rattle.law_refinement.specs.Books.{begun}
use Rattle.law_refinement.specs.Carrying.{restarted_with, shut_if}
use Rattle.law_refinement.proofs.Places.{some_is}
use Rattle.mr_world_parts.specs.AtNode.{IsLoaded}
use Rattle.mr_world_parts.specs.AtLink.{shut_at}
use Rattle.mr_world_parts.proofs.Places.{stands}
use Rattle.mr_world.specs.declared.refusal.Refusal.{Refusal}
use Rattle.mr_world.specs.declared.refusal.Refusal.TheVariants as refusal
use Rattle.mr_world.specs.Restarting.{IsThere, RestartCall, Restarts}
use Rattle.mr_world.proofs.Changing.{changed_world}
use Rattle.mr_world.proofs.Kept.{started_sound}

-- ---- a link whose server's end closes, or not
record Shuts (b : Bool) (x y : Link) : Type 0 where
  waits : y.waits ≡ x.waits
  untouched : IsUntouched x → IsUntouched y
  to : y.to ≡ x.to
  name : y.name ≡ x.name
  caller : y.caller ≡ x.caller
  streams : y.streams ≡ x.streams
  ask : y.ask ≡ x.ask
  tell : y.tell ≡ x.tell
  serving : y.serving ≡ true → x.serving ≡ true
  open_now : y.serving ≡ true → b ≡ false

shuts_one : (b : Bool) (x : Link) → Shuts b x (shut_if b x)
shuts_one true x = record { waits = refl; untouched = λ u. record { serving = refl; streams = u.streams; ask = u.ask; tell = u.tell }; to = refl; name = refl; caller = refl; streams = refl; ask = refl; tell = refl; serving = λ e. absurd (no e); open_now = λ e. absurd (no e) }
  where
    no : false ≡ true → ⊥
    no e = cc
shuts_one false x = record { waits = refl; untouched = λ u. u; to = refl; name = refl; caller = refl; streams = refl; ask = refl; tell = refl; serving = λ e. e; open_now = λ e. refl }

from_map : (f : Link → Link) (o : Option Link) (y : Link) → option_map f o ≡ Some y → (x : Link) × (o ≡ Some x) × (y ≡ f x)
from_map f None y e = absurd (none-some y e)
from_map f (Some x) y e = (x, refl, sym (some_is (f x) y e))

here_is : (m n : ℕ) → m ≡ n → (m == n) ≡ false → ⊥
here_is m n e f = grind arith

-- ---- what is true of each World doesn't speak of the book
other_book : (w : WorldState) (book : List BookEntry) → IsWorld w → IsWorld (record w { book = book })
other_book w book is = record { asks = is.asks; tells = is.tells; servers = is.servers; untouched = is.untouched; names = is.names; nodes = is.nodes; followers = is.followers }

module _ (w : WorldState) (n : ℕ) (s t : Slot) (is : IsWorld w) (at : slice_get w.slots n ≡ Some s) (sound : IsSound t.node) (alone : t.node.follow ≡ None) where
  abbrev links : List Link
  links = map (shut_at n) w.links

  was : (j : ℕ) (y : Link) → slice_get links j ≡ Some y → (x : Link) × (slice_get w.links j ≡ Some x) × Shuts (x.to == n) x y
  was j y e = let h = from_map (shut_at n) (slice_get w.links j) y (sym (slice_get-map (shut_at n) w.links j) ∙ e) in
      (h.0, h.1, subst (λ (z : Link). Shuts (h.0.to == n) h.0 z) (sym h.2) (shuts_one (h.0.to == n) h.0))

  still : (j : ℕ) (x : Link) → slice_get w.links j ≡ Some x → slice_get links j ≡ Some (shut_at n x)
  still j x e = slice_get-map (shut_at n) w.links j ∙ ap (option_map (shut_at n)) e

  master : (i : ℕ) (u : Slot) (name : LinkId) (f : FollowState) → HasMaster w.links i u name f → HasMaster links i u name f
  master i u name f h = let k = shuts_one (h.link.to == n) h.link in record {
    link = shut_at n h.link;
    found = still u.dialled h.link h.found;
    caller = k.caller ∙ h.caller;
    agrees = subst (λ z. Agrees f (unread z)) (sym k.tell) h.agrees;
  }

  between : IsWorld (record w { slots = slice_set w.slots n t; links = links })
  between = changed_world w n s t links is at (record {
    origin = λ j y e. let x = was j y e in record { link = x.0; found = x.1; to = x.2.to; name = x.2.name; serving = x.2.serving };
    asks = λ j y e. let x = was j y e in subst IsWay (sym x.2.ask) (is.asks j x.0 x.1);
    tells = λ j y e. let x = was j y e in subst IsWay (sym x.2.tell) (is.tells j x.0 x.1);
    untouched = λ j y e u. let x = was j y e in x.2.untouched (is.untouched j x.0 x.1 (sym x.2.waits ∙ u));
    here = λ j y e to up q. let x = was j y e in absurd (here_is x.0.to n (sym x.2.to ∙ to) (x.2.open_now q));
    there = λ j x y d e apart q held.
        let v = was j y e in
        let one : v.0 ≡ x = some_is v.0 x (sym v.1 ∙ d) in
        ap (λ (z : Link). end_for z.streams held (unread z.ask)) (sym one) ∙ (ap (λ z. end_for z held (unread v.0.ask)) (sym v.2.streams) ∙ ap (λ z. end_for y.streams held (unread z)) (sym v.2.ask));
    sound = λ up. sound;
    own = λ name f up e. absurd (none-some (name, f) (sym alone ∙ e));
    onward = λ i u name f apart h. master i u name f h;
  })

  pub restarts_world : (id start : List ℕ) → IsWorld (restarted_with w n t id start)
  restarts_world id start = other_book (record w { slots = slice_set w.slots n t; links = links }) (begun w.book id start) between

pub restart_keeps : (w v : WorldState) (n : ℕ) (kept id : List ℕ) (port backlog : ℕ) (r : Result (Unit {0}) Refusal) → IsWorld w → IsId id → 1 ≤ backlog → backlog ≤ 2 ^ 30 → RestartCall w n kept id port backlog v r → IsWorld v
restart_keeps w v n kept id port backlog (Ok done) is named some few c =
    let d = c.1 in
    let l = d.loaded in
    subst (λ (z : WorldState). IsWorld z) (sym d.is) (restarts_world w n d.slot d.anew is d.at
    (subst (λ (z : Slot). IsSound z.node) (sym l.is) (started_sound (not d.slot.as_master) port backlog id l.held named some few))
    (ap (λ (z : Slot). z.node.follow) l.is) id d.anew.file)
restart_keeps w v n kept id port backlog (Err refusal.Drawn) is named some few c = subst (λ (z : WorldState). IsWorld z) (sym c.1) is
restart_keeps w v n kept id port backlog (Err refusal.Nobody) is named some few c = subst (λ (z : WorldState). IsWorld z) (sym c.2) is
restart_keeps w v n kept id port backlog (Err refusal.Memory) is named some few c = subst (λ (z : WorldState). IsWorld z) (sym c.2) is
restart_keeps w v n kept id port backlog (Err refusal.TooMuch) is named some few c = absurd c
restart_keeps w v n kept id port backlog (Err refusal.InputFull) is named some few c = absurd c

-- ---- how the parts of it make it
module _ (w : WorldState) (n : ℕ) (x : Slot) (within : n < length w.slots) (slot : x ≡ get_or w.slots n x) where
  pub there_is : IsThere w n
  there_is = record { slot = x; at = stands w.slots n x within slot }

  pub restarts_here : (kept id : List ℕ) (port backlog : ℕ) (t : Slot) (ends : List Link) (book : List BookEntry) → IsLoaded kept (not x.as_master) port backlog id t
      → ends ≡ map (shut_at n) w.links → book ≡ begun w.book id t.file
      → Restarts w n kept id port backlog (record { slots = slice_set w.slots n t; links = ends; book = book })
  restarts_here kept id port backlog t ends book l ls bs = record {
    slot = x;
    at = stands w.slots n x within slot;
    anew = t;
    loaded = l;
    is = ap (λ z. record { slots = slice_set w.slots n t; links = z; book = book }) ls ∙ ap (λ z. record { slots = slice_set w.slots n t; links = map (shut_at n) w.links; book = z }) bs;
  }
