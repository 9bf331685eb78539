-- A node that stops, as histories see it.
use Rattle.std.proofs.Common.{◌≡◌, ℕ, List, Bool, true, false, ◌==◌, cond, Option, None, Some, refl, sym, ap, ◌∙◌}
use Rattle.std.specs.Prelude.{slice_get, slice_set}
use Rattle.std.specs.Option.{option_map}
use Rattle.mr_node_spec.specs.State.{NodeState}
use Rattle.law_protocol.specs.History.{Book}
use Rattle.law_protocol.specs.World as history
use Rattle.law_protocol.specs.Changing.{Stops}
use Rattle.law_minired.specs.Minired.{minired}
use Rattle.law_refinement.specs.State.{Link, Slot, WorldState}
use Rattle.law_refinement.specs.Seeing.{seen, seen_node, link_with, seen_link}
use Rattle.law_refinement.specs.Worlds.{IsWorld}
use Rattle.law_refinement.specs.Carrying.{put_node}
use Rattle.law_refinement.proofs.Seen.{put_at}
use Rattle.law_refinement.proofs.Open.{open_drops}
use Rattle.law_refinement.proofs.Unaccepted.{none_open}

module _ (w : WorldState) (is : IsWorld w) (n : ℕ) (s : Slot) (b : NodeState) (at : slice_get w.slots n ≡ Some s) (down : b.core.up ≡ false) where
  abbrev after : List Slot
  after = slice_set w.slots n (record s { node = b })

  -- what is open at its ends is dropped
  dropped_seen : (k : Link) → seen_link after k ≡ history.dropped (k.to == n) (seen_link w.slots k)
  dropped_seen k = ap (λ o. link_with o k) (open_drops w.slots n s (record s { node = b }) at down k)

  -- .. whom the link is seen with, if anyone
  dropped_there : (l : ℕ) (k : Link) → slice_get w.links l ≡ Some k → seen_link after k ≡ history.dropped (history.is_to n (seen_link w.slots k).to) (seen_link w.slots k)
  dropped_there l k found = go k.waits refl
    where
      go : (c : Bool) → k.waits ≡ c → seen_link after k ≡ history.dropped (history.is_to n (cond {A = Option ℕ} c None (Some k.to))) (seen_link w.slots k)
      go false e = dropped_seen k
      go true e = let none = (is.untouched l k found e).serving in ap (λ o. link_with o k) (none_open k none after ∙ sym (none_open k none w.slots))

  none_there : (o : Option Link) → option_map (seen_link w.slots) o ≡ None → option_map (seen_link after) o ≡ None
  none_there None e = refl
  none_there (Some k) e = absurd (cc)

  some_there : (l : ℕ) (o : Option Link) (x : history.Link) → slice_get w.links l ≡ o → option_map (seen_link w.slots) o ≡ Some x → option_map (seen_link after) o ≡ Some (history.dropped (history.is_to n x.to) x)
  some_there l None x found e = absurd (cc)
  some_there l (Some k) x found e = let same : seen_link w.slots k ≡ x = cc in ap (λ z. Some z) (dropped_there l k found) ∙ ap (λ (z : history.Link). Some (history.dropped (history.is_to n z.to) z)) same

pub node_stops : (w : WorldState) → IsWorld w → (book : Book minired) (n : ℕ) (s : Slot) (b : NodeState) → slice_get w.slots n ≡ Some s → b.core.up ≡ false → Stops (seen w book) (seen (put_node w n s b) book) n (seen_node s)
node_stops w is book n s b at down = record {
  wreck = seen_node (record s { node = b });
  down = down;
  role = refl;
  nodes = put_at seen_node w.slots n (record s { node = b }) s at;
  no_links = λ l e. none_there w is n s b at down (slice_get w.links l) e;
  links = λ l k e. some_there w is n s b at down l (slice_get w.links l) k refl e;
  book = λ i. refl;
}
