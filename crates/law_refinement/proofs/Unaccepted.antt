-- A link that waits for a node to accept it: no node serves it, and no event of a node reaches it.
use Rattle.std.proofs.Common.{◌≡◌, ◌+◌, ◌≤◌, ℕ, List, Bool, true, false, ◌==◌, ◌&&◌, cond, Option, None, Some, length, refl, sym, ap, subst, ◌∙◌, arith}
use Rattle.std.specs.Prelude.{slice_get}
use Rattle.mr_node_links.specs.Replicas.{is_named}
use Rattle.mr_node_output.specs.Outs.{OutsState}
use Rattle.law_protocol.specs.World as history
use Rattle.law_refinement.specs.Way.{WayState, no_way, taken_on}
use Rattle.law_refinement.specs.State.{Link, Slot, WorldState}
use Rattle.law_refinement.specs.Seeing.{open_at, open_on, seen_link}
use Rattle.law_refinement.specs.Worlds.{IsUntouched, IsWorld}
use Rattle.law_refinement.specs.Carrying.{fed_if, is_at, reached, shut_if}

none_after : (a : Bool) → (a && false) ≡ false
none_after true = refl
none_after false = refl

-- ---- a link that is served doesn't wait
apart : (w s : Bool) → (w ≡ true → s ≡ false) → s ≡ true → w ≡ false
apart false s f e = refl
apart true s f e = let wrong : false ≡ true = sym (f refl) ∙ e in absurd (cc)

pub served_waits : (w : WorldState) → IsWorld w → (l : ℕ) (k : Link) → slice_get w.links l ≡ Some k → k.serving ≡ true → k.waits ≡ false
served_waits w is l k found serving = apart k.waits k.serving (λ e. (is.untouched l k found e).serving) serving

pub served_not_waiting : (w : WorldState) → IsWorld w → (l : ℕ) (k : Link) → slice_get w.links l ≡ Some k → k.serving ≡ true → k.waits ≡ true → ⊥
served_not_waiting w is l k found serving waits = let wrong : false ≡ true = sym (served_waits w is l k found serving) ∙ waits in cc

-- .. so that it is seen with its server
pub is_to_one : (waits : Bool) (n : ℕ) → waits ≡ false → cond {A = Option ℕ} waits None (Some n) ≡ Some n
is_to_one waits n e = ap (λ b. cond {A = Option ℕ} b None (Some n)) e

pub served_to : (w : WorldState) → IsWorld w → (l : ℕ) (k : Link) → slice_get w.links l ≡ Some k → k.serving ≡ true → (seen_link w.slots k).to ≡ Some k.to
served_to w is l k found serving = is_to_one k.waits k.to (served_waits w is l k found serving)

-- ---- one whose server's end isn't open
module _ (k : Link) (none : k.serving ≡ false) where
  -- nothing is open on it
  pub none_open : (slots : List Slot) → open_on slots k ≡ None
  none_open slots = ap (λ c. cond c (open_at (slice_get slots k.to) k.name) None) none

  -- it closes no more
  pub none_shuts : (b : Bool) → shut_if b k ≡ k
  none_shuts true = ap (λ z. record k { serving = z }) (sym none)
  none_shuts false = refl

  none_named : (n : ℕ) (named : Bool) → (is_at n k && named) ≡ false
  none_named n named = ap (λ c. ((k.to == n) && c) && named) none ∙ ap (λ c. c && named) (none_after (k.to == n))

  -- a call on a node doesn't reach it
  pub none_reached : (n : ℕ) (outs : OutsState) → reached n outs k ≡ k
  none_reached n outs =
      ap (λ b. shut_if b (fed_if (is_at n k && is_named outs.fed k.name) outs.grown k)) (none_named n (is_named outs.closed k.name))
      ∙ ap (λ b. fed_if b outs.grown k) (none_named n (is_named outs.fed k.name))

-- ---- to who dialled nothing was sent, so that nothing is taken there
taken_none : (way : WayState) (count : ℕ) → way ≡ no_way → way.taken + count ≤ length way.sent → taken_on count way ≡ no_way
taken_none way count e few =
    let none : 0 + count ≤ 0 = subst (λ (z : WayState). z.taken + count ≤ length z.sent) e few in
    let same : 0 + count ≡ 0 = omega (arith, none) in
    ap (taken_on count) e ∙ ap (λ (n : ℕ). record no_way { taken = n }) same

pub untouched_taken : (k : Link) (count : ℕ) → k.tell.taken + count ≤ length k.tell.sent → IsUntouched k → IsUntouched (record k { tell = taken_on count k.tell })
untouched_taken k count few u = record { serving = u.serving; streams = u.streams; ask = u.ask; tell = taken_none k.tell count u.tell few }

-- ---- whether it carries a node's stream
pub hears_at : (n : ℕ) (slots : List Slot) (k : Link) → (k.waits ≡ true → k.serving ≡ false) → history.hears n (seen_link slots k) ≡ ((k.to == n) && (k.serving && k.streams))
hears_at n slots k f = go k.waits refl
  where
    go : (b : Bool) → k.waits ≡ b → (history.is_to n (cond {A = Option ℕ} b None (Some k.to)) && (k.serving && k.streams)) ≡ ((k.to == n) && (k.serving && k.streams))
    go false e = refl
    go true e = sym (ap (λ c. (k.to == n) && (c && k.streams)) (f e) ∙ none_after (k.to == n))
