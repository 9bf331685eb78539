-- What is open on a link, where one node of a World is another.
use Rattle.std.proofs.Common.{◌≡◌, ◌≢◌, inl, inr, ℕ, List, Bool, true, false, cond, None, Some, ◌==◌, refl, sym, ap, ◌∙◌, arith}
use Rattle.std.specs.Prelude.{slice_get, slice_set}
use Rattle.mr_links.specs.declared.link_id.LinkId.{LinkId}
use Rattle.mr_node_spec.specs.State.{end_of}
use Rattle.law_refinement.specs.State.{Link, Slot}
use Rattle.law_refinement.specs.Seeing.{open_in, open_at, open_on}
use Rattle.law_refinement.proofs.Places.{set_here, set_there}
use Rattle.law_refinement.proofs.Reading.{number_or}

pub cond_same : {A : Type 0} (b : Bool) (x : A) → cond b x x ≡ x
cond_same true x = refl
cond_same false x = refl

pub eqb_yes : (m n : ℕ) → m ≡ n → (m == n) ≡ true
eqb_yes m n e = grind arith

pub eqb_no : (m n : ℕ) → m ≢ n → (m == n) ≡ false
eqb_no m n ne = grind arith

-- what is open at an end that is the same
pub same_end : (s t : Slot) (x : LinkId) → t.node.core.up ≡ s.node.core.up → end_of t.node x ≡ end_of s.node x → open_at (Some t) x ≡ open_at (Some s) x
same_end s t x up e = ap (λ c. cond c (open_in (end_of t.node x)) None) up ∙ ap (λ o. cond s.node.core.up (open_in o) None) e

module _ (slots : List Slot) (n : ℕ) (s t : Slot) (at : slice_get slots n ≡ Some s) where
  pub elsewhere : (k : Link) → k.to ≢ n → open_on (slice_set slots n t) k ≡ open_on slots k
  elsewhere k ne = ap (λ o. cond k.serving (open_at o k.name) None) (set_there slots n k.to t ne)

  pub now_here : (k : Link) → k.to ≡ n → open_on (slice_set slots n t) k ≡ cond k.serving (open_at (Some t) k.name) None
  now_here k e = ap (λ o. cond k.serving (open_at o k.name) None) (ap (slice_get (slice_set slots n t)) e ∙ set_here slots n t s at)

  pub was_here : (k : Link) → k.to ≡ n → open_on slots k ≡ cond k.serving (open_at (Some s) k.name) None
  was_here k e = ap (λ o. cond k.serving (open_at o k.name) None) (ap (slice_get slots) e ∙ at)

  -- it stays where the end does
  pub open_stays : (k : Link) → (k.to ≡ n → k.serving ≡ true → open_at (Some t) k.name ≡ open_at (Some s) k.name) → open_on (slice_set slots n t) k ≡ open_on slots k
  open_stays k same = elim (number_or k.to n) [
    | inl e ↦ now_here k e ∙ (go k.serving refl e ∙ sym (was_here k e))
    | inr ne ↦ elsewhere k ne
  ]
    where
      go : (c : Bool) → k.serving ≡ c → k.to ≡ n → cond c (open_at (Some t) k.name) None ≡ cond c (open_at (Some s) k.name) None
      go true q e = same e q
      go false q e = refl

  -- a node that has stopped drops all
  pub open_drops : t.node.core.up ≡ false → (k : Link) → open_on (slice_set slots n t) k ≡ cond (k.to == n) None (open_on slots k)
  open_drops down k = elim (number_or k.to n) [
    | inl e ↦ now_here k e ∙ (ap (λ z. cond k.serving z None) (ap (λ c. cond c (open_in (end_of t.node k.name)) None) down) ∙ (cond_same k.serving None ∙ sym (ap (λ c. cond c None (open_on slots k)) (eqb_yes k.to n e))))
    | inr ne ↦ elsewhere k ne ∙ sym (ap (λ c. cond c None (open_on slots k)) (eqb_no k.to n ne))
  ]
