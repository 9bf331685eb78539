-- What options set is what their words spell.
use Rattle.std.proofs.Common.{ℕ, ◌≡◌, List, [], ◌∷◌, ◌++◌, refl, ap, subst}
use Rattle.std.specs.Prelude.{IsPermutation, Result, Ok, flat_map}
use Rattle.std.proofs.lemmas.List.{append-nil}
use Rattle.std.proofs.lemmas.List.Sorted.{IsPermutation-refl, IsPermutation-trans, IsPermutation-append_right, IsPermutation-middle}
use Rattle.mr_arguments.specs.Options.{added}
use Rattle.mr_arguments.specs.Pairing.{unpaired}
use Rattle.mr_arguments.proofs.PartLemmas.{with_ok}
use Rattle.mr_arguments.specs.Spelling.{Part, AreParts, in_a_row}
use Rattle.mr_arguments.specs.declared.fault.AskFault.{AskFault}

pub parts_joined : (xs ys : List (List ℕ)) (ps qs : List Part) → AreParts xs ps → AreParts ys qs → AreParts (xs ++ ys) (ps ++ qs)
parts_joined [] ys [] qs h k = k
parts_joined [] ys (p ∷ ps) qs h k = absurd h
parts_joined (x ∷ xs) ys [] qs h k = absurd h
parts_joined (x ∷ xs) ys (p ∷ ps) qs h k = (h.0, parts_joined xs ys ps qs h.1 k)

-- words that are options in some order, which are those of t beside those of s
pub record Adds (words : List (List ℕ)) (before after : List (List Part)) : Type 0 where
  pub order : List (List Part)
  pub same : IsPermutation after (order ++ before)
  pub parts : AreParts words (in_a_row order)

module _ {A S : Type 0} (add : S → A → Result S AskFault) (options : S → List (List Part)) (spelling : A → List (List ℕ)) where
  -- each item is an option more
  pub all_added :
      ((s : S) (a : A) (t : S) → add s a ≡ Ok t → (o : List Part) × ((AreParts (spelling a) o) × IsPermutation (options t) (o ∷ options s)))
      → (items : List A) (s t : S) → added add s items ≡ Ok t → Adds (flat_map spelling items) (options s) (options t)
  all_added one [] s t h = let same : s ≡ t = cc in record { order = []; same = subst (λ x. IsPermutation (options x) (options s)) same (IsPermutation-refl (options s)); parts = tt }
  all_added one (a ∷ items) s t h =
      let now = with_ok (add s a) (λ next. added add next items) t h in
      let m = now.0 in
      let first = one s a m now.1.0 in
      let o = first.0 in
      let rest = all_added one items m t now.1.1 in
      record {
        order = o ∷ rest.order;
        same = IsPermutation-trans _ _ _ rest.same (IsPermutation-trans _ _ _ (IsPermutation-append_right rest.order (options m) (o ∷ options s) first.1.1) (IsPermutation-middle rest.order o (options s)));
        parts = parts_joined (spelling a) (flat_map spelling items) o (in_a_row rest.order) first.1.0 rest.parts;
      }

-- one option, and then those behind it
pub one_first : (o : List Part) (xs ys : List (List ℕ)) (before middle after : List (List Part)) → AreParts xs o → IsPermutation middle (o ∷ before) → Adds ys middle after → Adds (xs ++ ys) before after
one_first o xs ys before middle after is more rest = record {
  order = o ∷ rest.order;
  same = IsPermutation-trans _ _ _ rest.same (IsPermutation-trans _ _ _ (IsPermutation-append_right rest.order middle (o ∷ before) more) (IsPermutation-middle rest.order o before));
  parts = parts_joined xs ys o (in_a_row rest.order) is rest.parts;
}

-- where none stood before
pub from_none : (words : List (List ℕ)) (after : List (List Part)) → Adds words [] after → (order : List (List Part)) × (IsPermutation after order × AreParts words (in_a_row order))
from_none words after h = (h.order, (subst (λ os. IsPermutation after os) (append-nil h.order) h.same, h.parts))

pub each_alone : (ws : List (List ℕ)) → flat_map (λ w. w ∷ []) ws ≡ ws
each_alone [] = refl
each_alone (w ∷ ws) = ap (λ (xs : List (List ℕ)). w ∷ xs) (each_alone ws)

pub each_pair : (ps : List (List ℕ × List ℕ)) → flat_map (λ p. p.0 ∷ p.1 ∷ []) ps ≡ unpaired ps
each_pair [] = refl
each_pair (p ∷ ps) = ap (λ (xs : List (List ℕ)). p.0 ∷ p.1 ∷ xs) (each_pair ps)
