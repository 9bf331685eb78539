-- Options that may change places set in each order what they set in one.
use Rattle.std.proofs.Common.{ℕ, zero, suc, ◌≡◌, ◌<◌, List, [], ◌∷◌, ◌++◌, map, length, get_or, set, swap, refl, sym, ◌∙◌, ap, subst, arith}
use Rattle.std.specs.Prelude.{IsPermutation, Result, Ok}
use Rattle.std.proofs.Math.ListN.{get_or-map}
use Rattle.std.proofs.lemmas.List.{length-map, map-set}
use Rattle.std.proofs.lemmas.List.Sorted.{IsPermutation-keeps}
use Rattle.mr_arguments.specs.Options.{added}
use Rattle.mr_arguments.specs.Parts.{with}
use Rattle.mr_arguments.specs.Spelling.{Part, AreParts, in_a_row}
use Rattle.mr_arguments.proofs.OrderLemmas.{exchanged, with_same}
use Rattle.mr_arguments.specs.declared.fault.AskFault.{AskFault}

-- words that are arguments, and behind them words that are others
pub record PartsCut (words : List (List ℕ)) (ps qs : List Part) : Type 0 where
  pub front : List (List ℕ)
  pub back : List (List ℕ)
  pub joined : words ≡ front ++ back
  pub front_are : AreParts front ps
  pub back_are : AreParts back qs

pub parts_cut : (words : List (List ℕ)) (ps qs : List Part) → AreParts words (ps ++ qs) → PartsCut words ps qs
parts_cut words [] qs h = record { front = []; back = words; joined = refl; front_are = tt; back_are = h }
parts_cut [] (p ∷ ps) qs h = absurd h
parts_cut (w ∷ words) (p ∷ ps) qs h =
    let rest = parts_cut words ps qs h.1 in
    record { front = w ∷ rest.front; back = rest.back; joined = ap (λ (xs : List (List ℕ)). w ∷ xs) rest.joined; front_are = (h.0, rest.front_are); back_are = rest.back_are }

map_swap : {A B : Type 0} (f : A → B) (xs : List A) (i j : ℕ) → map f (swap xs i j) ≡ swap (map f xs) i j
map_swap f [] i j = refl
map_swap f (d ∷ ys) i j =
    let xs = d ∷ ys in
    map-set f (set xs i (get_or xs j d)) j (get_or xs i d)
    ∙ ap (λ zs. set zs j (f (get_or xs i d))) (map-set f xs i (get_or xs j d))
    ∙ ap (λ z. set (set (map f xs) i z) j (f (get_or xs i d))) (sym (get_or-map f xs j d))
    ∙ ap (λ z. set (set (map f xs) i (get_or (map f xs) j (f d))) j z) (sym (get_or-map f xs i d))

module _ {O S : Type 0} (add : S → O → Result S AskFault) (alike : (s : S) (o p : O) → with (add s o) (λ t. add t p) ≡ with (add s p) (λ t. add t o)) where
  -- the first takes the place of another
  front_moved : (os : List O) (j : ℕ) (o d : O) → j < length os → (s : S) → added add s (get_or os j d ∷ set os j o) ≡ added add s (o ∷ os)
  front_moved [] j o d h s = let no : ⊥ = omega arith in absurd no
  front_moved (p ∷ os) zero o d h s = exchanged add alike [] os p o s
  front_moved (p ∷ os) (suc j) o d h s =
      let g = get_or os j d in
      exchanged add alike [] (set os j o) g p s
      ∙ with_same (add s p) _ _ (front_moved os j o d (omega arith))
      ∙ exchanged add alike [] os p o s

  traded : (os : List O) (i j : ℕ) (d : O) → i < length os → j < length os → (s : S) → added add s (set (set os i (get_or os j d)) j (get_or os i d)) ≡ added add s os
  traded [] i j d h k s = let no : ⊥ = omega arith in absurd no
  traded (o ∷ os) zero zero d h k s = refl
  traded (o ∷ os) zero (suc j) d h k s = front_moved os j o d (omega arith) s
  traded (o ∷ os) (suc i) zero d h k s = front_moved os i o d (omega arith) s
  traded (o ∷ os) (suc i) (suc j) d h k s = with_same (add s o) _ _ (traded os i j d (omega arith) (omega arith))

  swapped : (os : List O) (i j : ℕ) → i < length os → j < length os → (s : S) → added add s (swap os i j) ≡ added add s os
  swapped [] i j h k s = refl
  swapped (d ∷ os) i j h k s = traded (d ∷ os) i j d h k s

  module _ (part : O → List Part) where
    -- options in the order of their words
    abbrev pub Reordered : List O → List (List Part) → Type 0
    Reordered os order = (ps : List O) × ((map part ps ≡ order) × ((s : S) → added add s ps ≡ added add s os))

    one_swap : (os : List O) (order : List (List Part)) (i j : ℕ) → i < length order → j < length order → Reordered os order → Reordered os (swap order i j)
    one_swap os order i j h k r =
        let ps = r.0 in
        let long : length ps ≡ length order = sym (length-map ps part) ∙ ap length r.1.0 in
        (swap ps i j, (map_swap part ps i j ∙ ap (λ xs. swap xs i j) r.1.0, λ s. swapped ps i j (omega arith) (omega arith) s ∙ r.1.1 s))

    pub reordered : (os : List O) (order : List (List Part)) → IsPermutation (map part os) order → Reordered os order
    reordered os order p = IsPermutation-keeps (map part os) (Reordered os) (os, (refl, λ s. refl)) (one_swap os) order p

    module _ (read : S → List (List ℕ) → Result S AskFault) (none : (s : S) → read s [] ≡ Ok s)
        (first : (s : S) (o : O) (words rest : List (List ℕ)) → AreParts words (part o) → read s (words ++ rest) ≡ with (add s o) (λ t. read t rest)) where
      pub in_order : (os : List O) (s : S) (words : List (List ℕ)) → AreParts words (in_a_row (map part os)) → read s words ≡ added add s os
      in_order [] s [] h = none s
      in_order [] s (w ∷ words) h = absurd h
      in_order (o ∷ os) s words h =
          let cut = parts_cut words (part o) (in_a_row (map part os)) h in
          ap (read s) cut.joined ∙ first s o cut.front cut.back cut.front_are ∙ with_same (add s o) _ _ (λ t. in_order os t cut.back cut.back_are)

      -- words that are these options, in some order, are read as what the options set
      pub any_order : (os : List O) (order : List (List Part)) (s : S) (words : List (List ℕ)) → IsPermutation (map part os) order → AreParts words (in_a_row order) → read s words ≡ added add s os
      any_order os order s words p h =
          let r = reordered os order p in
          in_order r.0 s words (subst (λ (x : List (List Part)). AreParts words (in_a_row x)) (sym r.1.0) h) ∙ r.1.1 s
