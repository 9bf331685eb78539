-- What an iterator over places gives, and what it keeps.
use Rattle.std.proofs.Common.{◌≡◌, ℕ, suc, ◌+◌, ◌-◌, ◌<◌, ◌≤◌, List, [], ◌∷◌, ◌++◌, length, get_or, take, drop, refl, sym, ap, ◌∙◌, arith}
use Rattle.std.specs.List.{slice_range}
use Rattle.std.proofs.lemmas.List.{drop_more, get_or-drop, get_or-take, length-drop, length-take-le, get_or_append_left, get_or_push, length_push}
use Rattle.std.proofs.lemmas.List.Edits.{between_more}
use Rattle.mr_order.specs.Runs.{IsIn, AreRuns}

module _ {A : Type 0} (items : List A) where
  -- no items stand anywhere
  pub none_in : (at : ℕ) → at ≤ length items → IsIn items [] at
  none_in at within = record { same = λ k d lt. absurd (omega arith); fits = omega arith }

  -- all items from a place on, and all in front of one
  pub run_drop : (at : ℕ) → at ≤ length items → IsIn items (drop at items) at
  run_drop at within = record { same = λ k d lt. sym (get_or-drop at items k d); fits = let l = length-drop at items in omega arith }

  pub run_take : (at : ℕ) → at ≤ length items → IsIn items (take at items) (at - length (take at items))
  run_take at within =
      let l = length-take-le at items within in
      let none : at - length (take at items) ≡ 0 = omega arith in
      record {
        same = λ k d lt. (let e : at - length (take at items) + k ≡ k = omega arith in ap (λ n. get_or items n d) e ∙ sym (get_or-take at items k d (omega arith)));
        fits = omega arith;
      }

  pub runs_none : (from to : ℕ) → from ≤ to → to ≤ length items → AreRuns items from to [] []
  runs_none from to ordered within = record { ordered = ordered; within = within; front = none_in from (omega arith); fits = omega arith; back = none_in (to - 0) (omega arith) }

  range_first : (from to : ℕ) (d : A) → from < to → to ≤ length items → slice_range items from to ≡ get_or items from d ∷ slice_range items (from + 1) to
  range_first from to d some within =
      let one : to - from ≡ suc (to - (from + 1)) = omega arith in
      ap (λ n. take n (drop from items)) one ∙ ap (take (suc (to - (from + 1)))) (drop_more items from d (omega arith))

  -- the first item of the run from a place on is the first of the range
  pub first_of : (from to : ℕ) (x : A) (rest : List A) → from < to → to ≤ length items → IsIn items (x ∷ rest) from → slice_range items from to ≡ x ∷ slice_range items (from + 1) to
  first_of from to x rest some within run =
      let e : from + 0 ≡ from = omega arith in
      range_first from to x some within ∙ ap (λ y. y ∷ slice_range items (from + 1) to) (ap (λ n. get_or items n x) (sym e) ∙ run.same 0 x (omega arith))

  pub rest_of : (from : ℕ) (x : A) (rest : List A) → IsIn items (x ∷ rest) from → IsIn items rest (from + 1)
  rest_of from x rest run =
      let fits = run.fits in
      record { same = λ k d lt. (let e : from + 1 + k ≡ from + suc k = omega arith in ap (λ n. get_or items n d) e ∙ run.same (suc k) d (omega arith)); fits = omega arith }

  module _ (to : ℕ) (x : A) (rest : List A) (fits : length (rest ++ x ∷ []) ≤ to) (run : IsIn items (rest ++ x ∷ []) (to - length (rest ++ x ∷ []))) where
    -- the last item of the run in front of a place is the last of the range
    pub last_of : (from : ℕ) → from < to → to ≤ length items → slice_range items from to ≡ slice_range items from (to - 1) ++ x ∷ []
    last_of from some within =
        let long = length_push rest x in
        let e : to ≡ to - 1 + 1 = omega arith in
        let at : to - length (rest ++ x ∷ []) + length rest ≡ to - 1 = omega arith in
        let is : get_or items (to - 1) x ≡ x = ap (λ n. get_or items n x) (sym at) ∙ run.same (length rest) x (omega arith) ∙ get_or_push rest x x (length rest) refl in
        ap (slice_range items from) e ∙ between_more items from (to - 1) x (omega arith) (omega arith) ∙ ap (λ y. slice_range items from (to - 1) ++ y ∷ []) is

    pub rest_in_front : IsIn items rest (to - 1 - length rest)
    rest_in_front =
        let long = length_push rest x in
        let inside = run.fits in
        let at : to - 1 - length rest ≡ to - length (rest ++ x ∷ []) = omega arith in
        record {
          same = λ k d lt. ap (λ n. get_or items (n + k) d) at ∙ run.same k d (omega arith) ∙ get_or_append_left rest (x ∷ []) d k lt;
          fits = omega arith;
        }
