-- The window of two indexes, from its first place and the place past its last.
use Rattle.std.proofs.Common.{◌≡◌, ℕ, ◌-◌, ◌<◌, ◌≤◌, ℤ, pos, negsuc, ◌+ℤ◌, ◌<ℤ◌, ◌≤ℤ◌, true, false, Some, None, cond, refl, sym, ap, subst, ◌∙◌, arith}
use Rattle.std.specs.Prelude.{int_lt, unsigned_abs, nat_lt, ◌↔◌, T}
use Rattle.std.specs.Int.{int_min, int_max}
use Rattle.std.proofs.lemmas.Int.{ints, clamps}
use Rattle.std.proofs.lemmas.Bool.{le-ltb}
use Rattle.mr_bytes.specs.Window.{place_of, from_to, window_of, IsInWindow}

last_is : (z : ℤ) (n end : ℕ) → pos end ≡ int_max (pos 0) (int_min (z +ℤ pos 1) (pos n)) → 0 < end → int_min z (pos n +ℤ negsuc 0) ≡ pos (end - 1)
last_is z n end e some = omega (arith, ints, clamps)

last_below : (z : ℤ) (n first end : ℕ) → pos end ≡ int_max (pos 0) (int_min (z +ℤ pos 1) (pos n)) → end ≤ first → int_min z (pos n +ℤ negsuc 0) <ℤ pos first
last_below z n first end e le = omega (arith, ints, clamps)

pub less : (l f : ℤ) → l <ℤ f → int_lt l f ≡ true
less l f h = grind (arith, ints)

pub some_window : (a b : ℤ) (n first end : ℕ) → pos first ≡ int_max (pos 0) (place_of a n) → pos end ≡ int_max (pos 0) (int_min (place_of b n +ℤ pos 1) (pos n)) → first < end → Some (first, end - 1) ≡ window_of a b n
unfolding window_of
some_window a b n first end f e lt =
    let ordered : nat_lt (end - 1) first ≡ false = le-ltb _ _ (omega arith) in
    let shown : from_to (pos first) (pos (end - 1)) ≡ Some (first, end - 1) = rw ordered refl in
    sym shown ∙ (λ i. from_to (f i) (sym (last_is (place_of b n) n end e (omega arith)) i))

pub no_window : (a b : ℤ) (n first end : ℕ) → pos first ≡ int_max (pos 0) (place_of a n) → pos end ≡ int_max (pos 0) (int_min (place_of b n +ℤ pos 1) (pos n)) → end ≤ first → None ≡ window_of a b n
unfolding window_of
no_window a b n first end f e le =
    let last = int_min (place_of b n) (place_of (negsuc 0) n) in
    let below : int_lt last (pos first) ≡ true = less last (pos first) (last_below (place_of b n) n first end e le) in
    let shown : from_to (pos first) last ≡ None = rw below refl in
    sym shown ∙ ap (λ x. from_to x last) f

pub natural : (z : ℤ) → pos 0 ≤ℤ z → pos (unsigned_abs z) ≡ z
natural (pos n) h = refl
natural (negsuc n) h = absurd (omega (arith, ints))

pub in_order : (l f : ℤ) → int_lt l f ≡ false → f ≤ℤ l
in_order l f h = grind (arith, ints)

pub out_of_order : (l f : ℤ) → int_lt l f ≡ true → l <ℤ f
out_of_order l f h = record { lt = subst T (sym h) tt }

module _ (first last : ℤ) (n p : ℕ) (here : p < n) where
  -- a place is between the first and the last exactly where it is between them once they are cut to the n
  among : (f l : ℤ) → f ≡ int_max (pos 0) first → l ≡ int_min last (pos n +ℤ negsuc 0) → IsInWindow (from_to f l) p ↔ ((first ≤ℤ pos p) × (pos p ≤ℤ last))
  among f l fe le =
      elim (int_lt l f) as (λ b. int_lt l f ≡ b → IsInWindow (cond b None (Some (unsigned_abs f, unsigned_abs l))) p ↔ ((first ≤ℤ pos p) × (pos p ≤ℤ last))) [
        | true ↦ λ e. (let out = out_of_order l f e in ((λ h. absurd h), (λ h. let a = h.0 in let b = h.1 in absurd (omega (arith, ints, clamps)))))
        | false ↦ λ e.
            let order = in_order l f e in
            let f_is = natural f (omega (arith, ints, clamps)) in
            let l_is = natural l (omega (arith, ints, clamps)) in (
              (λ h. let a = h.0 in let b = h.1 in (omega (arith, ints, clamps), omega (arith, ints, clamps))),
              (λ h. let a = h.0 in let b = h.1 in (omega (arith, ints, clamps), omega (arith, ints, clamps))),
            )
      ] refl

-- A place is in the window exactly where it lies between the places that the indexes mean.
pub between : (a b : ℤ) (n p : ℕ) → p < n → IsInWindow (window_of a b n) p ↔ ((place_of a n ≤ℤ pos p) × (pos p ≤ℤ place_of b n))
unfolding window_of
between a b n p here = among (place_of a n) (place_of b n) n p here _ _ refl refl
