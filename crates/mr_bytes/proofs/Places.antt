-- The place that an index names.
use Rattle.std.proofs.Common.{◌≡◌, ℕ, suc, ◌-◌, ◌<◌, ◌≤◌, ℤ, pos, negsuc, ◌+ℤ◌, ◌<ℤ◌, ◌≤ℤ◌, true, false, ◌||◌, Option, Some, None, cond, inl, inr, sym, ap, ◌∙◌, arith}
use Rattle.std.specs.Prelude.{int_le, int_lt, unsigned_abs, nat_le, nat_lt, SomeIff}
use Rattle.std.proofs.lemmas.Bool.{cases_lt, le-ltb, le-leb, lt-leb}
use Rattle.std.proofs.lemmas.Int.{ints}
use Rattle.mr_bytes.specs.Window.{named_place}
use Rattle.mr_bytes.proofs.Windows.{less}

-- the place that a number means, if it is one of the n
abbrev among : ℤ → ℕ → Option ℕ
among z n = cond (int_lt z (pos 0) || int_le (pos n) z) None (Some (unsigned_abs z))

within : (p n : ℕ) → p < n → among (pos p) n ≡ Some p
within p n here =
    let low : nat_lt p 0 ≡ false = le-ltb _ _ (omega arith) in
    let high : nat_le n p ≡ false = lt-leb _ _ here in
    ap (λ b. cond (b || nat_le n p) None (Some p)) low ∙ ap (λ b. cond b None (Some p)) high

past : (p n : ℕ) → n ≤ p → among (pos p) n ≡ None
past p n there =
    let low : nat_lt p 0 ≡ false = le-ltb _ _ (omega arith) in
    let high : nat_le n p ≡ true = le-leb _ _ there in
    ap (λ b. cond (b || nat_le n p) None (Some p)) low ∙ ap (λ b. cond b None (Some p)) high

below : (z : ℤ) (n : ℕ) → z <ℤ pos 0 → among z n ≡ None
below z n under = ap (λ b. cond (b || int_le (pos n) z) None (Some (unsigned_abs z))) (less z (pos 0) under)

-- from the front on
pub from_front : (i : ℤ) (n : ℕ) → pos 0 ≤ℤ i → unsigned_abs i < n → Some (unsigned_abs i) ≡ named_place i n
unfolding named_place
from_front (pos k) n front here = sym (within k n here)
from_front (negsuc k) n front here = absurd (omega (arith, ints))

pub past_end : (i : ℤ) (n : ℕ) → pos 0 ≤ℤ i → n ≤ unsigned_abs i → None ≡ named_place i n
unfolding named_place
past_end (pos k) n front there = sym (past k n there)
past_end (negsuc k) n front there = absurd (omega (arith, ints))

-- from the end on
pub from_end : (i : ℤ) (n m : ℕ) (r : Option ℕ) → i <ℤ pos 0 → m ≡ unsigned_abs i → SomeIff r (m ≤ n) (n - m) → r ≡ named_place i n
unfolding named_place
from_end (pos k) n m r behind e h = absurd (omega (arith, ints))
from_end (negsuc k) n m None behind e h =
    elim (cases_lt n (suc k)) [
      | inl short ↦ sym (below (pos n +ℤ negsuc k) n (omega (arith, ints)))
      | inr enough ↦ absurd (h (omega arith))
    ]
from_end (negsuc k) n m (Some x) behind e h =
    let some : m ≤ n = h.0 in
    let place : pos n +ℤ negsuc k ≡ pos (n - m) = omega (arith, ints) in
    ap (λ p. Some p) h.1 ∙ sym (within (n - m) n (omega arith)) ∙ ap (λ z. among z n) (sym place)
