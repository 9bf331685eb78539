-- Numbers and tests, and lists that differ in length.
use Rattle.std.proofs.Common.{ℕ, zero, suc, ◌-◌, ◌<◌, ◌≤◌, ◌≡◌, ℤ, pos, negsuc, ◌+ℤ◌, ◌<ℤ◌, List, length, Bool, true, false, ◌&&◌, Some, None, refl, ap, arith, eqb-true}
use Rattle.std.specs.Prelude.{◌≢◌, ◌==◌, ◌||◌, int_lt, int_le, unsigned_abs, if◌then◌else◌}
use Rattle.std.specs.Int.{int_min, int_max}
use Rattle.std.proofs.lemmas.Int.{ints, clamps}
use Rattle.std.proofs.lemmas.Bool.{le-leb}
use Rattle.std.proofs.lemmas.List.{length-drop, length-take, take_all}
use Rattle.std.proofs.lemmas.Option.{slice_get_within}
use Rattle.mr_map.specs.Bytes.{Bytes}
use Rattle.mr_bytes.specs.Window.{place_of, named_place, window_of}
use Rattle.mr_bytes.specs.declared.ends.End.{End}
use Rattle.mr_bytes.specs.declared.ends.End.TheVariants.{Left, Right}
use Rattle.mr_bytes.proofs.Windows.{in_order, natural}
use Rattle.mr_keyspace.specs.Collections.{may_take, popped, end_item}

pub both : (a b : Bool) → a ≡ true → b ≡ true → a && b ≡ true
both a b p q = rw (p, q) refl

pub three : (a b c : Bool) → a ≡ true → b ≡ true → c ≡ true → a && b && c ≡ true
three a b c p q r = rw (p, q, r) refl

pub not_both : {b : Bool} → b ≡ true → b ≡ false → ⊥
not_both h i = cc

pub positive : (n : ℕ) → (n == 0) ≡ false → 0 < n
positive zero h = cc
positive (suc n) h = omega arith

pub none_of : (n : ℕ) → (n == 0) ≡ true → n ≡ 0
none_of n h = eqb-true n 0 h

-- ---- items at an end
pub end_some : (end : End) (xs : List Bytes) (item : Bytes) → end_item end xs ≡ Some item → 0 < length xs
end_some Left xs item h = slice_get_within xs 0 item h
end_some Right xs item h = omega (arith, slice_get_within xs (length xs - 1) item h)

pub may_take_some : (n len : ℕ) → 0 < n → n ≤ len → may_take (pos n) len ≡ true
may_take_some n len some few = both _ _ (le-leb 1 n (omega arith)) (le-leb n len few)

pub popped_none : (end : End) (xs : List Bytes) → popped end 0 xs ≡ xs
popped_none Left xs = refl
popped_none Right xs = take_all (length xs - 0) xs (omega arith)

pub popped_less : (end : End) (n : ℕ) (xs : List Bytes) → 0 < n → n ≤ length xs → popped end n xs ≢ xs
popped_less Left n xs some few h = omega (arith, ap length h, length-drop n xs)
popped_less Right n xs some few h = omega (arith, ap length h, length-take (length xs - n) xs)

-- ---- places
neither : (a b : Bool) → (a || b) ≡ false → (a ≡ false) × (b ≡ false)
neither true b h = cc
neither false b h = (refl, h)

above : (l f : ℤ) → int_le f l ≡ false → l <ℤ f
above l f h = grind (arith, ints)

within_by : (z : ℤ) (n p : ℕ) (b : Bool) → (int_lt z (pos 0) || int_le (pos n) z) ≡ b → (if b then None else Some (unsigned_abs z)) ≡ Some p → p < n
within_by z n p true e h = cc
within_by z n p false e h =
    let parts = neither (int_lt z (pos 0)) (int_le (pos n) z) e in
    let low = in_order z (pos 0) parts.0 in
    let high = above z (pos n) parts.1 in
    let is = natural z low in
    let same : unsigned_abs z ≡ p = cc in
    omega (arith, ints)

-- the place that an index names is one of them
pub place_within : (i : ℤ) (n p : ℕ) → named_place i n ≡ Some p → p < n
unfolding named_place
place_within i n p h = within_by (place_of i n) n p _ refl h

window_by : (a b f l : ℤ) (n : ℕ) (w : ℕ × ℕ) → f ≡ int_max (pos 0) a → l ≡ int_min b (pos n +ℤ negsuc 0) → (c : Bool) → int_lt l f ≡ c → (if c then None else Some (unsigned_abs f, unsigned_abs l)) ≡ Some w → (w.0 ≤ w.1) × (w.1 < n)
window_by a b f l n w fe le true e h = cc
window_by a b f l n w fe le false e h =
    let order = in_order l f e in
    let first = natural f (omega (arith, ints, clamps)) in
    let last = natural l (omega (arith, ints, clamps)) in
    let is_first : unsigned_abs f ≡ w.0 = cc in
    let is_last : unsigned_abs l ≡ w.1 = cc in
    (omega (arith, ints, clamps), omega (arith, ints, clamps))

-- the places of a window are in order, and among them
pub window_within : (a b : ℤ) (n : ℕ) (w : ℕ × ℕ) → window_of a b n ≡ Some w → (w.0 ≤ w.1) × (w.1 < n)
unfolding window_of
window_within a b n w h = window_by (place_of a n) (place_of b n) _ _ n w refl refl _ refl h
