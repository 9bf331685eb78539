-- How the places where a range of scores begins and ends stand to pairs.
use Rattle.std.specs.Prelude.{◌≡◌, ℕ, ℤ, pos, negsuc, List, Bool, true, false, IsTrue, refl, if◌then◌else◌, int_le, int_lt, cond}
use Rattle.std.proofs.Common.{sym, ap, ◌∙◌, arith}
use Rattle.std.proofs.lemmas.Bool.Decides.{nat_tests}
use Rattle.std.proofs.lemmas.Cmp.{int_cmp_total, nat_list_cmp_total, on_total, then_total}
use Rattle.std.specs.Cmp.{IsTotalOrder}
use Rattle.std.specs.declared.cmp.Ordering.{Ordering}
use Rattle.std.specs.declared.cmp.Ordering.TheVariants.{Less, Equal, Greater}
use Rattle.std.specs.Ordering.{is_le, ordering_then}
use Rattle.mr_map.specs.Bytes.{bytes_cmp}
use Rattle.mr_zset.specs.declared.bound.Bound.{Bound}
use Rattle.mr_zset.specs.declared.bound.Bound.TheVariants.{NegativeInfinity, Included, Excluded, PositiveInfinity}
use Rattle.mr_zset.specs.Bounds.{is_from, is_to}
use Rattle.mr_zset.specs.Pairs.{pair_cmp}

-- the beginning is less than the scores that are not below it
abbrev pub start_cmp : Bound → ℤ → Ordering
start_cmp from z = if is_from from z then Less else Greater

-- the end is greater than the scores that are not above it
abbrev pub end_cmp : Bound → ℤ → Ordering
end_cmp to z = if is_to to z then Greater else Less

pub pairs_total : IsTotalOrder pair_cmp
pairs_total = then_total (on_total (λ p. p.1) int_cmp_total) (on_total (λ p. p.0) nat_list_cmp_total)

-- of two pairs in order the first has no greater score
not_above : (a b : Bool) (o : Ordering) → ordering_then (cond a Less (cond b Greater Equal)) o ≡ Less → a ≡ false → b ≡ false
not_above true b o e h = cc
not_above false true o e h = cc
not_above false false o e h = refl

no_greater : (a b : Bool) (o : Ordering) → ordering_then (cond a Less (cond b Greater Equal)) o ≡ Less → (a ≡ true → b ≡ false) → b ≡ false
no_greater true b o e h = h refl
no_greater false b o e h = not_above false b o e refl

one_way : (x y : ℤ) → int_lt x y ≡ true → int_lt y x ≡ false
one_way (pos m) (pos n) h = grind (arith, nat_tests, h)
one_way (pos m) (negsuc n) h = cc
one_way (negsuc m) (pos n) h = refl
one_way (negsuc m) (negsuc n) h = grind (arith, nat_tests, h)

rises : (p q : List ℕ × ℤ) → pair_cmp p q ≡ Less → int_lt q.1 p.1 ≡ false
rises p q e = no_greater (int_lt p.1 q.1) (int_lt q.1 p.1) (bytes_cmp p.0 q.0) e (one_way p.1 q.1)

le_up : (n x y : ℤ) → int_le n x ≡ true → int_lt y x ≡ false → int_le n y ≡ true
le_up (pos n) (pos x) (pos y) h r = grind (arith, nat_tests, h, r)
le_up (pos n) (pos x) (negsuc y) h r = cc
le_up (pos n) (negsuc x) y h r = cc
le_up (negsuc n) (pos x) (pos y) h r = refl
le_up (negsuc n) (pos x) (negsuc y) h r = cc
le_up (negsuc n) (negsuc x) (pos y) h r = refl
le_up (negsuc n) (negsuc x) (negsuc y) h r = grind (arith, nat_tests, h, r)

lt_up : (n x y : ℤ) → int_lt n x ≡ true → int_lt y x ≡ false → int_lt n y ≡ true
lt_up (pos n) (pos x) (pos y) h r = grind (arith, nat_tests, h, r)
lt_up (pos n) (pos x) (negsuc y) h r = cc
lt_up (pos n) (negsuc x) y h r = cc
lt_up (negsuc n) (pos x) (pos y) h r = refl
lt_up (negsuc n) (pos x) (negsuc y) h r = cc
lt_up (negsuc n) (negsuc x) (pos y) h r = refl
lt_up (negsuc n) (negsuc x) (negsuc y) h r = grind (arith, nat_tests, h, r)

le_down : (n x y : ℤ) → int_le y n ≡ true → int_lt y x ≡ false → int_le x n ≡ true
le_down (pos n) (pos x) (pos y) h r = grind (arith, nat_tests, h, r)
le_down (pos n) (pos x) (negsuc y) h r = cc
le_down (pos n) (negsuc x) y h r = refl
le_down (negsuc n) x (pos y) h r = cc
le_down (negsuc n) (pos x) (negsuc y) h r = cc
le_down (negsuc n) (negsuc x) (negsuc y) h r = grind (arith, nat_tests, h, r)

lt_down : (n x y : ℤ) → int_lt y n ≡ true → int_lt y x ≡ false → int_lt x n ≡ true
lt_down (pos n) (pos x) (pos y) h r = grind (arith, nat_tests, h, r)
lt_down (pos n) (pos x) (negsuc y) h r = cc
lt_down (pos n) (negsuc x) y h r = refl
lt_down (negsuc n) x (pos y) h r = cc
lt_down (negsuc n) (pos x) (negsuc y) h r = cc
lt_down (negsuc n) (negsuc x) (negsuc y) h r = grind (arith, nat_tests, h, r)

from_up : (b : Bound) (x y : ℤ) → is_from b x ≡ true → int_lt y x ≡ false → is_from b y ≡ true
from_up NegativeInfinity x y h r = refl
from_up (Included n) x y h r = le_up n x y h r
from_up (Excluded n) x y h r = lt_up n x y h r
from_up PositiveInfinity x y h r = cc

to_down : (b : Bound) (x y : ℤ) → is_to b y ≡ true → int_lt y x ≡ false → is_to b x ≡ true
to_down NegativeInfinity x y h r = cc
to_down (Included n) x y h r = le_down n x y h r
to_down (Excluded n) x y h r = lt_down n x y h r
to_down PositiveInfinity x y h r = refl

chosen : (b : Bool) → is_le (if b then Less else Greater) ≡ true → b ≡ true
chosen true h = refl
chosen false h = cc

refused : (b : Bool) → is_le (if b then Greater else Less) ≡ true → b ≡ false
refused true h = cc
refused false h = refl

-- the beginning of a range that is less than a pair is less than those above it
pub start_below : (b : Bound) (p q : List ℕ × ℤ) → IsTrue (is_le (start_cmp b p.1)) → pair_cmp p q ≡ Less → start_cmp b q.1 ≡ Less
start_below b p q h e = ap (λ (t : Bool). if t then Less else Greater) (from_up b p.1 q.1 (chosen (is_from b p.1) h) (rises p q e))

-- the end of a range that is less than a pair is less than those above it
pub end_below : (b : Bound) (p q : List ℕ × ℤ) → IsTrue (is_le (end_cmp b p.1)) → pair_cmp p q ≡ Less → end_cmp b q.1 ≡ Less
end_below b p q h e = elim (is_to b q.1) as (λ t. is_to b q.1 ≡ t → (if t then Greater else Less) ≡ Less) [
  | true ↦ λ s. (let lie : true ≡ false = sym (to_down b p.1 q.1 s (rises p q e)) ∙ refused (is_to b p.1) h in cc)
  | false ↦ λ s. refl
] refl
