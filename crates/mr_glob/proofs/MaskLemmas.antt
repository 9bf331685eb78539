-- What the bits of a mask say of the bytes that it was made of.
use Rattle.std.proofs.Common.{arith, ◌≡◌, ℕ, zero, suc, ◌-◌, ◌^◌, ◌%◌, ◌<◌, List, ◌∷◌, length, get_or, map, replicate, Bool, true, false, not, ◌&&◌, ◌||◌, cond, refl, sym, ap, ◌∙◌, max, min, bit_and, bit_or, w8, w64}
use Rattle.std.specs.Prelude.{◌==◌}
use Rattle.std.specs.Int.{bit_at, bit_not}
use Rattle.std.specs.Simd.Lanes.{zip2, mask_l, top}
use Rattle.std.proofs.lemmas.Simd.{bit_mask_l, bitmask_splat, tops_compared, zip2_splat_left, mask_l-mod}
use Rattle.std.proofs.lemmas.List.{get_or-map, length-map}
use Rattle.std.proofs.lemmas.Nat.Bits.{bit_at_and, bit_at_or, bit_at_not, bit_at-lt, bit_at_ones}
use Rattle.std.proofs.lemmas.Bool.{eqb-true}
use Rattle.std.specs.List.{list_any}
use Rattle.std.specs.Prelude.{slice_index}
use Rattle.mr_glob.specs.Glob.{caret, question_mark, is_bare, signs, class_signs, ranges, in_range, in_ranges, in_class, set_at}
use Rattle.mr_glob.specs.declared.pattern.sign.Sign.{Sign}
use Rattle.mr_glob.specs.declared.pattern.sign.Sign.TheVariants.{Bare, Taken}
use Rattle.mr_glob.specs.GlobPlaces.{is_set, Marks}

one_or_none : (b : Bool) → (cond {A = ℕ} b 1 0 == 1) ≡ b
one_or_none true = refl
one_or_none false = refl

-- the mask of a test's answers marks the bytes that the test takes
Marks-map : (test : ℕ → Bool) (bytes : List ℕ) → length bytes ≡ 64 → Marks test bytes (mask_l (map test bytes))
Marks-map test bytes long k small =
    ap (λ n. n == 1) (bit_mask_l (map test bytes) k)
    ∙ one_or_none (get_or (map test bytes) k false)
    ∙ get_or-map test bytes k 0 false (omega arith)

-- what comparing each byte with one gives
pub compared : (t : ℕ → ℕ → Bool) (bytes : List ℕ) (y : ℕ) → length bytes ≡ 64
    → Marks (λ b. t b y) bytes (mask_l (map (top 7) (zip2 (λ a b. cond (t a b) 255 0) bytes (replicate 64 y))) % 2 ^ 64)
compared t bytes y long k small =
    ap (λ m. is_set m k) (bitmask_splat w8 t bytes 64 y long (omega arith)) ∙ Marks-map (λ x. t x y) bytes long k small

-- the same where the one comes first in the comparison
pub compared_from : (t : ℕ → ℕ → Bool) (bytes : List ℕ) (y : ℕ) → length bytes ≡ 64
    → Marks (λ b. t y b) bytes (mask_l (map (top 7) (zip2 (λ a b. cond (t a b) 255 0) (replicate 64 y) bytes)) % 2 ^ 64)
compared_from t bytes y long k small =
    ap (λ m. is_set m k) (ap (λ ms. mask_l ms % 2 ^ 64) (tops_compared w8 t (replicate 64 y) bytes ∙ zip2_splat_left t y 64 bytes long) ∙ mask_l-mod (map (t y) bytes) 64 (omega (arith, length-map bytes (t y))))
    ∙ Marks-map (t y) bytes long k small

one_and : (a b : ℕ) → a < 2 → b < 2 → (min a b == 1) ≡ ((a == 1) && (b == 1))
one_and zero zero p q = refl
one_and zero (suc zero) p q = refl
one_and zero (suc (suc b)) p q = absurd (omega arith)
one_and (suc zero) zero p q = refl
one_and (suc zero) (suc zero) p q = refl
one_and (suc zero) (suc (suc b)) p q = absurd (omega arith)
one_and (suc (suc a)) b p q = absurd (omega arith)

one_or : (a b : ℕ) → a < 2 → b < 2 → (max a b == 1) ≡ ((a == 1) || (b == 1))
one_or zero zero p q = refl
one_or zero (suc zero) p q = refl
one_or (suc zero) zero p q = refl
one_or (suc zero) (suc zero) p q = refl
one_or zero (suc (suc b)) p q = absurd (omega arith)
one_or (suc zero) (suc (suc b)) p q = absurd (omega arith)
one_or (suc (suc a)) b p q = absurd (omega arith)

one_not : (a : ℕ) → a < 2 → ((1 - a) == 1) ≡ not (a == 1)
one_not zero p = refl
one_not (suc zero) p = refl
one_not (suc (suc a)) p = absurd (omega arith)

pub is_set-and : (a b k : ℕ) → is_set (bit_and a b) k ≡ (is_set a k && is_set b k)
is_set-and a b k = ap (λ n. n == 1) (bit_at_and a b k) ∙ one_and (bit_at a k) (bit_at b k) (bit_at-lt a k) (bit_at-lt b k)

pub is_set-or : (a b k : ℕ) → is_set (bit_or a b) k ≡ (is_set a k || is_set b k)
is_set-or a b k = ap (λ n. n == 1) (bit_at_or a b k) ∙ one_or (bit_at a k) (bit_at b k) (bit_at-lt a k) (bit_at-lt b k)

pub is_set-not : (a k : ℕ) → a < 2 ^ 64 → k < 64 → is_set (bit_not w64 a) k ≡ not (is_set a k)
is_set-not a k fits small = ap (λ n. n == 1) (bit_at_not w64 a k fits small) ∙ one_not (bit_at a k) (bit_at-lt a k)

or_assoc : (a b c : Bool) → (a || (b || c)) ≡ ((a || b) || c)
or_assoc true b c = refl
or_assoc false b c = refl

-- What is left of a class begins with a range, and the mask gets the bytes of this.
pub ranges_more : (class : List Sign) (left rest bytes : List ℕ) (range : ℕ × ℕ) (mask marks : ℕ)
    → ((k : ℕ) → k < 64 → in_ranges class (slice_index bytes k) ≡ (is_set mask k || in_ranges (class_signs (signs left)) (slice_index bytes k)))
    → ranges (class_signs (signs left)) ≡ range ∷ ranges (class_signs (signs rest)) → Marks (λ b. in_range b range) bytes marks
    → (k : ℕ) → k < 64 → in_ranges class (slice_index bytes k) ≡ (is_set (bit_or mask marks) k || in_ranges (class_signs (signs rest)) (slice_index bytes k))
ranges_more class left rest bytes range mask marks before begins more k small =
    let byte = slice_index bytes k in
    let others = in_ranges (class_signs (signs rest)) byte in
    before k small
    ∙ ap (λ rs. is_set mask k || list_any (in_range byte) rs) begins
    ∙ or_assoc (is_set mask k) (in_range byte range) others
    ∙ ap (λ x. (is_set mask k || x) || others) (sym (more k small))
    ∙ ap (λ x. x || others) (sym (is_set-or mask marks k))

-- a class that `^` begins
pub caret_first : (s : Sign) (ss : List Sign) (b : ℕ) → is_bare caret s ≡ true → in_class (class_signs (s ∷ ss)) b ≡ not (in_ranges (class_signs ss) b)
caret_first (Bare c) ss b h = ap (λ x. in_class (class_signs (Bare x ∷ ss)) b) (eqb-true c caret h)
caret_first (Taken c) ss b h = let no_way : false ≡ true = h in cc

-- `?`
pub any_byte : (s : Sign) (ss : List Sign) (b : ℕ) → is_bare question_mark s ≡ true → set_at s ss b ≡ true
any_byte s ss b h = rw h refl

pub all_set : (k : ℕ) → k < 64 → is_set 18446744073709551615 k ≡ true
all_set k small = ap (λ n. n == 1) (bit_at_ones 64 k small)
