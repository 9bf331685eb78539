-- Bytes compare as the numbers that they spell.
use Rattle.std.proofs.Common.{◌≡◌, ℕ, zero, suc, ◌+◌, ◌*◌, ◌%◌, ◌^◌, ◌<◌, ◌≤◌, List, [], ◌∷◌, ◌++◌, length, get_or, take, drop, refl, sym, ◌∙◌, ap, subst, arith, Fits, w8, get_or-drop, drop-drop, length-drop}
use Rattle.std.specs.Ordering.{nat_cmp, ordering_then, MatchOrdering}
use Rattle.std.specs.declared.cmp.Ordering.{Ordering}
use Rattle.std.specs.declared.cmp.Ordering.TheVariants.{Less, Equal, Greater}
use Rattle.std.specs.Cmp.{ranks, nat_cmp_is}
use Rattle.std.specs.Slice.Scan.{big_endian}
use Rattle.std.proofs.lemmas.List.{take_all}
use Rattle.mr_map.specs.Bytes.{bytes_cmp}
use Rattle.mr_map.specs.Short.{room, part}
use Rattle.mr_map.proofs.Padded.{nested}

abbrev AreBytes : List ℕ → Type 0
AreBytes xs = (k : ℕ) → Fits w8 (get_or xs k 0)

-- a digit more at each
longer : (a b u v : ℕ) → u < 256 → v < 256 → nat_cmp (a * 256 + u) (b * 256 + v) ≡ ordering_then (nat_cmp a b) (nat_cmp u v)
longer a b u v p q = elim (nat_cmp a b) as (λ r. MatchOrdering r (a < b) (a ≡ b) (b < a) → nat_cmp (a * 256 + u) (b * 256 + v) ≡ ordering_then r (nat_cmp u v)) [
  | Less ↦ λ h. sym (nat_cmp_is (a * 256 + u) (b * 256 + v) Less (omega arith))
  | Equal ↦ λ h. elim (nat_cmp u v) as (λ r. MatchOrdering r (u < v) (u ≡ v) (v < u) → nat_cmp (a * 256 + u) (b * 256 + v) ≡ r) [
    | Less ↦ λ g. sym (nat_cmp_is (a * 256 + u) (b * 256 + v) Less (omega arith))
    | Equal ↦ λ g. sym (nat_cmp_is (a * 256 + u) (b * 256 + v) Equal (omega arith))
    | Greater ↦ λ g. sym (nat_cmp_is (a * 256 + u) (b * 256 + v) Greater (omega arith))
  ] (ranks u v)
  | Greater ↦ λ h. sym (nat_cmp_is (a * 256 + u) (b * 256 + v) Greater (omega arith))
] (ranks a b)

then_equal : (r : Ordering) → r ≡ ordering_then r Equal
then_equal Less = refl
then_equal Equal = refl
then_equal Greater = refl

spelled : (n a b : ℕ) (us vs : List ℕ) → n ≤ length us → n ≤ length vs → AreBytes us → AreBytes vs
    → nat_cmp (big_endian a (take n us)) (big_endian b (take n vs)) ≡ ordering_then (nat_cmp a b) (bytes_cmp (take n us) (take n vs))
spelled zero a b us vs p q g h = then_equal (nat_cmp a b)
spelled (suc n) a b [] vs p q g h = absurd (omega arith)
spelled (suc n) a b (u ∷ us) [] p q g h = absurd (omega arith)
spelled (suc n) a b (u ∷ us) (v ∷ vs) p q g h =
    spelled n (a * 256 + u) (b * 256 + v) us vs (omega arith) (omega arith) (λ k. g (suc k)) (λ k. h (suc k))
    ∙ ap (λ r. ordering_then r (bytes_cmp (take n us) (take n vs))) (longer a b u v (g 0).fits (h 0).fits)
    ∙ nested (nat_cmp a b) (nat_cmp u v) (bytes_cmp (take n us) (take n vs))

-- the first n decide, and else the rest
cut : (n : ℕ) (us vs : List ℕ) → n ≤ length us → n ≤ length vs → bytes_cmp us vs ≡ ordering_then (bytes_cmp (take n us) (take n vs)) (bytes_cmp (drop n us) (drop n vs))
cut zero us vs p q = refl
cut (suc n) [] vs p q = absurd (omega arith)
cut (suc n) (u ∷ us) [] p q = absurd (omega arith)
cut (suc n) (u ∷ us) (v ∷ vs) p q =
    ap (ordering_then (nat_cmp u v)) (cut n us vs (omega arith) (omega arith))
    ∙ sym (nested (nat_cmp u v) (bytes_cmp (take n us) (take n vs)) (bytes_cmp (drop n us) (drop n vs)))

past : (l : List ℕ) → AreBytes l → AreBytes (drop 8 l)
past l f k = subst (Fits w8) (sym (get_or-drop 8 l k 0)) (f (8 + k))

whole : (l : List ℕ) → length l ≡ room → part 16 7 l ≡ drop 16 l
whole l e = take_all 7 (drop 16 l) (omega (arith, e, length-drop 16 l))

beyond : (l : List ℕ) → AreBytes l → AreBytes (drop 16 l)
beyond l f k = subst (Fits w8) (sym (get_or-drop 16 l k 0)) (f (16 + k))

-- the numbers of the first eight decide, and else the others do, and what comes behind them
pub by_first_word : (xs ys : List ℕ) (x y : ℕ) (o : Ordering) → 8 ≤ length xs → 8 ≤ length ys → AreBytes xs → AreBytes ys
    → x ≡ big_endian 0 (take 8 xs) → y ≡ big_endian 0 (take 8 ys)
    → ordering_then (nat_cmp x y) (ordering_then (bytes_cmp (drop 8 xs) (drop 8 ys)) o) ≡ ordering_then (bytes_cmp xs ys) o
by_first_word xs ys x y o a b g h p q =
    (λ i. ordering_then (nat_cmp (p i) (q i)) (ordering_then (bytes_cmp (drop 8 xs) (drop 8 ys)) o))
    ∙ ap (λ r. ordering_then r (ordering_then (bytes_cmp (drop 8 xs) (drop 8 ys)) o)) (spelled 8 0 0 xs ys a b g h)
    ∙ sym (nested (bytes_cmp (take 8 xs) (take 8 ys)) (bytes_cmp (drop 8 xs) (drop 8 ys)) o)
    ∙ ap (λ r. ordering_then r o) (sym (cut 8 xs ys a b))

-- with a byte more at each
last_spelled : (a b m n : ℕ) (us vs : List ℕ) → length us ≡ length vs → AreBytes us → AreBytes vs → m < 256 → n < 256
    → nat_cmp (big_endian a (us ++ m ∷ [])) (big_endian b (vs ++ n ∷ [])) ≡ ordering_then (nat_cmp a b) (ordering_then (bytes_cmp us vs) (nat_cmp m n))
last_spelled a b m n [] [] e g h p q = longer a b m n p q
last_spelled a b m n [] (v ∷ vs) e g h p q = absurd (omega arith)
last_spelled a b m n (u ∷ us) [] e g h p q = absurd (omega arith)
last_spelled a b m n (u ∷ us) (v ∷ vs) e g h p q =
    last_spelled (a * 256 + u) (b * 256 + v) m n us vs (omega arith) (λ k. g (suc k)) (λ k. h (suc k)) p q
    ∙ ap (λ r. ordering_then r (ordering_then (bytes_cmp us vs) (nat_cmp m n))) (longer a b u v (g 0).fits (h 0).fits)
    ∙ nested (nat_cmp a b) (nat_cmp u v) (ordering_then (bytes_cmp us vs) (nat_cmp m n))
    ∙ ap (ordering_then (nat_cmp a b)) (sym (nested (nat_cmp u v) (bytes_cmp us vs) (nat_cmp m n)))

-- eight bytes as a word without the first of them, with a byte more behind
moved : (d : List ℕ) (m : ℕ) → length d ≡ 8 → AreBytes d → m < 256 → (big_endian 0 d * 256 % 2 ^ 64 + m) % 2 ^ 64 ≡ big_endian 0 (drop 1 d ++ m ∷ [])
moved [] m e f p = absurd (omega (arith, e))
moved (b ∷ []) m e f p = absurd (omega (arith, e))
moved (b ∷ c ∷ []) m e f p = absurd (omega (arith, e))
moved (b ∷ c ∷ d ∷ []) m e f p = absurd (omega (arith, e))
moved (b ∷ c ∷ d ∷ g ∷ []) m e f p = absurd (omega (arith, e))
moved (b ∷ c ∷ d ∷ g ∷ h ∷ []) m e f p = absurd (omega (arith, e))
moved (b ∷ c ∷ d ∷ g ∷ h ∷ i ∷ []) m e f p = absurd (omega (arith, e))
moved (b ∷ c ∷ d ∷ g ∷ h ∷ i ∷ j ∷ []) m e f p = absurd (omega (arith, e))
moved (b ∷ c ∷ d ∷ g ∷ h ∷ i ∷ j ∷ k ∷ []) m e f p = omega (arith, p, (f 1).fits, (f 2).fits, (f 3).fits, (f 4).fits, (f 5).fits, (f 6).fits, (f 7).fits)
moved (b ∷ c ∷ d ∷ g ∷ h ∷ i ∷ j ∷ k ∷ l ∷ more) m e f p = absurd (omega (arith, e))

-- the last seven bytes of a key's room and a byte more, by the word that ends there
pub last_is : (l : List ℕ) (w m : ℕ) → length l ≡ room → AreBytes l → m < 256 → w ≡ big_endian 0 (part 15 8 l) → (w * 256 % 2 ^ 64 + m) % 2 ^ 64 ≡ big_endian 0 (part 16 7 l ++ m ∷ [])
last_is l w m e f p spells =
    let all : part 15 8 l ≡ drop 15 l = take_all 8 (drop 15 l) (omega (arith, e, length-drop 15 l)) in
    let eight : length (drop 15 l) ≡ 8 = omega (arith, e, length-drop 15 l) in
    let bytes : AreBytes (drop 15 l) = λ k. subst (Fits w8) (sym (get_or-drop 15 l k 0)) (f (15 + k)) in
    let rest : drop 1 (drop 15 l) ≡ part 16 7 l = drop-drop 1 15 l ∙ sym (whole l e) in
    ap (λ v. (v * 256 % 2 ^ 64 + m) % 2 ^ 64) (spells ∙ ap (big_endian 0) all)
    ∙ moved (drop 15 l) m eight bytes p
    ∙ ap (λ t. big_endian 0 (t ++ m ∷ [])) rest

-- numbers that differ decide, and else the next ones do
apart_decides : (x y : ℕ) (o : Ordering) → (x ≡ y → ⊥) → nat_cmp x y ≡ ordering_then (nat_cmp x y) o
apart_decides x y o n = elim (nat_cmp x y) as (λ r. MatchOrdering r (x < y) (x ≡ y) (y < x) → r ≡ ordering_then r o) [
  | Less ↦ λ h. refl
  | Equal ↦ λ h. absurd (n h)
  | Greater ↦ λ h. refl
] (ranks x y)

same_leaves : (x y : ℕ) (o : Ordering) → x ≡ y → o ≡ ordering_then (nat_cmp x y) o
same_leaves x y o e = ap (λ r. ordering_then r o) (nat_cmp_is x y Equal e)

-- a padded key with its length is three numbers, of which the first that differ decide
module _ (xs ys : List ℕ) (m n : ℕ) (a : length xs ≡ room) (b : length ys ≡ room) (g : AreBytes xs) (h : AreBytes ys) (p : m < 256) (q : n < 256) where
  -- how they compare from a byte on
  abbrev pub from : ℕ → Ordering
  from k = ordering_then (bytes_cmp (drop k xs) (drop k ys)) (nat_cmp m n)

  module _ (x y : ℕ) (first_x : x ≡ big_endian 0 (part 0 8 xs)) (first_y : y ≡ big_endian 0 (part 0 8 ys)) where
    first : ordering_then (nat_cmp x y) (from 8) ≡ from 0
    first = by_first_word xs ys x y (nat_cmp m n) (omega (arith, a)) (omega (arith, b)) g h first_x first_y

    pub first_decides : (x ≡ y → ⊥) → nat_cmp x y ≡ from 0
    first_decides apart = apart_decides x y (from 8) apart ∙ first

    module _ (same : x ≡ y) (z w : ℕ) (second_x : z ≡ big_endian 0 (part 8 8 xs)) (second_y : w ≡ big_endian 0 (part 8 8 ys)) where
      second : ordering_then (nat_cmp z w) (from 16) ≡ from 0
      second =
          (λ i. ordering_then (nat_cmp z w) (ordering_then (bytes_cmp (sym (drop-drop 8 8 xs) i) (sym (drop-drop 8 8 ys) i)) (nat_cmp m n)))
          ∙ by_first_word (drop 8 xs) (drop 8 ys) z w (nat_cmp m n) (omega (arith, a, length-drop 8 xs)) (omega (arith, b, length-drop 8 ys)) (past xs g) (past ys h) second_x second_y
          ∙ same_leaves x y (from 8) same
          ∙ first

      pub second_decides : (z ≡ w → ⊥) → nat_cmp z w ≡ from 0
      second_decides apart = apart_decides z w (from 16) apart ∙ second

      pub last_decides : z ≡ w → (u v : ℕ) → u ≡ big_endian 0 (part 16 7 xs ++ m ∷ []) → v ≡ big_endian 0 (part 16 7 ys ++ n ∷ []) → nat_cmp u v ≡ from 0
      last_decides level u v third_x third_y =
          (λ i. nat_cmp (third_x i) (third_y i))
          ∙ (λ i. nat_cmp (big_endian 0 (whole xs a i ++ m ∷ [])) (big_endian 0 (whole ys b i ++ n ∷ [])))
          ∙ last_spelled 0 0 m n (drop 16 xs) (drop 16 ys) (omega (arith, a, b, length-drop 16 xs, length-drop 16 ys)) (beyond xs g) (beyond ys h) p q
          ∙ same_leaves z w (from 16) level
          ∙ second
