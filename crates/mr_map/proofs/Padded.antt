-- Padded keys compare as the keys do.
use Rattle.std.proofs.Common.{◌≡◌, ℕ, zero, suc, ◌+◌, ◌-◌, ◌<◌, ◌≤◌, List, [], ◌∷◌, ◌++◌, length, take, drop, refl, sym, ◌∙◌, ap, subst, arith}
use Rattle.std.specs.Prelude.{nat_le, cond, true, false, Some, None}
use borrow.Author.Tests.{leb-true, leb-false}
use Rattle.std.specs.Ordering.{nat_cmp, ordering_then, MatchOrdering}
use Rattle.std.specs.declared.cmp.Ordering.{Ordering}
use Rattle.std.specs.declared.cmp.Ordering.TheVariants.{Less, Equal, Greater}
use Rattle.std.specs.Cmp.{ranks, nat_cmp_is}
use Rattle.mr_map.specs.Bytes.{bytes_cmp}
use Rattle.mr_map.specs.Short.{room, if_short, zeros, IsPadded}

pub nested : (r s t : Ordering) → ordering_then (ordering_then r s) t ≡ ordering_then r (ordering_then s t)
nested Less s t = refl
nested Equal s t = refl
nested Greater s t = refl

one_more : (a b : ℕ) → nat_cmp (suc a) (suc b) ≡ nat_cmp a b
one_more a b = elim (nat_cmp a b) as (λ r. MatchOrdering r (a < b) (a ≡ b) (b < a) → nat_cmp (suc a) (suc b) ≡ r) [
  | Less ↦ λ h. sym (nat_cmp_is (suc a) (suc b) Less (omega arith))
  | Equal ↦ λ h. sym (nat_cmp_is (suc a) (suc b) Equal (omega arith))
  | Greater ↦ λ h. sym (nat_cmp_is (suc a) (suc b) Greater (omega arith))
] (ranks a b)

level : (xs : List ℕ) → bytes_cmp xs xs ≡ Equal
level [] = refl
level (x ∷ xs) = ap (λ r. ordering_then r (bytes_cmp xs xs)) (sym (nat_cmp_is x x Equal refl)) ∙ level xs

-- zeros are never above what is as long
none_above : (m n : ℕ) (ys : List ℕ) → m ≡ length ys + n → ordering_then (bytes_cmp (zeros m) (ys ++ zeros n)) Less ≡ Less
none_above m n [] e = ap (λ k. ordering_then (bytes_cmp (zeros k) (zeros n)) Less) (let f : m ≡ n = omega arith in f) ∙ ap (λ r. ordering_then r Less) (level (zeros n))
none_above zero n (y ∷ ys) e = absurd (omega arith)
none_above (suc m) n (y ∷ ys) e =
    nested (nat_cmp 0 y) (bytes_cmp (zeros m) (ys ++ zeros n)) Less
    ∙ elim (nat_cmp 0 y) as (λ r. MatchOrdering r (0 < y) (0 ≡ y) (y < 0) → ordering_then r (ordering_then (bytes_cmp (zeros m) (ys ++ zeros n)) Less) ≡ Less) [
      | Less ↦ λ h. refl
      | Equal ↦ λ h. none_above m n ys (omega arith)
      | Greater ↦ λ h. absurd (omega arith)
    ] (ranks 0 y)

none_below : (m n : ℕ) (xs : List ℕ) → length xs + m ≡ n → ordering_then (bytes_cmp (xs ++ zeros m) (zeros n)) Greater ≡ Greater
none_below m n [] e = ap (λ k. ordering_then (bytes_cmp (zeros m) (zeros k)) Greater) (let f : n ≡ m = omega arith in f) ∙ ap (λ r. ordering_then r Greater) (level (zeros m))
none_below m zero (x ∷ xs) e = absurd (omega arith)
none_below m (suc n) (x ∷ xs) e =
    nested (nat_cmp x 0) (bytes_cmp (xs ++ zeros m) (zeros n)) Greater
    ∙ elim (nat_cmp x 0) as (λ r. MatchOrdering r (x < 0) (x ≡ 0) (0 < x) → ordering_then r (ordering_then (bytes_cmp (xs ++ zeros m) (zeros n)) Greater) ≡ Greater) [
      | Less ↦ λ h. absurd (omega arith)
      | Equal ↦ λ h. none_below m n xs (omega arith)
      | Greater ↦ λ h. refl
    ] (ranks x 0)

-- the padded texts decide, and else the lengths do
pub by_padded : (xs ys : List ℕ) (m n : ℕ) → length xs + m ≡ length ys + n → ordering_then (bytes_cmp (xs ++ zeros m) (ys ++ zeros n)) (nat_cmp (length xs) (length ys)) ≡ bytes_cmp xs ys
by_padded [] [] m n e = ap (λ k. ordering_then (bytes_cmp (zeros k) (zeros n)) (nat_cmp 0 0)) (let f : m ≡ n = omega arith in f) ∙ ap (λ r. ordering_then r (nat_cmp 0 0)) (level (zeros n))
by_padded [] (y ∷ ys) m n e =
    ap (ordering_then (bytes_cmp (zeros m) ((y ∷ ys) ++ zeros n))) (sym (nat_cmp_is 0 (length (y ∷ ys)) Less (omega arith)))
    ∙ none_above m n (y ∷ ys) (omega arith)
by_padded (x ∷ xs) [] m n e =
    ap (ordering_then (bytes_cmp ((x ∷ xs) ++ zeros m) (zeros n))) (sym (nat_cmp_is (length (x ∷ xs)) 0 Greater (omega arith)))
    ∙ none_below m n (x ∷ xs) (omega arith)
by_padded (x ∷ xs) (y ∷ ys) m n e =
    nested (nat_cmp x y) (bytes_cmp (xs ++ zeros m) (ys ++ zeros n)) (nat_cmp (length (x ∷ xs)) (length (y ∷ ys)))
    ∙ ap (λ r. ordering_then (nat_cmp x y) (ordering_then (bytes_cmp (xs ++ zeros m) (ys ++ zeros n)) r)) (one_more (length xs) (length ys))
    ∙ ap (ordering_then (nat_cmp x y)) (by_padded xs ys m n (omega arith))

pub padded_cmp : (xs ys : List ℕ) (m n : ℕ) → IsPadded xs m → IsPadded ys n → ordering_then (bytes_cmp xs ys) (nat_cmp m n) ≡ bytes_cmp (take m xs) (take n ys)
padded_cmp xs ys m n p q =
    (λ i. ordering_then (bytes_cmp (p.padded i) (q.padded i)) (nat_cmp (sym p.whole i) (sym q.whole i)))
    ∙ by_padded (take m xs) (take n ys) (room - m) (room - n) (let a : m ≤ room = p.fits in let b : n ≤ room = q.fits in omega (arith, p.whole, q.whole))

drop_zeros : (n m : ℕ) → drop n (zeros m) ≡ zeros (m - n)
drop_zeros zero m = let e : m ≡ m - 0 = omega arith in ap zeros e
drop_zeros (suc n) zero = let e : 0 ≡ 0 - suc n = omega arith in ap zeros e
drop_zeros (suc n) (suc m) = let e : m - n ≡ suc m - suc n = omega arith in drop_zeros n m ∙ ap zeros e

front : (xs ys : List ℕ) → take (length xs) (xs ++ ys) ≡ xs
front [] ys = refl
front (x ∷ xs) ys = ap (λ l. x ∷ l) (front xs ys)

-- a key and the zeros that fill what it leaves
pub is_padded : (key written : List ℕ) → written ≡ key → length key ≤ room → IsPadded (written ++ drop (length key) (zeros room)) (length key)
is_padded key written same fits = subst (λ l. IsPadded (l ++ drop (length key) (zeros room)) (length key)) (sym same) (
    let text = front key (drop (length key) (zeros room)) in
    record {
      fits = fits;
      whole = ap length text;
      padded = λ i. sym text i ++ drop_zeros (length key) room i;
    }
    )

-- what it says that a key is short, or isn't
pub is_short : (key k : List ℕ) → if_short key ≡ Some k → (k ≡ key) × (length k ≤ room)
is_short key k = elim (nat_le (length key) room) as (λ b. nat_le (length key) room ≡ b → cond b (Some key) None ≡ Some k → (k ≡ key) × (length k ≤ room)) [
  | true ↦ λ e h. let same : k ≡ key = cc in (same, subst (λ l. length l ≤ room) (sym same) (leb-true (length key) room e))
  | false ↦ λ e h. cc
] refl

pub is_long : (key : List ℕ) → if_short key ≡ None → room < length key
is_long key = elim (nat_le (length key) room) as (λ b. nat_le (length key) room ≡ b → cond b (Some key) None ≡ None → room < length key) [
  | true ↦ λ e h. cc
  | false ↦ λ e h. leb-false (length key) room e
] refl
