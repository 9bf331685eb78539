-- Where the first line feed is.
use Rattle.std.proofs.Common.{◌≡◌, ◌≢◌, ◌∙◌, ℕ, ◌+◌, suc, List, [], ◌∷◌, ◌++◌, ◌==◌, Option, None, Some, true, false, cond, length, drop, get_or, sym, ap, refl, subst, arith, eqb-true}
use Rattle.std.specs.List.{position, position_from}
use Rattle.std.proofs.lemmas.Bool.{eqb-false}
use Rattle.std.proofs.lemmas.Iterator.Adapters.{position_from-zero}
use Rattle.mr_trio_script.specs.ReplyLines.{HasNoFeed, IsFeedAt, IsFeedOf}

-- .. counted from this place on
abbrev FeedFrom : ℕ → List ℕ → Option ℕ → Type 0
FeedFrom i xs None = HasNoFeed xs
FeedFrom i xs (Some n) = (place : ℕ) × (IsFeedAt xs place × (n ≡ i + place))

ahead : (i x : ℕ) (xs : List ℕ) (o : Option ℕ) → x ≢ 10 → FeedFrom (i + 1) xs o → FeedFrom i (x ∷ xs) o
ahead i x xs None other h = (other, h)
ahead i x xs (Some n) other h =
    let at = h.1.0 in
    (suc h.0, (record { front = x ∷ at.front; rest = at.rest; is = ap (λ ys. x ∷ ys) at.is; none = (other, at.none); place_is = ap suc at.place_is }, omega (arith, h.1.1)))

found_from : (i : ℕ) (xs : List ℕ) → FeedFrom i xs (position_from (λ b. b == 10) i xs)
found_from i [] = tt
found_from i (x ∷ xs) = elim (x == 10) as (λ b. x == 10 ≡ b → FeedFrom i (x ∷ xs) (cond b (Some i) (position_from (λ b. b == 10) (i + 1) xs))) [
  | true ↦ λ e. (0, (record { front = []; rest = xs; is = ap (λ y. y ∷ xs) (eqb-true x 10 e); none = tt; place_is = refl }, omega arith))
  | false ↦ λ e. ahead i x xs _ (eqb-false x 10 e) (found_from (i + 1) xs)
] refl

from_zero : (xs : List ℕ) (o : Option ℕ) → FeedFrom 0 xs o → IsFeedOf xs o
from_zero xs None h = h
from_zero xs (Some n) h = let e : h.0 ≡ n = omega (arith, h.1.1) in subst (IsFeedAt xs) e h.1.0

pub feed_found : (xs : List ℕ) (o : Option ℕ) → o ≡ position (λ b. b == 10) xs → IsFeedOf xs o
feed_found xs o e = subst (IsFeedOf xs) (sym (e ∙ position_from-zero (λ b. b == 10) xs)) (from_zero xs _ (found_from 0 xs))

-- ---- bytes without a line feed
pub has_feed : (xs ys : List ℕ) → HasNoFeed (xs ++ 10 ∷ ys) → ⊥
has_feed [] ys h = h.0 refl
has_feed (x ∷ xs) ys h = has_feed xs ys h.1

pub no_feed_push : (xs : List ℕ) (b : ℕ) → HasNoFeed xs → b ≢ 10 → HasNoFeed (xs ++ b ∷ [])
no_feed_push [] b h other = (other, tt)
no_feed_push (x ∷ xs) b h other = (h.0, no_feed_push xs b h.1 other)

pub no_feed_front : (xs ys : List ℕ) → HasNoFeed (xs ++ ys) → HasNoFeed xs
no_feed_front [] ys h = tt
no_feed_front (x ∷ xs) ys h = (h.0, no_feed_front xs ys h.1)

-- what stands in front of the first line feed, and behind it, is one
pub record SameCut (a b x y : List ℕ) : Type 0 where
  pub front : a ≡ b
  pub rest : x ≡ y

pub same_cut : (a b x y : List ℕ) → HasNoFeed a → HasNoFeed b → a ++ 10 ∷ x ≡ b ++ 10 ∷ y → SameCut a b x y
same_cut [] [] x y h k e = record { front = refl; rest = ap (drop 1) e }
same_cut [] (c ∷ b) x y h k e = absurd (k.0 (sym (ap (λ xs. get_or xs 0 0) e)))
same_cut (c ∷ a) [] x y h k e = absurd (h.0 (ap (λ xs. get_or xs 0 0) e))
same_cut (c ∷ a) (d ∷ b) x y h k e =
    let rest = same_cut a b x y h.1 k.1 (ap (drop 1) e) in
    record { front = λ i. ap (λ xs. get_or xs 0 0) e i ∷ rest.front i; rest = rest.rest }

-- the same of the last item
pub record SameLast (a b : List ℕ) (x y : ℕ) : Type 0 where
  pub front : a ≡ b
  pub last : x ≡ y

pub same_last : (a b : List ℕ) (x y : ℕ) → a ++ x ∷ [] ≡ b ++ y ∷ [] → SameLast a b x y
same_last [] [] x y e = record { front = refl; last = ap (λ xs. get_or xs 0 0) e }
same_last [] (c ∷ []) x y e = absurd (omega (arith, ap length e))
same_last [] (c ∷ d ∷ b) x y e = absurd (omega (arith, ap length e))
same_last (c ∷ []) [] x y e = absurd (omega (arith, ap length e))
same_last (c ∷ d ∷ a) [] x y e = absurd (omega (arith, ap length e))
same_last (c ∷ a) (d ∷ b) x y e =
    let rest = same_last a b x y (ap (drop 1) e) in
    record { front = λ i. ap (λ xs. get_or xs 0 0) e i ∷ rest.front i; last = rest.last }
