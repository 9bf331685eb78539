-- Parts of lists in order: what lies between two places, and a list with one element more or less.
use Rattle.std.proofs.Common.{◌≡◌, ℕ, zero, suc, ◌-◌, ◌<◌, ◌≤◌, length, take, drop, map, List, [], ◌∷◌, ◌++◌, Bool, true, false, ◌&&◌, not, cond, refl, sym, ◌∙◌, ap, arith}
use Rattle.std.specs.Prelude.{Option, Result, Ok, Err, filter, slice_range}
use Rattle.std.specs.List.{AllWithin, remove}
use Rattle.std.specs.declared.cmp.Ordering.{Ordering}
use Rattle.std.specs.declared.cmp.Ordering.TheVariants.{Less, Equal, Greater}
use Rattle.std.specs.Ordering.{is_eq, is_lt, match_ordering, ordering_reverse}
use Rattle.std.specs.BTreeSet.{insert_key}
use Rattle.std.specs.Cmp.{IsTotalOrder}
use Rattle.std.proofs.Math.Seq.{take-nil, drop-nil}
use Rattle.std.proofs.lemmas.List.{length-drop, length-take-le}
use Rattle.mr_order.specs.Changes.{IsTaken, left_at}
use Rattle.mr_order.specs.Standing.{IsPlaceOf, StandsAt, StandsBefore}
use Rattle.mr_zset.specs.Order.{placed}
use Rattle.mr_zset.proofs.Orders.{Above, Ascends, times, times-no, times-yes}

-- what lies between two places

pub length-slice_range : {X : Type 0} (xs : List X) (i j : ℕ) → i ≤ j → j ≤ length xs → length (slice_range xs i j) ≡ j - i
length-slice_range xs i j ordered within = length-take-le (j - i) (drop i xs) (let rest : length (drop i xs) ≡ length xs - i = length-drop i xs in omega arith)

module _ {A X : Type 0} (f : A → X) (low high : X → Bool) where
  abbrev Falls : (X → Bool) → List A → ℕ → ℕ → Type 0
  Falls test xs i j = AllWithin (λ y. test (f y) ≡ false) xs i j

  abbrev Passes : (X → Bool) → List A → ℕ → ℕ → Type 0
  Passes test xs i j = AllWithin (λ y. test (f y) ≡ true) xs i j

  left_out : (x : A) (xs : List A) → (low (f x) && high (f x)) ≡ false → filter (λ y. low y && high y) (map f (x ∷ xs)) ≡ filter (λ y. low y && high y) (map f xs)
  left_out x xs e = ap (λ b. cond b (f x ∷ filter (λ y. low y && high y) (map f xs)) (filter (λ y. low y && high y) (map f xs))) e

  kept : (x : A) (xs : List A) → (low (f x) && high (f x)) ≡ true → filter (λ y. low y && high y) (map f (x ∷ xs)) ≡ f x ∷ filter (λ y. low y && high y) (map f xs)
  kept x xs e = ap (λ b. cond b (f x ∷ filter (λ y. low y && high y) (map f xs)) (filter (λ y. low y && high y) (map f xs))) e

  not_low : (x : A) → low (f x) ≡ false → (low (f x) && high (f x)) ≡ false
  not_low x e = ap (λ b. b && high (f x)) e

  not_high : (x : A) → low (f x) ≡ true → high (f x) ≡ false → (low (f x) && high (f x)) ≡ false
  not_high x e h = ap (λ b. b && high (f x)) e ∙ h

  pub between : (xs : List A) (i j : ℕ) → Falls low xs 0 i → Passes low xs i (length xs) → Passes high xs 0 j → Falls high xs j (length xs) → filter (λ y. low y && high y) (map f xs) ≡ slice_range (map f xs) i j
  between [] i j a b c d = sym (ap (take (j - i)) (drop-nil i) ∙ take-nil (j - i))
  between (x ∷ xs) zero zero a b c d =
      left_out x xs (not_high x (b 0 x (omega arith) (omega arith)) (d 0 x (omega arith) (omega arith)))
      ∙ between xs zero zero (λ k e lo hi. absurd (omega arith)) (λ k e lo hi. b (suc k) e (omega arith) (omega arith)) (λ k e lo hi. absurd (omega arith)) (λ k e lo hi. d (suc k) e (omega arith) (omega arith))
      ∙ none (map f xs) (f x ∷ map f xs)
    where
      none : (ys zs : List X) → slice_range ys zero zero ≡ slice_range zs zero zero
      none ys zs = refl
  between (x ∷ xs) zero (suc j) a b c d =
      kept x xs (ap (λ t. t && high (f x)) (b 0 x (omega arith) (omega arith)) ∙ c 0 x (omega arith) (omega arith))
      ∙ ap (λ ys. f x ∷ ys) (between xs zero j (λ k e lo hi. absurd (omega arith)) (λ k e lo hi. b (suc k) e (omega arith) (omega arith)) (λ k e lo hi. c (suc k) e (omega arith) (omega arith)) (λ k e lo hi. d (suc k) e (omega arith) (omega arith)))
      ∙ one_more (map f xs)
    where
      one_more : (ys : List X) → f x ∷ slice_range ys zero j ≡ slice_range (f x ∷ ys) zero (suc j)
      one_more ys = (let e : suc (j - zero) ≡ suc j - zero = omega arith in ap (λ n. take n (f x ∷ ys)) e)
  between (x ∷ xs) (suc i) zero a b c d =
      left_out x xs (not_low x (a 0 x (omega arith) (omega arith)))
      ∙ between xs i zero (λ k e lo hi. a (suc k) e (omega arith) (omega arith)) (λ k e lo hi. b (suc k) e (omega arith) (omega arith)) (λ k e lo hi. absurd (omega arith)) (λ k e lo hi. d (suc k) e (omega arith) (omega arith))
      ∙ (let e : zero - i ≡ zero - suc i = omega arith in ap (λ n. take n (drop i (map f xs))) e)
  between (x ∷ xs) (suc i) (suc j) a b c d =
      left_out x xs (not_low x (a 0 x (omega arith) (omega arith)))
      ∙ between xs i j (λ k e lo hi. a (suc k) e (omega arith) (omega arith)) (λ k e lo hi. b (suc k) e (omega arith) (omega arith)) (λ k e lo hi. c (suc k) e (omega arith) (omega arith)) (λ k e lo hi. d (suc k) e (omega arith) (omega arith))
      ∙ (let e : j - i ≡ suc j - suc i = omega arith in ap (λ n. take n (drop i (map f xs))) e)

-- a list with an element more

module _ {X : Type 0} {R : X → X → Ordering} (total : IsTotalOrder R) where
  -- what isn't there is put behind the elements that are less
  pub put_placed : (x : X) (xs : List X) → times R x xs ≡ 0 → insert_key R xs x ≡ placed R x xs
  put_placed x [] none = refl
  put_placed x (y ∷ ys) none = elim (R x y) as (λ r. R x y ≡ r → match_ordering r (x ∷ y ∷ ys) (y ∷ ys) (y ∷ insert_key R ys x) ≡ placed R x (y ∷ ys)) [
    | Less ↦ λ e. sym (ap (λ b. cond b (y ∷ placed R x ys) (x ∷ y ∷ ys)) (ap is_lt (total.antisymm y x) ∙ ap (λ r. is_lt (ordering_reverse r)) e))
    | Equal ↦ λ e. (let some : times R x (y ∷ ys) ≡ suc (times R x ys) = times-yes R x y ys (ap is_eq e) in absurd (omega arith))
    | Greater ↦ λ e. (
        let other : times R x (y ∷ ys) ≡ times R x ys = times-no R x y ys (ap is_eq e) in
        ap (λ zs. y ∷ zs) (put_placed x ys (omega arith))
        ∙ sym (ap (λ b. cond b (y ∷ placed R x ys) (x ∷ y ∷ ys)) (ap is_lt (total.antisymm y x) ∙ ap (λ r. is_lt (ordering_reverse r)) e)))
  ] refl

  -- a part of a list in order
  pub Ascends-front : (xs ys : List X) → Ascends R (xs ++ ys) → Ascends R xs
  Ascends-front [] ys up = tt
  Ascends-front (x ∷ xs) ys up = (front x xs up.0, Ascends-front xs ys up.1)
    where
      front : (x : X) (zs : List X) → Above R x (zs ++ ys) → Above R x zs
      front x [] h = tt
      front x (z ∷ zs) h = (h.0, front x zs h.1)

-- keys put in under another order that reads them alike
pub put_shown : {A X : Type 0} (f : A → X) (R : X → X → Ordering) (a : A) (xs : List A) → map f (insert_key (λ x y. R (f x) (f y)) xs a) ≡ insert_key R (map f xs) (f a)
put_shown f R a [] = refl
put_shown f R a (x ∷ xs) = elim (R (f a) (f x)) as (λ r. map f (match_ordering r (a ∷ x ∷ xs) (x ∷ xs) (x ∷ insert_key (λ x y. R (f x) (f y)) xs a)) ≡ match_ordering r (f a ∷ f x ∷ map f xs) (f x ∷ map f xs) (f x ∷ insert_key R (map f xs) (f a))) [
  | Less ↦ refl
  | Equal ↦ refl
  | Greater ↦ ap (λ ys. f x ∷ ys) (put_shown f R a xs)
]

-- a list with an element less

module _ {A X : Type 0} {R : X → X → Ordering} (total : IsTotalOrder R) (f : A → X) (p : X) where
  abbrev other : X → Bool
  other q = not (is_eq (R q p))

  back : (q : X) (r : Ordering) → R p q ≡ r → other q ≡ not (is_eq (ordering_reverse r))
  back q r e = ap (λ s. not (is_eq s)) (total.antisymm q p ∙ ap ordering_reverse e)

  stays : (x : A) (xs : List A) → other (f x) ≡ true → filter other (map f (x ∷ xs)) ≡ f x ∷ filter other (map f xs)
  stays x xs e = ap (λ b. cond b (f x ∷ filter other (map f xs)) (filter other (map f xs))) e

  all_other : (xs : List A) → AllWithin (λ y. R p (f y) ≡ Less) xs 0 (length xs) → map f xs ≡ filter other (map f xs)
  all_other [] h = refl
  all_other (x ∷ xs) h = ap (λ ys. f x ∷ ys) (all_other xs (λ k e lo hi. h (suc k) e (omega arith) (omega arith))) ∙ sym (stays x xs (back (f x) Less (h 0 x (omega arith) (omega arith))))

  pub removed_at : (xs : List A) (i : ℕ) → StandsAt (λ y. R p (f y)) xs i → map f (remove xs i) ≡ filter other (map f xs)
  removed_at [] i s = (let within : i < 0 = s.within in absurd (omega arith))
  removed_at (x ∷ xs) zero s =
      all_other xs (λ k e lo hi. s.back (suc k) e (omega arith) (omega arith))
      ∙ sym (ap (λ b. cond b (f x ∷ filter other (map f xs)) (filter other (map f xs))) (back (f x) Equal (s.here x)))
  removed_at (x ∷ xs) (suc i) s =
      ap (λ ys. f x ∷ ys) (removed_at xs i (record {
        within = (let within : suc i < suc (length xs) = s.within in omega arith);
        front = λ k e lo hi. s.front (suc k) e (omega arith) (omega arith);
        here = s.here;
        back = λ k e lo hi. s.back (suc k) e (omega arith) (omega arith);
      }))
      ∙ sym (stays x xs (back (f x) Greater (s.front 0 x (omega arith) (omega arith))))

  pub nowhere : (xs : List A) (i : ℕ) → StandsBefore (λ y. R p (f y)) xs i → map f xs ≡ filter other (map f xs)
  nowhere [] i s = refl
  nowhere (x ∷ xs) zero s = all_other (x ∷ xs) s.back
  nowhere (x ∷ xs) (suc i) s =
      ap (λ ys. f x ∷ ys) (nowhere xs i (record {
        within = (let within : suc i ≤ suc (length xs) = s.within in omega arith);
        front = λ k e lo hi. s.front (suc k) e (omega arith) (omega arith);
        back = λ k e lo hi. s.back (suc k) e (omega arith) (omega arith);
      }))
      ∙ sym (stays x xs (back (f x) Greater (s.front 0 x (omega arith) (omega arith))))

  -- what a take leaves
  pub taken_out : (xs ys : List A) (t : Option A) → IsTaken (λ y. R p (f y)) xs t ys → map f ys ≡ filter other (map f xs)
  taken_out xs ys t k = by k.place k.is k.left where
    by : (r : Result ℕ ℕ) → IsPlaceOf (λ y. R p (f y)) xs r → ys ≡ left_at r xs → map f ys ≡ filter other (map f xs)
    by (Ok at) stands e = ap (map f) e ∙ removed_at xs at stands
    by (Err at) stands e = ap (map f) e ∙ nowhere xs at stands
