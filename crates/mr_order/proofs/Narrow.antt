-- A search that halves the places between which a query stands.
use Rattle.std.proofs.Common.{◌≡◌, ℕ, zero, suc, ◌+◌, ◌-◌, ◌/◌, ◌*◌, ◌^◌, ◌<◌, ◌≤◌, List, length, get_or, take, sym, subst, ap, ◌∙◌, inl, inr, arith}
use Rattle.std.specs.Prelude.{Result, Ok, Err, MatchResult}
use Rattle.std.specs.declared.cmp.Ordering.{Ordering}
use Rattle.std.specs.declared.cmp.Ordering.TheVariants.{Less, Equal, Greater}
use Rattle.std.specs.Ordering.{is_le, is_ge}
use Rattle.std.specs.List.{AllWithin, flat_map}
use Rattle.std.proofs.lemmas.List.{get_or_default}
use Rattle.std.proofs.lemmas.List.Concat.{get_or-flat_map}
use Rattle.std.proofs.lemmas.Bool.{cases_order, cases_lt}
use Rattle.std.proofs.Math.Nat.{pow-succ'}
use Rattle.mr_order.specs.Runs.{IsIn}
use Rattle.mr_order.specs.Standing.{IsDivided, IsBetween, StandsAt, StandsBefore, IsPlaceOf, shifted}
use Rattle.mr_order.proofs.Flat.{flat_bound}

-- how many steps are left: so many places are fewer than a power of two
pub record StepsLeft (places now start digits : ℕ) : Type 0 where
  pub left : ℕ
  pub fewer : places < 2 ^ left
  pub counted : now + left ≤ start + digits

halved : (places half now more start digits : ℕ) → 0 < places → half ≤ places / 2 → more ≤ now + 1 → StepsLeft places now start digits → StepsLeft half more start digits
halved places half now more start digits some at_most one s = by s.left s.fewer s.counted where
  by : (r : ℕ) → places < 2 ^ r → now + r ≤ start + digits → StepsLeft half more start digits
  by zero below left = absurd (omega arith)
  by (suc r) below left =
      let double : 2 ^ suc r ≡ 2 * 2 ^ r = pow-succ' 2 r in
      record { left = r; fewer = omega arith; counted = omega arith }

module _ {A : Type 0} (compare : A → Ordering) (items : List A) where
  -- the query stands between two places, and the steps so far were as many as halvings
  pub record IsNarrowed (low high start from to now : ℕ) : Type 0 where
    pub between : IsBetween compare items from to
    pub steps : (digits : ℕ) → high < low + 2 ^ digits → StepsLeft (to - from) now start digits
    pub rising : start ≤ now

  pub narrowed_none : (low high start : ℕ) → IsBetween compare items low high → IsNarrowed low high start low high start
  narrowed_none low high start between = record {
    between = between;
    steps = λ digits lt. (let order = between.ordered in record { left = digits; fewer = omega arith; counted = omega arith });
    rising = omega arith;
  }

  module _ (divided : IsDivided compare items) (m : ℕ) (d : A) (within : m < length items) where
    at : (o : Ordering) → compare (get_or items m d) ≡ o → (e : A) → compare (get_or items m e) ≡ o
    at o is e = ap compare (get_or_default items m e d within) ∙ is

    -- what is in front of a lesser item is less
    greater_front : compare (get_or items m d) ≡ Greater → AllWithin (λ y. compare y ≡ Greater) items 0 (m + 1)
    greater_front is k e from below = elim (cases_order k m) [
      | inl same ↦ ap (λ n. compare (get_or items n e)) same ∙ at Greater is e
      | inr (inl less) ↦ divided.front k m e less within (ap is_ge (at Greater is e))
      | inr (inr more) ↦ absurd (omega arith)
    ]

    -- what is behind a greater item is greater
    pub less_back : compare (get_or items m d) ≡ Less → AllWithin (λ y. compare y ≡ Less) items m (length items)
    less_back is k e from below = elim (cases_order k m) [
      | inl same ↦ ap (λ n. compare (get_or items n e)) same ∙ at Less is e
      | inr (inl less) ↦ absurd (omega arith)
      | inr (inr more) ↦ divided.back m k e more below (ap is_le (at Less is e))
    ]

    pub equal_at : compare (get_or items m d) ≡ Equal → StandsAt compare items m
    equal_at is = record {
      within = within;
      front = λ k e from below. divided.front k m e below within (ap is_ge (at Equal is e));
      here = at Equal is;
      back = λ k e from below. divided.back m k e (omega arith) below (ap is_le (at Equal is e));
    }

    module _ (low high start from to now more : ℕ) (n : IsNarrowed low high start from to now) (some : from < to) (middle : m ≡ from + (to - from) / 2) (one : more ≤ now + 1) (rises : now ≤ more) where
      pub narrowed_right : compare (get_or items m d) ≡ Greater → IsNarrowed low high start (m + 1) to more
      narrowed_right is = record {
        between = record { ordered = omega arith; within = n.between.within; front = greater_front is; back = n.between.back };
        steps = λ digits lt. halved (to - from) (to - (m + 1)) now more start digits (omega arith) (omega arith) one (n.steps digits lt);
        rising = let r = n.rising in omega arith;
      }

      pub narrowed_left : compare (get_or items m d) ≡ Less → IsNarrowed low high start from m more
      narrowed_left is = record {
        between = record { ordered = omega arith; within = omega arith; front = n.between.front; back = less_back is };
        steps = λ digits lt. halved (to - from) (m - from) now more start digits (omega arith) (omega arith) one (n.steps digits lt);
        rising = let r = n.rising in omega arith;
      }

      -- the item in the middle is one step more
      pub steps_found : (digits : ℕ) → high < low + 2 ^ digits → more ≤ start + digits
      steps_found digits lt = let s = halved (to - from) 0 now more start digits (omega arith) (omega arith) one (n.steps digits lt) in let c = s.counted in omega arith

  module _ (low high start from to now : ℕ) (n : IsNarrowed low high start from to now) where
    pub steps_done : (digits : ℕ) → high < low + 2 ^ digits → now ≤ start + digits
    steps_done digits lt = let s = n.steps digits lt in let c = s.counted in omega arith

    pub stands_before : to ≤ from → StandsBefore compare items from
    stands_before none =
        let order = n.between.ordered in
        let inside = n.between.within in
        record { within = omega arith; front = n.between.front; back = λ k e lo below. n.between.back k e (omega arith) below }

pub in_flat : {X A : Type 0} (f : X → List A) (xs : List X) (i : ℕ) (e : X) → i < length xs → IsIn (flat_map f xs) (f (get_or xs i e)) (length (flat_map f (take i xs)))
in_flat f xs i e within = record { same = λ k d lt. get_or-flat_map f xs i k e d within lt; fits = flat_bound f xs i e within }

-- the items of a part, of whose place one item is known
pub in_part : {X A : Type 0} (f : X → List A) (xs : List X) (i j k : ℕ) (e : X) → i < length xs → length (flat_map f (take i xs)) + j ≡ k → e ≡ get_or xs i e → IsIn (flat_map f xs) (f e) (k - j)
in_part f xs i j k e within place is =
    let start : length (flat_map f (take i xs)) ≡ k - j = omega arith in
    subst (λ n. IsIn (flat_map f xs) (f e) n) start (subst (λ p. IsIn (flat_map f xs) (f p) (length (flat_map f (take i xs)))) (sym is) (in_flat f xs i e within))

-- a run of a run
pub in_in : {A : Type 0} (xs ys zs : List A) (start from at : ℕ) → start + from ≡ at → IsIn xs ys start → IsIn ys zs from → IsIn xs zs at
in_in xs ys zs start from at is outer inner =
    let long = outer.fits in
    let fits = inner.fits in
    record {
      same = λ k d lt. (let e : at + k ≡ start + (from + k) = omega arith in ap (λ n. get_or xs n d) e ∙ outer.same (from + k) d (omega arith) ∙ inner.same k d lt);
      fits = omega arith;
    }

module _ {A : Type 0} (compare : A → Ordering) (xs ys : List A) (start : ℕ) (part : IsIn xs ys start) where
  pub divided_in : IsDivided compare xs → IsDivided compare ys
  divided_in divided = record {
    front = λ i j d lt within h. (let fits = part.fits in
        ap compare (sym (part.same i d (omega arith))) ∙ divided.front (start + i) (start + j) d (omega arith) (omega arith) (ap (λ y. is_ge (compare y)) (part.same j d within) ∙ h));
    back = λ i j d lt within h. (let fits = part.fits in
        ap compare (sym (part.same j d within)) ∙ divided.back (start + i) (start + j) d (omega arith) (omega arith) (ap (λ y. is_le (compare y)) (part.same i d (omega arith)) ∙ h));
  }

  module _ (from to : ℕ) (between : IsBetween compare xs from to) (begins : start ≤ from) (ends : to ≤ start + length ys) where
    pub between_in : IsBetween compare ys (from - start) (to - start)
    between_in =
        let fits = part.fits in
        let order = between.ordered in
        record {
          ordered = omega arith;
          within = omega arith;
          front = λ k d lo lt. ap compare (sym (part.same k d (omega arith))) ∙ between.front (start + k) d (omega arith) (omega arith);
          back = λ k d lo lt. ap compare (sym (part.same k d lt)) ∙ between.back (start + k) d (omega arith) (omega arith);
        }

    here : (k : ℕ) (d : A) (o : Ordering) → start ≤ k → k < start + length ys → compare (get_or ys (k - start) d) ≡ o → compare (get_or xs k d) ≡ o
    here k d o lo hi is =
        let e : k ≡ start + (k - start) = omega arith in
        ap (λ n. compare (get_or xs n d)) e ∙ ap compare (part.same (k - start) d (omega arith)) ∙ is

    front_in : (at : ℕ) → at ≤ length ys → AllWithin (λ y. compare y ≡ Greater) ys 0 at → AllWithin (λ y. compare y ≡ Greater) xs 0 (start + at)
    front_in at within front k d lo lt = elim (cases_lt k start) [
      | inl before ↦ between.front k d lo (omega arith)
      | inr after ↦ here k d Greater after (omega arith) (front (k - start) d (omega arith) (omega arith))
    ]

    back_in : (at : ℕ) → AllWithin (λ y. compare y ≡ Less) ys at (length ys) → AllWithin (λ y. compare y ≡ Less) xs (start + at) (length xs)
    back_in at back k d lo lt = elim (cases_lt k (start + length ys)) [
      | inl inside ↦ here k d Less (omega arith) inside (back (k - start) d (omega arith) (omega arith))
      | inr behind ↦ between.back k d (omega arith) lt
    ]

    pub place_in : (found : Result ℕ ℕ) → IsPlaceOf compare ys found → IsPlaceOf compare xs (shifted start found)
    place_in (Ok at) stands =
        let fits = part.fits in
        let within = stands.within in
        record {
          within = omega arith;
          front = front_in at (omega arith) stands.front;
          here = λ d. ap compare (part.same at d within) ∙ stands.here d;
          back = λ k d lo lt. back_in (at + 1) stands.back k d (omega arith) lt;
        }
    place_in (Err at) stands =
        let fits = part.fits in
        let within = stands.within in
        record { within = omega arith; front = front_in at within stands.front; back = back_in at stands.back }

pub shifted_fits : {A : Type 0} (compare : A → Ordering) (ys : List A) (start : ℕ) (found : Result ℕ ℕ) → start + length ys < 2 ^ 63 → IsPlaceOf compare ys found → MatchResult found (λ at. start + at < 2 ^ 64) (λ at. start + at < 2 ^ 64)
shifted_fits compare ys start (Ok at) small stands = let within = stands.within in omega arith
shifted_fits compare ys start (Err at) small stands = let within = stands.within in omega arith
