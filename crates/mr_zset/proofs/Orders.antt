-- Lists in an order: what is placed, sorted or filtered, and that a list in order is known by its elements.
use Rattle.std.proofs.Common.{◌≡◌, Some, ℕ, zero, suc, ◌+◌, ◌<◌, length, get_or, List, [], ◌∷◌, Bool, true, false, cond, refl, sym, ◌∙◌, ap, subst, arith}
use Rattle.std.specs.Prelude.{filter, sum_by, count_by, slice_get}
use Rattle.std.specs.declared.cmp.Ordering.{Ordering}
use Rattle.std.specs.Ordering.{is_lt, is_gt, is_eq, ordering_reverse}
use Rattle.std.specs.declared.cmp.Ordering.TheVariants.{Less, Equal, Greater}
use Rattle.std.specs.Cmp.{IsTotalOrder}
use Rattle.std.specs.List.Sorted.{IsPermutation, IsSorted}
use Rattle.std.proofs.lemmas.Cmp.{upto, tied_itself}
use Rattle.std.proofs.lemmas.List.Sorted.{IsPermutation-refl, IsPermutation-cons, IsPermutation-trans, IsPermutation-middle, sum_by-IsPermutation}
use Rattle.std.proofs.lemmas.List.Sums.{sum_by-cons}
use Rattle.mr_zset.specs.Order.{placed, in_order}

-- x is not above what follows it, and so on
abbrev pub Above : {X : Type 0} → (X → X → Ordering) → X → List X → Type 0
Above R x [] = Unit {0}
Above R x (y ∷ ys) = (is_gt (R x y) ≡ false) × Above R x ys

abbrev pub Ascends : {X : Type 0} → (X → X → Ordering) → List X → Type 0
Ascends R [] = Unit {0}
Ascends R (x ∷ xs) = Above R x xs × Ascends R xs

less_not_more : (r : Ordering) → is_lt r ≡ true → is_gt r ≡ false
less_not_more Less e = refl
less_not_more Equal e = cc
less_not_more Greater e = cc

not_more_back : (r s : Ordering) → r ≡ ordering_reverse s → is_gt r ≡ false → is_lt s ≡ false
not_more_back r Less e h = absurd (cc (ap is_gt e))
not_more_back r Equal e h = refl
not_more_back r Greater e h = refl

not_less_back : (r s : Ordering) → r ≡ ordering_reverse s → is_lt s ≡ false → is_gt r ≡ false
not_less_back r Less e h = cc
not_less_back r Equal e h = ap is_gt e
not_less_back r Greater e h = ap is_gt e

module _ {X : Type 0} {R : X → X → Ordering} (total : IsTotalOrder R) where
  Above-trans : (x y : X) (ys : List X) → is_gt (R x y) ≡ false → Above R y ys → Above R x ys
  Above-trans x y [] le h = tt
  Above-trans x y (z ∷ ys) le h = (upto total x y z le h.0, Above-trans x y ys le h.1)

  Above-placed : (x a : X) (ys : List X) → is_gt (R x a) ≡ false → Above R x ys → Above R x (placed R a ys)
  Above-placed x a [] le h = (le, tt)
  Above-placed x a (y ∷ ys) le h = elim (is_lt (R y a)) as (λ b. Above R x (cond b (y ∷ placed R a ys) (a ∷ y ∷ ys))) [
    | true ↦ (h.0, Above-placed x a ys le h.1)
    | false ↦ (le, h)
  ]

  pub Ascends-placed : (a : X) (ys : List X) → Ascends R ys → Ascends R (placed R a ys)
  Ascends-placed a [] h = (tt, tt)
  Ascends-placed a (y ∷ ys) h = elim (is_lt (R y a)) as (λ b. is_lt (R y a) ≡ b → Ascends R (cond b (y ∷ placed R a ys) (a ∷ y ∷ ys))) [
    | true ↦ λ e. (Above-placed y a ys (less_not_more _ e) h.0, Ascends-placed a ys h.1)
    | false ↦ λ e. let le = not_less_back (R a y) (R y a) (total.antisymm a y) e in ((le, Above-trans a y ys le h.0), h)
  ] refl

  pub Ascends-in_order : (xs : List X) → Ascends R (in_order R xs)
  Ascends-in_order [] = tt
  Ascends-in_order (x ∷ xs) = Ascends-placed x (in_order R xs) (Ascends-in_order xs)

  Above-filter : (p : X → Bool) (x : X) (ys : List X) → Above R x ys → Above R x (filter p ys)
  Above-filter p x [] h = tt
  Above-filter p x (y ∷ ys) h = elim (p y) as (λ b. Above R x (cond b (y ∷ filter p ys) (filter p ys))) [
    | true ↦ (h.0, Above-filter p x ys h.1)
    | false ↦ Above-filter p x ys h.1
  ]

  pub Ascends-filter : (p : X → Bool) (ys : List X) → Ascends R ys → Ascends R (filter p ys)
  Ascends-filter p [] h = tt
  Ascends-filter p (y ∷ ys) h = elim (p y) as (λ b. Ascends R (cond b (y ∷ filter p ys) (filter p ys))) [
    | true ↦ (Above-filter p y ys h.0, Ascends-filter p ys h.1)
    | false ↦ Ascends-filter p ys h.1
  ]

-- what is placed, and a list in order, have the same elements

module _ {X : Type 0} (R : X → X → Ordering) where
  pub IsPermutation-placed : (a : X) (ys : List X) → IsPermutation (a ∷ ys) (placed R a ys)
  IsPermutation-placed a [] = IsPermutation-refl (a ∷ [])
  IsPermutation-placed a (y ∷ ys) = elim (is_lt (R y a)) as (λ b. IsPermutation (a ∷ y ∷ ys) (cond b (y ∷ placed R a ys) (a ∷ y ∷ ys))) [
    | true ↦ IsPermutation-trans (a ∷ y ∷ ys) (y ∷ a ∷ ys) (y ∷ placed R a ys) (IsPermutation-middle (a ∷ []) y ys) (IsPermutation-cons y (a ∷ ys) (placed R a ys) (IsPermutation-placed a ys))
    | false ↦ IsPermutation-refl (a ∷ y ∷ ys)
  ]

  pub IsPermutation-in_order : (xs : List X) → IsPermutation xs (in_order R xs)
  IsPermutation-in_order [] = IsPermutation-refl []
  IsPermutation-in_order (x ∷ xs) = IsPermutation-trans (x ∷ xs) (x ∷ in_order R xs) (placed R x (in_order R xs)) (IsPermutation-cons x xs (in_order R xs) (IsPermutation-in_order xs)) (IsPermutation-placed x (in_order R xs))

-- how often an element stands in a list

pub one : Bool → ℕ
one true = 1
one false = 0

pub one-true : (b : Bool) → b ≡ true → one b ≡ 1
unfolding one
one-true b e = ap one e

pub one-false : (b : Bool) → b ≡ false → one b ≡ 0
unfolding one
one-false b e = ap one e

module _ {X : Type 0} (R : X → X → Ordering) where
  pub times : X → List X → ℕ
  times q xs = sum_by (λ x. one (is_eq (R q x))) xs

  pub times-nil : (q : X) → times q [] ≡ 0
  unfolding times
  times-nil q = refl

  pub times-cons : (q x : X) (xs : List X) → times q (x ∷ xs) ≡ one (is_eq (R q x)) + times q xs
  unfolding times
  times-cons q x xs = sum_by-cons (λ y. one (is_eq (R q y))) x xs

  pub times-permutation : (q : X) (xs ys : List X) → IsPermutation xs ys → times q ys ≡ times q xs
  unfolding times
  times-permutation q xs ys h = sum_by-IsPermutation (λ y. one (is_eq (R q y))) xs ys h

  pub times-yes : (q x : X) (xs : List X) → is_eq (R q x) ≡ true → times q (x ∷ xs) ≡ suc (times q xs)
  times-yes q x xs e = times-cons q x xs ∙ (let here : one (is_eq (R q x)) ≡ 1 = one-true _ e in omega arith)

  pub times-no : (q x : X) (xs : List X) → is_eq (R q x) ≡ false → times q (x ∷ xs) ≡ times q xs
  times-no q x xs e = times-cons q x xs ∙ (let here : one (is_eq (R q x)) ≡ 0 = one-false _ e in omega arith)

module _ {X : Type 0} {R : X → X → Ordering} (total : IsTotalOrder R) where
  pub times-itself : (x : X) (xs : List X) → times R x (x ∷ xs) ≡ suc (times R x xs)
  times-itself x xs = times-yes R x x xs (ap is_eq (tied_itself total x))

  -- what is less than x is not tied with what x is not above
  apart : (q x y : X) → R q x ≡ Less → is_gt (R x y) ≡ false → is_eq (R q y) ≡ false
  apart q x y lt le = elim (R q y) as (λ r. R q y ≡ r → is_eq r ≡ false) [
    | Less ↦ λ e. refl
    | Equal ↦ λ e. sym (ap is_gt (total.antisymm x y ∙ ap ordering_reverse (sym (total.congr q y x e) ∙ lt))) ∙ le
    | Greater ↦ λ e. refl
  ] refl

  times-below : (q x : X) (xs : List X) → R q x ≡ Less → Above R x xs → times R q xs ≡ 0
  times-below q x [] lt h = times-nil R q
  times-below q x (y ∷ ys) lt h = times-no R q y ys (apart q x y lt h.0) ∙ times-below q x ys lt h.1

  module _ (exact : (x y : X) → R x y ≡ Equal → x ≡ y) where
    -- lists in order that have the same elements are one
    pub one_order : (xs ys : List X) → Ascends R xs → Ascends R ys → ((q : X) → times R q xs ≡ times R q ys) → xs ≡ ys
    one_order [] [] up vp h = refl
    one_order [] (y ∷ ys) up vp h = let none : times R y [] ≡ 0 = times-nil R y in let some : times R y (y ∷ ys) ≡ suc (times R y ys) = times-itself y ys in let same : times R y [] ≡ times R y (y ∷ ys) = h y in absurd (omega arith)
    one_order (x ∷ xs) [] up vp h = let none : times R x [] ≡ 0 = times-nil R x in let some : times R x (x ∷ xs) ≡ suc (times R x xs) = times-itself x xs in let same : times R x (x ∷ xs) ≡ times R x [] = h x in absurd (omega arith)
    one_order (x ∷ xs) (y ∷ ys) up vp h = elim (R x y) as (λ r. R x y ≡ r → x ∷ xs ≡ y ∷ ys) [
      | Less ↦ λ e.
          let none : times R x (y ∷ ys) ≡ 0 = times-no R x y ys (ap is_eq e) ∙ times-below x y ys e vp.0 in
          let some : times R x (x ∷ xs) ≡ suc (times R x xs) = times-itself x xs in
          let same : times R x (x ∷ xs) ≡ times R x (y ∷ ys) = h x in
          absurd (omega arith)
      | Equal ↦ λ e.
          let head : x ≡ y = exact x y e in
          let rest : (q : X) → times R q xs ≡ times R q ys =
          λ q. let left : times R q (x ∷ xs) ≡ one (is_eq (R q x)) + times R q xs = times-cons R q x xs in
          let right : times R q (y ∷ ys) ≡ one (is_eq (R q y)) + times R q ys = times-cons R q y ys in
          let tie : one (is_eq (R q x)) ≡ one (is_eq (R q y)) = ap (λ z. one (is_eq (R q z))) head in
          let same : times R q (x ∷ xs) ≡ times R q (y ∷ ys) = h q in
          omega arith in
          let tail : xs ≡ ys = one_order xs ys up.1 vp.1 rest in
          λ i. head i ∷ tail i
      | Greater ↦ λ e.
          let less : R y x ≡ Less = total.antisymm y x ∙ ap ordering_reverse e in
          let none : times R y (x ∷ xs) ≡ 0 = times-no R y x xs (ap is_eq less) ∙ times-below y x xs less up.0 in
          let some : times R y (y ∷ ys) ≡ suc (times R y ys) = times-itself y ys in
          let same : times R y (x ∷ xs) ≡ times R y (y ∷ ys) = h y in
          absurd (omega arith)
    ] refl

    differ_yes : (p : X → Bool) (q x : X) → p q ≡ true → p x ≡ false → is_eq (R q x) ≡ false
    differ_yes p q x hq hx = elim (R q x) as (λ r. R q x ≡ r → is_eq r ≡ false) [
      | Less ↦ λ e. refl
      | Equal ↦ λ e. sym hq ∙ ap p (exact q x e) ∙ hx
      | Greater ↦ λ e. refl
    ] refl

    differ_no : (p : X → Bool) (q x : X) → p q ≡ false → p x ≡ true → is_eq (R q x) ≡ false
    differ_no p q x hq hx = elim (R q x) as (λ r. R q x ≡ r → is_eq r ≡ false) [
      | Less ↦ λ e. refl
      | Equal ↦ λ e. sym (sym hq ∙ ap p (exact q x e) ∙ hx)
      | Greater ↦ λ e. refl
    ] refl

    pub filtered_yes : (p : X → Bool) (q : X) → p q ≡ true → (xs : List X) → times R q (filter p xs) ≡ times R q xs
    filtered_yes p q hq [] = refl
    filtered_yes p q hq (x ∷ xs) = elim (p x) as (λ b. p x ≡ b → times R q (cond b (x ∷ filter p xs) (filter p xs)) ≡ times R q (x ∷ xs)) [
      | true ↦ λ e. times-cons R q x (filter p xs) ∙ ap (λ n. one (is_eq (R q x)) + n) (filtered_yes p q hq xs) ∙ sym (times-cons R q x xs)
      | false ↦ λ e. filtered_yes p q hq xs ∙ sym (times-no R q x xs (differ_yes p q x hq e))
    ] refl

    pub filtered_no : (p : X → Bool) (q : X) → p q ≡ false → (xs : List X) → times R q (filter p xs) ≡ 0
    filtered_no p q hq [] = times-nil R q
    filtered_no p q hq (x ∷ xs) = elim (p x) as (λ b. p x ≡ b → times R q (cond b (x ∷ filter p xs) (filter p xs)) ≡ 0) [
      | true ↦ λ e. times-no R q x (filter p xs) (differ_no p q x hq e) ∙ filtered_no p q hq xs
      | false ↦ λ e. filtered_no p q hq xs
    ] refl

    -- a filter leaves as many of each element of two lists that have as many of each
    filtered : (p : X → Bool) (q : X) (xs ys : List X) → times R q xs ≡ times R q ys → times R q (filter p xs) ≡ times R q (filter p ys)
    filtered p q xs ys h = elim (p q) as (λ b. p q ≡ b → times R q (filter p xs) ≡ times R q (filter p ys)) [
      | true ↦ λ e. filtered_yes p q e xs ∙ h ∙ sym (filtered_yes p q e ys)
      | false ↦ λ e. filtered_no p q e xs ∙ sym (filtered_no p q e ys)
    ] refl

    -- what a filter leaves, sorted, is the filter of all in order
    pub sorted_filter : (es ls : List X) (p : X → Bool) → Ascends R ls → IsPermutation (filter p es) ls → ls ≡ filter p (in_order R es)
    sorted_filter es ls p up moved = one_order ls (filter p (in_order R es)) up (Ascends-filter total p (in_order R es) (Ascends-in_order total es)) (λ q.
        times-permutation R q (filter p es) ls moved ∙ filtered p q es (in_order R es) (sym (times-permutation R q es (in_order R es) (IsPermutation-in_order R es))))

-- the place of an element in a list in order is the number of lesser ones

module _ {X : Type 0} {R : X → X → Ordering} (total : IsTotalOrder R) (exact : (x y : X) → R x y ≡ Equal → x ≡ y) where
  lesser : X → List X → ℕ
  lesser q xs = count_by (λ x. is_lt (R x q)) xs

  lesser-cons : (q x : X) (xs : List X) → lesser q (x ∷ xs) ≡ cond {A = ℕ} (is_lt (R x q)) 1 0 + lesser q xs
  unfolding lesser
  lesser-cons q x xs = sum_by-cons (λ y. cond (is_lt (R y q)) 1 0) x xs

  lesser-nil : (q : X) → lesser q [] ≡ 0
  unfolding lesser
  lesser-nil q = refl

  lesser-above : (q x : X) (xs : List X) → is_gt (R q x) ≡ false → Above R x xs → lesser q xs ≡ 0
  lesser-above q x [] le h = lesser-nil q
  lesser-above q x (y ∷ ys) le h =
      let first : cond {A = ℕ} (is_lt (R y q)) 1 0 ≡ 0 = ap (λ b. cond {A = ℕ} b 1 0) (not_more_back (R q y) (R y q) (total.antisymm q y) (upto total q x y le h.0)) in
      let rest : lesser q ys ≡ 0 = lesser-above q x ys le h.1 in
      let both : lesser q (y ∷ ys) ≡ cond {A = ℕ} (is_lt (R y q)) 1 0 + lesser q ys = lesser-cons q y ys in
      omega arith

  at_suc : (x : X) (xs : List X) (n m : ℕ) → n ≡ suc m → slice_get (x ∷ xs) n ≡ slice_get xs m
  at_suc x xs n m e = ap (slice_get (x ∷ xs)) e

  at_start : (x : X) (xs : List X) (n : ℕ) → n ≡ 0 → slice_get (x ∷ xs) n ≡ Some x
  at_start x xs n e = ap (slice_get (x ∷ xs)) e

  place : (q : X) (xs : List X) → Ascends R xs → 0 < times R q xs → slice_get xs (lesser q xs) ≡ Some q
  place q [] up has = let none : times R q [] ≡ 0 = times-nil R q in absurd (omega arith)
  place q (x ∷ xs) up has = elim (R x q) as (λ r. R x q ≡ r → slice_get (x ∷ xs) (lesser q (x ∷ xs)) ≡ Some q) [
    | Less ↦ λ e.
        let more : R q x ≡ Greater = total.antisymm q x ∙ ap ordering_reverse e in
        let same : times R q (x ∷ xs) ≡ times R q xs = times-no R q x xs (ap is_eq more) in
        let one_more : lesser q (x ∷ xs) ≡ suc (lesser q xs) = lesser-cons q x xs ∙ ap (λ r. cond {A = ℕ} (is_lt r) 1 0 + lesser q xs) e ∙ omega arith in
        at_suc x xs (lesser q (x ∷ xs)) (lesser q xs) one_more ∙ place q xs up.1 (omega arith)
    | Equal ↦ λ e.
        let head : x ≡ q = exact x q e in
        let le : is_gt (R q x) ≡ false = ap is_gt (total.antisymm q x ∙ ap ordering_reverse e) in
        let none : lesser q (x ∷ xs) ≡ 0 = lesser-cons q x xs ∙ ap (λ r. cond {A = ℕ} (is_lt r) 1 0 + lesser q xs) e ∙ (let rest : lesser q xs ≡ 0 = lesser-above q x xs le up.0 in omega arith) in
        at_start x xs (lesser q (x ∷ xs)) none ∙ ap Some head
    | Greater ↦ λ e.
        let less : R q x ≡ Less = total.antisymm q x ∙ ap ordering_reverse e in
        let none : times R q (x ∷ xs) ≡ 0 = times-no R q x xs (ap is_eq less) ∙ times-below total q x xs less up.0 in
        absurd (omega arith)
  ] refl

  -- the number of lesser elements of a list is the place in the list in order
  pub place-in_order : (q : X) (es : List X) → 0 < times R q es → slice_get (in_order R es) (count_by (λ x. is_lt (R x q)) es) ≡ Some q
  unfolding lesser
  place-in_order q es has =
      let same : times R q (in_order R es) ≡ times R q es = times-permutation R q es (in_order R es) (IsPermutation-in_order R es) in
      let moved : lesser q (in_order R es) ≡ lesser q es = sum_by-IsPermutation (λ x. cond (is_lt (R x q)) 1 0) es (in_order R es) (IsPermutation-in_order R es) in
      ap (slice_get (in_order R es)) (sym moved) ∙ place q (in_order R es) (Ascends-in_order total es) (omega arith)

  -- a list in order is sorted
  pub IsSorted-ascends : (xs : List X) → Ascends R xs → IsSorted R xs
  IsSorted-ascends [] up = λ k d low high. absurd (omega arith)
  IsSorted-ascends (x ∷ []) up = λ k d low high. absurd (omega arith)
  IsSorted-ascends (x ∷ y ∷ ys) up = λ k d low high. elim k as (λ (n : ℕ). n + 1 < length (x ∷ y ∷ ys) → is_lt (R (get_or (x ∷ y ∷ ys) (n + 1) d) (get_or (x ∷ y ∷ ys) n d)) ≡ false) [
    | zero ↦ λ h. not_more_back (R x y) (R y x) (total.antisymm x y) up.0.0
    | suc n ↦ λ h.
        let e : suc (n + 1) ≡ suc n + 1 = omega arith in
        subst (λ (m : ℕ). is_lt (R (get_or (x ∷ y ∷ ys) m d) (get_or (y ∷ ys) n d)) ≡ false) e (IsSorted-ascends (y ∷ ys) up.1 n d (omega arith) (omega arith))
  ] high
