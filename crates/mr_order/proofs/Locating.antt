-- A search that tells parts apart by their first items.
use Rattle.std.proofs.Common.{◌≡◌, ℕ, zero, suc, ◌+◌, ◌<◌, ◌≤◌, List, [], ◌∷◌, true, false, length, get_or, take, drop, refl, sym, subst, ap, ◌∙◌, arith, length-append, add-one}
use Rattle.std.specs.declared.cmp.Ordering.{Ordering}
use Rattle.std.specs.declared.cmp.Ordering.TheVariants.{Less, Equal, Greater}
use Rattle.std.specs.Ordering.{is_lt, is_ge}
use Rattle.std.specs.List.{AllWithin, flat_map}
use Rattle.std.proofs.lemmas.List.{get_or_default, take_all}
use Rattle.mr_order.specs.Runs.{IsIn}
use Rattle.mr_order.specs.Standing.{IsDivided, IsBetween}
use Rattle.mr_order.proofs.Flat.{flat_bound, flat_cut}
use Rattle.mr_order.proofs.Narrow.{in_flat, less_back}

less_told : (o : Ordering) → is_lt o ≡ true → o ≡ Less
less_told Less e = refl
less_told Equal e = cc
less_told Greater e = cc

not_less_told : (o : Ordering) → is_lt o ≡ false → is_ge o ≡ true
not_less_told Less e = cc
not_less_told Equal e = refl
not_less_told Greater e = refl

module _ {X A : Type 0} (f : X → List A) where
  -- where there is an item there is a part
  pub some_part : (xs : List X) → 0 < length (flat_map f xs) → 0 < length xs
  some_part [] some = some
  some_part (x ∷ xs) some = omega arith

  front_suc : (xs : List X) (c : ℕ) → length (flat_map f (take c xs)) ≤ length (flat_map f (take (suc c) xs))
  front_suc [] zero = omega arith
  front_suc [] (suc c) = omega arith
  front_suc (x ∷ xs) zero = omega arith
  front_suc (x ∷ xs) (suc c) =
      let one = length-append (f x) (flat_map f (take (suc c) xs)) in
      let two = length-append (f x) (flat_map f (take c xs)) in
      let h = front_suc xs c in
      omega arith

  front_more : (xs : List X) (c : ℕ) → length (flat_map f (take c xs)) ≤ length (flat_map f (take (c + 1) xs))
  front_more xs c = subst (λ n. length (flat_map f (take c xs)) ≤ length (flat_map f (take n xs))) (sym (add-one c)) (front_suc xs c)

  pub front_within : (xs : List X) (c : ℕ) → length (flat_map f (take c xs)) ≤ length (flat_map f xs)
  front_within xs c =
      let cut = ap length (flat_cut f xs c) in
      let long = length-append (flat_map f (take c xs)) (flat_map f (drop c xs)) in
      omega arith

  -- the items of a part, from where they begin
  pub in_named : (xs : List X) (i : ℕ) (e : X) → i < length xs → e ≡ get_or xs i e → IsIn (flat_map f xs) (f e) (length (flat_map f (take i xs)))
  in_named xs i e within is = subst (λ p. IsIn (flat_map f xs) (f p) (length (flat_map f (take i xs)))) (sym is) (in_flat f xs i e within)

module _ {X A : Type 0} (compare : A → Ordering) (f : X → List A) (xs : List X) where
  -- a query stands, or would stand, in one of the parts from one on and in front of another
  pub record IsAmong (part past : ℕ) : Type 0 where
    pub ordered : part < past
    pub within : past ≤ length xs
    pub front : AllWithin (λ y. compare y ≡ Greater) (flat_map f xs) 0 (length (flat_map f (take part xs)))
    pub back : AllWithin (λ y. compare y ≡ Less) (flat_map f xs) (length (flat_map f (take past xs))) (length (flat_map f xs))

  pub among_all : (past : ℕ) → past ≡ length xs → 0 < length xs → IsAmong 0 past
  among_all past is some = record {
    ordered = omega arith;
    within = omega arith;
    front = λ k e lo lt. absurd (omega arith);
    back = λ k e lo lt. (let all = ap (λ l. length (flat_map f l)) (take_all past xs (omega arith)) in absurd (omega arith));
  }

  -- the part in the middle, and its first item
  module _ (divided : IsDivided compare (flat_map f xs)) (part past m : ℕ) (among : IsAmong part past) (e : X) (d : A) (lo : part < m) (hi : m < past)
      (some : 0 < length (f (get_or xs m e))) (is : d ≡ get_or (flat_map f xs) (length (flat_map f (take m xs))) d) where
    inside : length (flat_map f (take m xs)) < length (flat_map f xs)
    inside =
        let w = among.within in
        let bound = flat_bound f xs m e (omega arith) in
        omega arith

    pub among_front : is_lt (compare d) ≡ true → IsAmong part m
    among_front less = record {
      ordered = lo;
      within = (let w = among.within in omega arith);
      front = among.front;
      back = less_back compare (flat_map f xs) divided (length (flat_map f (take m xs))) d inside (ap compare (sym is) ∙ less_told (compare d) less);
    }

    pub among_back : is_lt (compare d) ≡ false → IsAmong m past
    among_back not_less = record {
      ordered = hi;
      within = among.within;
      front = λ k y from below. divided.front k (length (flat_map f (take m xs))) y below inside
          (ap (λ z. is_ge (compare z)) (get_or_default (flat_map f xs) (length (flat_map f (take m xs))) y d inside ∙ sym is) ∙ not_less_told (compare d) not_less);
      back = among.back;
    }

  -- one part is left
  pub among_one : (part past : ℕ) → IsAmong part past → past ≤ part + 1 → IsBetween compare (flat_map f xs) (length (flat_map f (take part xs))) (length (flat_map f (take (part + 1) xs)))
  among_one part past among last =
      let o = among.ordered in
      let is : past ≡ part + 1 = omega arith in
      record {
        ordered = front_more f xs part;
        within = front_within f xs (part + 1);
        front = among.front;
        back = subst (λ n. AllWithin (λ y. compare y ≡ Less) (flat_map f xs) (length (flat_map f (take n xs))) (length (flat_map f xs))) is among.back;
      }
