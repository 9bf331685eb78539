-- Members from a place on, and round the end.
use Rattle.std.proofs.Common.{◌≡◌, ℕ, zero, suc, ◌+◌, ◌-◌, ◌%◌, ◌<◌, min, List, [], ◌∷◌, ◌++◌, length, take, drop, Option, Some, None, refl, sym, ◌∙◌, ap, subst, arith}
use Rattle.std.specs.Prelude.{slice_get, option_copied, IfSome, IfNone}
use Rattle.std.specs.Borrow.{Bor}
use Rattle.std.proofs.lemmas.List.{map-append, length-drop}
use Rattle.std.proofs.lemmas.Option.{slice_get-get_or}
use Rattle.std.proofs.Math.Nat.{mod-lt, suc-min-suc}
use Rattle.mr_cmd_set.specs.Members.{from_place, drawn}
use Rattle.mr_cmd_set.specs.Grouping.{lent}

minus_zero : (n : ℕ) → n - 0 ≡ n
minus_zero n = omega arith

zero_minus : (n : ℕ) → 0 - n ≡ 0
zero_minus n = omega arith

minus_suc : (n k : ℕ) → suc n - suc k ≡ n - k
minus_suc n k = omega arith

zero_min : (n : ℕ) → min 0 n ≡ 0
zero_min n = omega arith

min_zero : (n : ℕ) → min n 0 ≡ 0
min_zero n = omega arith

module _ {A : Type 0} where
  take_none : (n : ℕ) → take {A = A} n [] ≡ []
  take_none zero = refl
  take_none (suc n) = refl

  drop_none : (n : ℕ) → drop {A = A} n [] ≡ []
  drop_none zero = refl
  drop_none (suc n) = refl

  take_parts : (n : ℕ) (xs ys : List A) → take n (xs ++ ys) ≡ take n xs ++ take (n - length xs) ys
  take_parts n [] ys = ap (λ zs. zs ++ take n ys) (sym (take_none n)) ∙ ap (λ k. take n [] ++ take k ys) (sym (minus_zero n))
  take_parts zero (x ∷ xs) ys = sym (ap (λ k. take k ys) (zero_minus (length (x ∷ xs))))
  take_parts (suc n) (x ∷ xs) ys = ap (λ zs. x ∷ zs) (take_parts n xs ys) ∙ ap (λ k. (x ∷ take n xs) ++ take k ys) (sym (minus_suc n (length xs)))

  take_within : (n : ℕ) (xs : List A) → take n xs ≡ take (min n (length xs)) xs
  take_within n [] = take_none n ∙ sym (take_none (min n 0))
  take_within zero (x ∷ xs) = sym (ap (λ k. take k (x ∷ xs)) (zero_min (length (x ∷ xs))))
  take_within (suc n) (x ∷ xs) = ap (λ zs. x ∷ zs) (take_within n xs) ∙ ap (λ k. take k (x ∷ xs)) (sym (suc-min-suc n (length xs)))

  take_of_take : (n p : ℕ) (xs : List A) → take n (take p xs) ≡ take (min n p) xs
  take_of_take n p [] = ap (take n) (take_none p) ∙ take_none n ∙ sym (take_none (min n p))
  take_of_take zero p (x ∷ xs) = sym (ap (λ k. take k (x ∷ xs)) (zero_min p))
  take_of_take (suc n) zero (x ∷ xs) = sym (ap (λ k. take k (x ∷ xs)) (min_zero (suc n)))
  take_of_take (suc n) (suc p) (x ∷ xs) = ap (λ zs. x ∷ zs) (take_of_take n p xs) ∙ ap (λ k. take k (x ∷ xs)) (sym (suc-min-suc n p))

  taken_at : (xs ys : List A) (p : ℕ) (x : A) → slice_get xs p ≡ Some x → take 1 (drop p xs ++ ys) ≡ x ∷ []
  taken_at [] ys p x h = cc
  taken_at (y ∷ xs) ys zero x h = let same : y ≡ x = cc in ap (λ z. z ∷ []) same
  taken_at (y ∷ xs) ys (suc p) x h = taken_at xs ys p x h

module _ (word : ℕ) where
  pub drawn_at : (ks : List (List ℕ)) (n : ℕ) (x : List ℕ) → n ≡ length ks → slice_get ks (word % n) ≡ Some x → drawn word 1 ks ≡ x ∷ []
  drawn_at ks n x e h = taken_at ks (take (word % length ks) ks) (word % length ks) x (ap (λ k. slice_get ks (word % k)) (sym e) ∙ h)

  pub drawn_nothing : (n : ℕ) → drawn word n [] ≡ []
  drawn_nothing n = ap (take n) (ap (λ xs. xs ++ take (word % 0) []) (drop_none (word % 0)) ∙ take_none (word % 0)) ∙ take_none n

  -- up to the end, and then from the front
  pub drawn_parts : (ks : List (List ℕ)) (n c p : ℕ) → 0 < length ks → p ≡ word % length ks → c ≡ min n (length ks) → take (min c (length ks - p)) (drop p ks) ++ take (c - min c (length ks - p)) ks ≡ drawn word n ks
  drawn_parts ks n c p some is few =
      let within : p < length ks = subst (λ q. q < length ks) (sym is) (mod-lt word some) in
      let rest : length (drop p ks) ≡ length ks - p = length-drop p ks in
      let first : take (min c (length ks - p)) (drop p ks) ≡ take n (drop p ks) = ap (λ k. take k (drop p ks)) (omega (arith, few, within, rest)) ∙ sym (take_within n (drop p ks)) in
      let second : take (c - min c (length ks - p)) ks ≡ take (n - length (drop p ks)) (take p ks) = ap (λ k. take k ks) (omega (arith, few, within, rest)) ∙ sym (take_of_take (n - length (drop p ks)) p ks) in
      ap (λ xs. xs ++ take (c - min c (length ks - p)) ks) first
      ∙ ap (λ ys. take n (drop p ks) ++ ys) second
      ∙ sym (take_parts n (drop p ks) (take p ks))
      ∙ ap (λ q. take n (from_place q ks)) is

-- ---- a loop that takes the next ones
append_one : (xs : List (List ℕ)) (x : List ℕ) (ys : List (List ℕ)) → (xs ++ x ∷ []) ++ ys ≡ xs ++ x ∷ ys
append_one [] x ys = refl
append_one (z ∷ xs) x ys = ap (λ zs. z ∷ zs) (append_one xs x ys)

taken_one : (out ms rest all : List (List ℕ)) (x : List ℕ) (n i : ℕ) → i < n → ms ≡ x ∷ rest → out ++ take (n - i) ms ≡ all → (out ++ x ∷ []) ++ take (n - (i + 1)) rest ≡ all
taken_one out ms rest all x n i h e t =
    append_one out x (take (n - (i + 1)) rest)
    ∙ ap (λ ys. out ++ ys) (let one : suc (n - (i + 1)) ≡ n - i = omega (arith, h) in ap (λ k. take k (x ∷ rest)) one ∙ ap (take (n - i)) (sym e))
    ∙ t

pub taken_none : (out ms rest all : List (List ℕ)) (n i : ℕ) → (ms ≡ []) × (rest ≡ []) → out ++ take (n - i) ms ≡ all → out ++ take (n - (i + 1)) rest ≡ all
taken_none out ms rest all n i e t = ap (λ ys. out ++ ys) (ap (take (n - (i + 1))) e.1 ∙ take_none (n - (i + 1)) ∙ sym (ap (take (n - i)) e.0 ∙ take_none (n - i))) ∙ t

pub taken_next : (items more : List (Bor (List ℕ))) (ms rest all : List (List ℕ)) (x : Bor (List ℕ)) (n i : ℕ) → i < n → ms ≡ x.now ∷ rest → more ≡ items ++ x ∷ [] → lent items ++ take (n - i) ms ≡ all → lent more ++ take (n - (i + 1)) rest ≡ all
taken_next items more ms rest all x n i h e m t =
    ap (λ ys. ys ++ take (n - (i + 1)) rest) (ap lent m ∙ map-append (λ (y : Bor (List ℕ)). y.now) items (x ∷ []))
    ∙ taken_one (lent items) ms rest all x.now n i h e t

-- ---- one member
module _ (word : ℕ) (ks : List (List ℕ)) (n : ℕ) (e : n ≡ length ks) where
  pub one_some : (r : Option (Bor (List ℕ))) → option_copied r ≡ slice_get ks (word % n) → IfSome r (λ x. drawn word 1 ks ≡ x.now ∷ [])
  one_some None h = tt
  one_some (Some x) h = drawn_at word ks n x.now e (sym h)

  pub one_none : (r : Option (Bor (List ℕ))) → 0 < n → option_copied r ≡ slice_get ks (word % n) → IfNone r (drawn word 1 ks ≡ [])
  one_none None some h =
      let within : word % n < length ks = subst (λ k. word % n < k) e (mod-lt word some) in
      let there = slice_get-get_or ks (word % n) [] within in
      absurd (cc)
  one_none (Some x) some h = tt

-- both parts
pub drawn_both : (word : ℕ) (ks : List (List ℕ)) (n len c p a b : ℕ) (none one all : List (List ℕ)) → len ≡ length ks → 0 < len → p ≡ word % len → c ≡ min n len → a ≡ min c (len - p) → b ≡ min c (len - p) → none ≡ [] → one ≡ none ++ take a (drop p ks) → all ≡ one ++ take (c - b) ks → all ≡ drawn word n ks
drawn_both word ks n len c p a b none one all l some is few first second start e f =
    f ∙ ap (λ xs. xs ++ take (c - b) ks) (e ∙ ap (λ xs. xs ++ take a (drop p ks)) start ∙ ap (λ k. take k (drop p ks)) (first ∙ ap (λ k. min c (k - p)) l))
    ∙ ap (λ k. take (min c (length ks - p)) (drop p ks) ++ take (c - k) ks) (second ∙ ap (λ k. min c (k - p)) l)
    ∙ drawn_parts word ks n c p (subst (λ k. 0 < k) l some) (is ∙ ap (λ k. word % k) l) (few ∙ ap (min n) l)
