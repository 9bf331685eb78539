-- The members of several sets are among those of the smallest.
use Rattle.std.proofs.Common.{◌≡◌, ℕ, zero, suc, ◌+◌, ◌<◌, ◌≤◌, List, [], ◌∷◌, get_or, length, Bool, true, false, ◌&&◌, cond, not, Option, Some, None, refl, sym, ◌∙◌, ap, arith}
use Rattle.std.specs.Prelude.{◌||◌, filter, is_some}
use Rattle.std.specs.List.{All, Contains, SwappedAt, list_all, list_any}
use Rattle.std.specs.List.Sorted.{IsPermutation}
use Rattle.std.specs.Borrow.{Bor}
use Rattle.std.specs.FinMap.{get, contains_key, keys, retain_keys, get-retain_keys, same_map}
use Rattle.std.proofs.lemmas.Cmp.{nat_list_cmp_total}
use Rattle.std.proofs.lemmas.List.{get_or_default}
use Rattle.std.proofs.lemmas.List.Elements.{All-nil, All-cons, All-contains}
use Rattle.std.proofs.lemmas.List.Sorted.{IsPermutation-map, IsPermutation-sym, Contains-permutation, length_permutation, list_any-IsPermutation}
use Rattle.std.proofs.lemmas.Map.Lookups.{exact_bytes}
use Rattle.mr_bytes.proofs.Both.{second, first}
use Rattle.mr_map.specs.Bytes.{Bytes}
use Rattle.mr_cmd_set.specs.declared.set_ask.SetOperation.TheVariants as operation
use Rattle.mr_cmd_set.specs.Members.{Members}
use Rattle.mr_cmd_set.specs.Grouping.{members_of, agrees, is_wanted}
use Rattle.mr_cmd_set.specs.Combining.{of_all, combined}
use Rattle.mr_cmd_set.proofs.Combinations.{alike, keys_retain, wanted_members}

-- ---- a least of some values, put in front of the others by swaps
one_of : (k n : ℕ) → k < n + 1 → {P : Type 0} → (k ≡ n → P) → (k < n → P) → P
one_of zero zero h f g = f refl
one_of zero (suc n) h f g = g (omega arith)
one_of (suc k) zero h f g = absurd (omega (arith, h))
one_of (suc k) (suc n) h f g = one_of k n (omega (arith, h)) (λ e. f (ap suc e)) (λ l. g (omega (arith, l)))

module _ {X : Type 0} (size : X → ℕ) where
  -- the first is no larger than each of the first n
  abbrev pub IsLeastFirst : ℕ → List X → Type 0
  IsLeastFirst n xs = (k : ℕ) (d : X) → k < n → size (get_or xs 0 d) ≤ size (get_or xs k d)

  module _ (xs : List X) (n : ℕ) (x first : X) (some : 0 < n) (here : n < length xs) (at : x ≡ get_or xs n x) (front : first ≡ get_or xs 0 first) (before : IsLeastFirst n xs) where
    at_place : (d : X) → size (get_or xs n d) ≡ size x
    at_place d = ap size (get_or_default xs n d x here ∙ sym at)

    in_front : (d : X) → size (get_or xs 0 d) ≡ size first
    in_front d = ap size (get_or_default xs 0 d first (omega (arith, here)) ∙ sym front)

    pub least_kept : size first ≤ size x → IsLeastFirst (n + 1) xs
    least_kept h k d below = one_of k n below
        (λ same. let is : size (get_or xs k d) ≡ size x = ap (λ (i : ℕ). size (get_or xs i d)) same ∙ at_place d in omega (arith, h, is, in_front d))
        (before k d)

    pub least_swapped : (ys : List X) → SwappedAt xs ys 0 n → size x < size first → IsLeastFirst (n + 1) ys
    least_swapped ys swapped h k d below = one_of k n below
        (λ same. let is : size (get_or ys k d) ≡ size first = ap (λ (i : ℕ). size (get_or ys i d)) same ∙ ap size (swapped.1 d) ∙ in_front d in omega (arith, h, is, first_is))
        (others k)
      where
        first_is : size (get_or ys 0 d) ≡ size x
        first_is = ap size (swapped.0 d) ∙ at_place d

        others : (k : ℕ) → k < n → size (get_or ys 0 d) ≤ size (get_or ys k d)
        others zero less = omega arith
        others (suc j) less =
            let is : size (get_or ys (suc j) d) ≡ size (get_or xs (suc j) d) = ap size (swapped.2 (suc j) d (λ z. omega (arith, z)) (λ z. omega (arith, z, less))) in
            omega (arith, h, first_is, in_front d, is, before (suc j) d less)

-- ---- the members of all, from any of them
both : (a b : Option (Unit {0})) (p q : Bool) → (is_some a && p) ≡ (is_some b && q) → cond p a None ≡ cond q b None
both a b false false h = refl
both a None false true h = refl
both None (Some v) false true h = cc
both (Some u) (Some v) false true h = cc
both None b true false h = refl
both (Some u) None true false h = cc
both (Some u) (Some v) true false h = cc
both None None true true h = refl
both None (Some v) true true h = cc
both (Some u) None true true h = cc
both (Some u) (Some v) true true h = refl

same_kept : (p q : Bytes → Bool) (s t : Members) → ((x : Bytes) → (contains_key s x && p x) ≡ (contains_key t x && q x)) → filter p (keys s) ≡ filter q (keys t)
same_kept p q s t h =
    let same : retain_keys s p ≡ retain_keys t q = same_map nat_list_cmp_total exact_bytes _ _ (λ x.
    get-retain_keys s p x (alike p x) ∙ both (get s x) (get t x) (p x) (q x) (h x) ∙ sym (get-retain_keys t q x (alike q x))) in
    sym (keys_retain p s) ∙ ap keys same ∙ keys_retain q t

in_each : (x : Bytes) (ss : List (Bor Members)) → is_wanted true ss x ≡ true → All (λ (s : Members). contains_key s x ≡ true) (members_of ss)
in_each x [] h = All-nil (λ (s : Members). contains_key s x ≡ true)
in_each x (s ∷ ss) h = All-cons (λ (s : Members). contains_key s x ≡ true) s.now (members_of ss) (first (contains_key s.now x) (is_wanted true ss x) h) (in_each x ss (second (contains_key s.now x) (is_wanted true ss x) h))

implied : (a b : Bool) → (b ≡ true → a ≡ true) → (a && b) ≡ b
implied true b h = refl
implied false true h = h refl
implied false false h = refl

pub members_from_one : (s : Bor Members) (ss : List (Bor Members)) (t : Members) → Contains (members_of (s ∷ ss)) t → filter (is_wanted true (s ∷ ss)) (keys t) ≡ keys (of_all operation.Intersection s.now (members_of ss))
members_from_one s ss t one =
    same_kept (is_wanted true (s ∷ ss)) (is_wanted true ss) t s.now (λ x. implied (contains_key t x) (is_wanted true (s ∷ ss) x) (λ h. All-contains (λ (u : Members). contains_key u x ≡ true) (members_of (s ∷ ss)) t (in_each x (s ∷ ss) h) one))
    ∙ sym (wanted_members true ss s.now)

-- ---- in whichever order the sets stand
filter_alike : (p q : Bytes → Bool) → ((x : Bytes) → p x ≡ q x) → (xs : List Bytes) → filter p xs ≡ filter q xs
filter_alike p q h [] = refl
filter_alike p q h (x ∷ xs) = ap (λ b. cond b (x ∷ filter p xs) (filter p xs)) (h x) ∙ ap (λ (ys : List Bytes). cond (q x) (x ∷ ys) ys) (filter_alike p q h xs)

none_lacks : (p : Bor Members → Bool) (ss : List (Bor Members)) → list_all p ss ≡ not (list_any (λ s. not (p s)) ss)
none_lacks p [] = refl
none_lacks p (s ∷ ss) = elim (p s) as (λ b. (b && list_all p ss) ≡ not (not b || list_any (λ s. not (p s)) ss)) [ true ↦ none_lacks p ss | false ↦ refl ]

wanted_anyhow : (xs ys : List (Bor Members)) (x : Bytes) → IsPermutation xs ys → is_wanted true ys x ≡ is_wanted true xs x
wanted_anyhow xs ys x moved =
    let p : Bor Members → Bool = λ s. agrees true s.now x in
    none_lacks p ys ∙ ap not (sym (list_any-IsPermutation (λ s. not (p s)) xs ys moved)) ∙ sym (none_lacks p xs)

pub common_anyhow : (xs ys : List (Bor Members)) → IsPermutation xs ys → keys (combined operation.Intersection (members_of ys)) ≡ keys (combined operation.Intersection (members_of xs))
common_anyhow [] [] moved = refl
common_anyhow [] (t ∷ ts) moved = absurd (omega (arith, length_permutation [] (t ∷ ts) moved))
common_anyhow (s ∷ ss) [] moved = absurd (omega (arith, length_permutation (s ∷ ss) [] moved))
common_anyhow (s ∷ ss) (t ∷ ts) moved =
    let here : Contains (members_of (t ∷ ts)) t.now = (0, omega arith, refl) in
    let there : Contains (members_of (s ∷ ss)) t.now = Contains-permutation (members_of (t ∷ ts)) (members_of (s ∷ ss)) t.now (IsPermutation-sym (members_of (s ∷ ss)) (members_of (t ∷ ts)) (IsPermutation-map (λ (u : Bor Members). u.now) (s ∷ ss) (t ∷ ts) moved)) here in
    sym (members_from_one t ts t.now here)
    ∙ filter_alike (is_wanted true (t ∷ ts)) (is_wanted true (s ∷ ss)) (λ x. wanted_anyhow (s ∷ ss) (t ∷ ts) x moved) (keys t.now)
    ∙ members_from_one s ss t.now there
