-- Items in groups.
use Rattle.std.proofs.Common.{ℕ, zero, suc, ◌≤◌, ◌≡◌, List, [], ◌∷◌, ◌++◌, length, take, drop, Bool, true, ◌&&◌, refl, sym, ◌∙◌, ap, arith}
use Rattle.std.specs.Prelude.{◌≢◌, IsTrue}
use Rattle.std.specs.List.{AllByRecursion, flat_map, list_all}
use Rattle.std.proofs.lemmas.List.{length-drop, length-take, take-append-drop}
use Rattle.std.proofs.lemmas.List.Folds.{list_all-append}
use Rattle.mr_bytes.proofs.Both.{first, second}
use Rattle.mr_keyspace.specs.Cuts.{most_items, groups, cut}

never : (n : ℕ) → suc n ≤ zero → ⊥
never n h = omega (arith, h)

module _ {X : Type 0} where
  no_groups : (n : ℕ) → groups {X = X} n [] ≡ []
  no_groups zero = refl
  no_groups (suc n) = refl

  fewer : (n : ℕ) (x : X) (xs : List X) → length (x ∷ xs) ≤ suc n → length (drop most_items (x ∷ xs)) ≤ n
  fewer n x xs h = omega (arith, length-drop most_items (x ∷ xs), h)

  -- more turns than needed change nothing
  enough : (n m : ℕ) (xs : List X) → length xs ≤ n → length xs ≤ m → groups n xs ≡ groups m xs
  enough n m [] h i = no_groups n ∙ sym (no_groups m)
  enough zero m (x ∷ xs) h i = absurd (never (length xs) h)
  enough (suc n) zero (x ∷ xs) h i = absurd (never (length xs) i)
  enough (suc n) (suc m) (x ∷ xs) h i = ap (λ gs. take most_items (x ∷ xs) ∷ gs) (enough n m (drop most_items (x ∷ xs)) (fewer n x xs h) (fewer m x xs i))

  -- the first group, and those of the rest
  pub cut_more : (x : X) (xs : List X) → cut (x ∷ xs) ≡ take most_items (x ∷ xs) ∷ cut (drop most_items (x ∷ xs))
  cut_more x xs = ap (λ gs. take most_items (x ∷ xs) ∷ gs) (enough (length xs) (length (drop most_items (x ∷ xs))) (drop most_items (x ∷ xs)) (fewer (length xs) x xs (omega arith)) (omega arith))

  -- no item is lost
  joined : (n : ℕ) (xs : List X) → length xs ≤ n → flat_map (λ g. g) (groups n xs) ≡ xs
  joined n [] h = ap (flat_map (λ g. g)) (no_groups n)
  joined zero (x ∷ xs) h = absurd (never (length xs) h)
  joined (suc n) (x ∷ xs) h = ap (λ ys. take most_items (x ∷ xs) ++ ys) (joined n (drop most_items (x ∷ xs)) (fewer n x xs h)) ∙ take-append-drop most_items (x ∷ xs)

  pub cut_whole : (xs : List X) → flat_map (λ g. g) (cut xs) ≡ xs
  cut_whole xs = joined (length xs) xs (omega arith)

  pub no_cut : (xs : List X) → cut xs ≡ [] → xs ≡ []
  no_cut xs h = sym (cut_whole xs) ∙ ap (flat_map (λ g. g)) h

  -- each group has an item and not too many, and each of its items is one of the whole
  pub record IsGroup (p : X → Bool) (g : List X) : Type 0 where
    pub some : g ≢ []
    pub few : length g ≤ most_items
    pub all : IsTrue (list_all p g)

  parts_all : (p : X → Bool) (n : ℕ) (xs : List X) → IsTrue (list_all p xs) → list_all p (take n xs) && list_all p (drop n xs) ≡ true
  parts_all p n xs h = sym (list_all-append p (take n xs) (drop n xs)) ∙ ap (list_all p) (take-append-drop n xs) ∙ h

  are_groups : (p : X → Bool) (n : ℕ) (xs : List X) → IsTrue (list_all p xs) → AllByRecursion (IsGroup p) (groups n xs)
  are_groups p zero xs h = tt
  are_groups p (suc n) [] h = tt
  are_groups p (suc n) (x ∷ xs) h = (record { some = λ e. cc; few = omega (arith, length-take most_items (x ∷ xs)); all = first _ _ (parts_all p most_items (x ∷ xs) h) }, are_groups p n (drop most_items (x ∷ xs)) (second _ _ (parts_all p most_items (x ∷ xs) h)))

  pub cut_groups : (p : X → Bool) (xs : List X) → IsTrue (list_all p xs) → AllByRecursion (IsGroup p) (cut xs)
  cut_groups p xs h = are_groups p (length xs) xs h
