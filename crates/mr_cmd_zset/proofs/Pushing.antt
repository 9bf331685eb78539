-- Items one after another that go into groups.
use Rattle.std.proofs.Common.{◌≡◌, ℕ, ◌+◌, ◌<◌, ◌≤◌, List, [], ◌∷◌, ◌++◌, map, length, drop, get_or, refl, sym, ◌∙◌, ap, append-nil}
use Rattle.std.specs.List.{flat_map}
use Rattle.std.proofs.Math.ListN.{drop_of_length-le}
use Rattle.std.proofs.lemmas.List.{drop_more}
use Rattle.mr_effect.specs.declared.effect.Effect.{Effect}
use Rattle.mr_keyspace.specs.Cuts.{cut}
use Rattle.mr_cmd_shared.specs.Groups.{TakesItems}

module _ {X Y : Type 0} (effect : List Y → Effect) (items_of : X → List Y) where
  -- the effects with the group and what the rest has are those of what all have
  abbrev pub IsPushing : List X → List Effect → List Effect → List Y → List X → Type 0
  IsPushing all start es group rest = es ++ map effect (cut (group ++ flat_map items_of rest)) ≡ start ++ map effect (cut (flat_map items_of all))

  pub pushing_starts : (all rest : List X) (start : List Effect) (group : List Y) → group ≡ [] → rest ≡ all → IsPushing all start start group rest
  pushing_starts all rest start group none whole = ap (λ g. start ++ map effect (cut (g ++ flat_map items_of rest))) none ∙ ap (λ xs. start ++ map effect (cut (flat_map items_of xs))) whole

  pub pushing_goes : (all rest later : List X) (start es es2 : List Effect) (group group2 : List Y) (x : X) → IsPushing all start es group rest → rest ≡ x ∷ later → TakesItems effect (items_of x) group group2 es es2 → IsPushing all start es2 group2 later
  pushing_goes all rest later start es es2 group group2 x before more takes =
      takes.with_rest (flat_map items_of later) ∙ ap (λ xs. es ++ map effect (cut (group ++ flat_map items_of xs))) (sym more) ∙ before

  pub pushing_ends : (all rest : List X) (start es es2 : List Effect) (group : List Y) → IsPushing all start es group rest → rest ≡ [] → es2 ≡ es ++ map effect (cut group) → es2 ≡ start ++ map effect (cut (flat_map items_of all))
  pushing_ends all rest start es es2 group p none put =
      put ∙ ap (λ g. es ++ map effect (cut g)) (sym (append-nil group)) ∙ ap (λ xs. es ++ map effect (cut (group ++ flat_map items_of xs))) (sym none) ∙ p

  -- .. with a list that is gone through from place to place
  pub pushing_next : (all : List X) (i : ℕ) (d : X) (start es es2 : List Effect) (group group2 : List Y) → IsPushing all start es group (drop i all) → i < length all → TakesItems effect (items_of (get_or all i d)) group group2 es es2 → IsPushing all start es2 group2 (drop (i + 1) all)
  pushing_next all i d start es es2 group group2 before here takes = pushing_goes all (drop i all) (drop (i + 1) all) start es es2 group group2 (get_or all i d) before (drop_more all i d here) takes

  pub pushing_done : (all : List X) (i : ℕ) (start es es2 : List Effect) (group : List Y) → IsPushing all start es group (drop i all) → length all ≤ i → es2 ≡ es ++ map effect (cut group) → es2 ≡ start ++ map effect (cut (flat_map items_of all))
  pushing_done all i start es es2 group before end put = pushing_ends all (drop i all) start es es2 group before (drop_of_length-le all end) put

-- each item by itself
pub flat_names : {X Y : Type 0} (f : X → Y) (xs : List X) → flat_map (λ x. f x ∷ []) xs ≡ map f xs
flat_names f [] = refl
flat_names f (x ∷ xs) = ap (λ ys. f x ∷ ys) (flat_names f xs)
