-- Fields one after another: those that pass go into groups, and some are counted.
use Rattle.std.proofs.Common.{ℕ, suc, ◌≡◌, ◌+◌, ◌-◌, List, [], ◌∷◌, ◌++◌, map, length, Bool, true, false, not, cond, refl, sym, ◌∙◌, ap, append-nil, arith}
use Rattle.std.specs.Prelude.{filter, if◌then◌else◌, Option, Some, None, is_some, option_copied}
use Rattle.std.specs.Int.{from_bool}
use Rattle.std.specs.Borrow.{Bor}
use Rattle.mr_effect.specs.declared.effect.Effect.{Effect}
use Rattle.mr_keyspace.specs.Cuts.{cut}
use Rattle.mr_cmd_shared.specs.Groups.{TakesItems}

-- whether a look-up found something
pub is_some-copied : {X : Type 0} (o : Option (Bor X)) → is_some o ≡ is_some (option_copied o)
is_some-copied None = refl
is_some-copied (Some x) = refl

filter_counted : {X : Type 0} (p : X → Bool) (x : X) (xs : List X) → length (filter p (x ∷ xs)) ≡ cond (p x) 1 0 + length (filter p xs)
filter_counted p x xs = elim (p x) as (λ b. length (cond b (x ∷ filter p xs) (filter p xs)) ≡ cond b 1 0 + length (filter p xs)) [
  | true ↦ omega arith
  | false ↦ omega arith
]

one_more : (b : Bool) (l m n : ℕ) → l ≡ m + n → suc l ≡ (cond (not b) 1 0 + m) + (cond b 1 0 + n)
one_more true l m n h = omega (arith, h)
one_more false l m n h = omega (arith, h)

counted : {X : Type 0} (p : X → Bool) (xs : List X) → length xs ≡ length (filter (λ x. not (p x)) xs) + length (filter p xs)
counted p [] = refl
counted p (x ∷ xs) =
    one_more (p x) (length xs) _ _ (counted p xs)
    ∙ ap (λ n. n + (cond (p x) 1 0 + length (filter p xs))) (sym (filter_counted (λ y. not (p y)) x xs))
    ∙ ap (λ n. length (filter (λ y. not (p y)) (x ∷ xs)) + n) (sym (filter_counted p x xs))

one_less : (b : Bool) (n m l : ℕ) → n ≡ m + (cond b 1 0 + l) → n - from_bool b ≡ m + l
one_less true n m l h = omega (arith, h)
one_less false n m l h = omega (arith, h)

-- what is left of an item by a test that it is to fail
filter_more : {X : Type 0} (p : X → Bool) (x : X) (xs : List X) → filter (λ y. not (p y)) (x ∷ xs) ≡ (if p x then [] else x ∷ []) ++ filter (λ y. not (p y)) xs
filter_more p x xs = elim (p x) as (λ b. cond (not b) (x ∷ filter (λ y. not (p y)) xs) (filter (λ y. not (p y)) xs) ≡ (if b then [] else x ∷ []) ++ filter (λ y. not (p y)) xs) [
  | true ↦ refl
  | false ↦ refl
]

module _ {X : Type 0} (effect : List X → Effect) (skipped known : X → Bool) where
  -- so many are not known, once the rest is seen; the effects with the group and the rest are those of all that are not skipped
  pub record IsPushing (all : List X) (start es : List Effect) (new : ℕ) (group rest : List X) : Type 0 where
    pub new_is : new ≡ length (filter (λ x. not (known x)) all) + length (filter known rest)
    pub effects_are : es ++ map effect (cut (group ++ filter (λ x. not (skipped x)) rest)) ≡ start ++ map effect (cut (filter (λ x. not (skipped x)) all))

  pub pushing_starts : (all group rest : List X) (start : List Effect) (n : ℕ) → n ≡ length all → group ≡ [] → rest ≡ all → IsPushing all start start n group rest
  pushing_starts all group rest start n len empty whole = record {
    new_is = len ∙ counted known all ∙ ap (λ xs. length (filter (λ x. not (known x)) all) + length (filter known xs)) (sym whole);
    effects_are = ap (λ g. start ++ map effect (cut (g ++ filter (λ x. not (skipped x)) rest))) empty ∙ ap (λ xs. start ++ map effect (cut (filter (λ x. not (skipped x)) xs))) whole;
  }

  pub pushing_goes : (all : List X) (start es es2 : List Effect) (n : ℕ) (group group2 rest rest2 : List X) (x : X) (b : Bool) → IsPushing all start es n group rest → rest ≡ x ∷ rest2 → b ≡ known x → TakesItems effect (if skipped x then [] else x ∷ []) group group2 es es2 → IsPushing all start es2 (n - from_bool b) group2 rest2
  pushing_goes all start es es2 n group group2 rest rest2 x b before more is takes = record {
    new_is = ap (λ c. n - from_bool c) is ∙ one_less (known x) n _ (length (filter known rest2)) (before.new_is ∙ ap (λ xs. length (filter (λ x. not (known x)) all) + length (filter known xs)) more ∙ ap (λ m. length (filter (λ x. not (known x)) all) + m) (filter_counted known x rest2));
    effects_are = takes.with_rest (filter (λ x. not (skipped x)) rest2)
        ∙ ap (λ xs. es ++ map effect (cut (group ++ xs))) (sym (filter_more skipped x rest2))
        ∙ ap (λ xs. es ++ map effect (cut (group ++ filter (λ x. not (skipped x)) xs))) (sym more)
        ∙ before.effects_are;
  }

  pub pushed_new : (all : List X) (start es : List Effect) (n : ℕ) (group rest : List X) → IsPushing all start es n group rest → rest ≡ [] → n ≡ length (filter (λ x. not (known x)) all)
  pushed_new all start es n group rest p none = let e : n ≡ length (filter (λ x. not (known x)) all) + 0 = p.new_is ∙ ap (λ xs. length (filter (λ x. not (known x)) all) + length (filter known xs)) none in omega (arith, e)

  pub pushed_effects : (all : List X) (start es es2 : List Effect) (n : ℕ) (group rest : List X) → IsPushing all start es n group rest → rest ≡ [] → es2 ≡ es ++ map effect (cut group) → es2 ≡ start ++ map effect (cut (filter (λ x. not (skipped x)) all))
  pushed_effects all start es es2 n group rest p none put =
      put ∙ ap (λ g. es ++ map effect (cut g)) (sym (append-nil group)) ∙ ap (λ xs. es ++ map effect (cut (group ++ filter (λ x. not (skipped x)) xs))) (sym none) ∙ p.effects_are

not_not : (b : Bool) → not (not b) ≡ b
not_not true = refl
not_not false = refl

-- what does not fail a test passes it
pub filter_passing : {X : Type 0} (p : X → Bool) (xs : List X) → filter (λ x. not (not (p x))) xs ≡ filter p xs
filter_passing p [] = refl
filter_passing p (x ∷ xs) = ap (λ b. cond b (x ∷ filter (λ y. not (not (p y))) xs) (filter (λ y. not (not (p y))) xs)) (not_not (p x)) ∙ ap (λ ys. cond (p x) (x ∷ ys) ys) (filter_passing p xs)

-- an item that is taken where the test passes
pub taken_passing : {X : Type 0} (effect : List X → Effect) (x : X) (b : Bool) (g g2 : List X) (es es2 : List Effect) → TakesItems effect (if b then x ∷ [] else []) g g2 es es2 → TakesItems effect (if not b then [] else x ∷ []) g g2 es es2
taken_passing effect x true g g2 es es2 t = t
taken_passing effect x false g g2 es es2 t = t
