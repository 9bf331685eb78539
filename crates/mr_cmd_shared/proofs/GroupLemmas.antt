-- A group of items grows, and goes into an effect when it is full.
use Rattle.std.proofs.Common.{ℕ, ◌≡◌, ◌≤◌, List, [], ◌∷◌, ◌++◌, map, length, take, drop, refl, sym, ◌∙◌, ap, append_assoc, append-nil, arith}
use Rattle.std.specs.Prelude.{◌≢◌, ◌==◌, false, Result, Ok, Err, OnOk}
use Rattle.std.proofs.Math.Seq.{take-append_seam, drop-append_seam}
use Rattle.std.proofs.Math.ListN.{drop_of_length-le}
use Rattle.std.proofs.lemmas.List.{take_all}
use Rattle.mr_effect.specs.declared.effect.Effect.{Effect}
use Rattle.mr_keyspace.specs.Cuts.{most_items, cut}
use Rattle.mr_keyspace.proofs.Cutting.{cut_more}
use Rattle.mr_cmd_shared.specs.Groups.{TakesItems}

not_full : (n : ℕ) → n ≡ 0 → n ≡ most_items → ⊥
not_full n a b = omega (arith, a, b)

pub no_map : {A B : Type 0} (f : A → B) (xs : List A) → map f xs ≡ [] → xs ≡ []
no_map f [] h = refl
no_map f (x ∷ xs) h = cc

module _ {X : Type 0} where
  -- a full group in front is the first of all
  cut_full : (g rest : List X) → length g ≡ most_items → cut (g ++ rest) ≡ g ∷ cut rest
  cut_full [] rest h = absurd (not_full (length {A = X} []) refl h)
  cut_full (x ∷ xs) rest h =
      cut_more x (xs ++ rest)
      ∙ ap (λ a. a ∷ cut (drop most_items (x ∷ xs ++ rest))) (ap (λ n. take n (x ∷ xs ++ rest)) (sym h) ∙ take-append_seam (x ∷ xs) rest)
      ∙ ap (λ b. (x ∷ xs) ∷ cut b) (ap (λ n. drop n (x ∷ xs ++ rest)) (sym h) ∙ drop-append_seam (x ∷ xs) rest)

  one_group : (g : List X) → g ≢ [] → length g ≤ most_items → cut g ≡ g ∷ []
  one_group [] n h = absurd (n refl)
  one_group (x ∷ xs) n h =
      cut_more x xs
      ∙ ap (λ a. a ∷ cut (drop most_items (x ∷ xs))) (take_all most_items (x ∷ xs) h)
      ∙ ap (λ b. (x ∷ xs) ∷ cut b) (drop_of_length-le (x ∷ xs) h)

module _ {X : Type 0} (effect : List X → Effect) where
  pub takes_more : (x : X) (g g2 : List X) (es es2 : List Effect) → g2 ≡ g ++ x ∷ [] → es2 ≡ es → TakesItems effect (x ∷ []) g g2 es es2
  takes_more x g g2 es es2 more same = record {
    with_rest = λ rest. ap (λ fs. fs ++ map effect (cut (g2 ++ rest))) same ∙ ap (λ ys. es ++ map effect (cut (ys ++ rest))) more ∙ ap (λ ys. es ++ map effect (cut ys)) (append_assoc g (x ∷ []) rest);
  }

  pub takes_first : (x : X) (g g2 : List X) (es es2 : List Effect) → length g ≡ most_items → g2 ≡ x ∷ [] → es2 ≡ es ++ effect g ∷ [] → TakesItems effect (x ∷ []) g g2 es es2
  takes_first x g g2 es es2 full first put = record {
    with_rest = λ rest.
        ap (λ fs. fs ++ map effect (cut (g2 ++ rest))) put ∙ ap (λ ys. (es ++ effect g ∷ []) ++ map effect (cut (ys ++ rest))) first
        ∙ append_assoc es (effect g ∷ []) (map effect (cut (x ∷ rest)))
        ∙ ap (λ gs. es ++ map effect gs) (sym (cut_full g (x ∷ rest) full));
  }

  last_group : (g : List X) (es es2 : List Effect) → g ≢ [] → length g ≤ most_items → es2 ≡ es ++ effect g ∷ [] → es2 ≡ es ++ map effect (cut g)
  last_group g es es2 some room put = put ∙ ap (λ gs. es ++ map effect gs) (sym (one_group g some room))

  some_items : (g : List X) → (length g == 0) ≡ false → g ≢ []
  some_items [] h = λ e. cc
  some_items (x ∷ xs) h = λ e. cc

  pub last_put : {E : Type 0} (r : Result (Unit {0}) E) (g : List X) (es es2 : List Effect) → (length g == 0) ≡ false → length g ≤ most_items → OnOk r (es2 ≡ es ++ effect g ∷ []) → OnOk r (es2 ≡ es ++ map effect (cut g))
  last_put (Ok x) g es es2 some room put = last_group g es es2 (some_items g some) room put
  last_put (Err e) g es es2 some room put = tt

  -- items that are taken into no group before them
  pub alone : (items none group : List X) (es es1 es2 : List Effect) → none ≡ [] → TakesItems effect items none group es es1 → es2 ≡ es1 ++ map effect (cut group) → es2 ≡ es ++ map effect (cut items)
  alone items none group es es1 es2 start t put =
      put ∙ ap (λ g. es1 ++ map effect (cut g)) (sym (append-nil group)) ∙ t.with_rest []
      ∙ ap (λ g. es ++ map effect (cut (g ++ (items ++ [])))) start ∙ ap (λ xs. es ++ map effect (cut xs)) (append-nil items)
