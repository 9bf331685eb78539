-- Requests that wait.
use Rattle.std.proofs.Common.{◌≡◌, List, [], ◌∷◌, ◌++◌, map, ap, sym, subst, ◌∙◌, All}
use Rattle.std.proofs.lemmas.List.{map-append}
use Rattle.std.proofs.lemmas.List.Elements.{All-nil, All-cons, All-append}

-- one more is one more among their texts
pub all_more : {A B : Type 0} (P : B → Type 0) (f : A → B) (xs ys : List A) (x : A) → ys ≡ xs ++ x ∷ [] → All P (map f xs) → P (f x) → All P (map f ys)
all_more P f xs ys x is all one =
    subst (All P) (sym (ap (map f) is ∙ map-append f xs (x ∷ []))) (All-append P (map f xs) (f x ∷ []) all (All-cons P (f x) [] one (All-nil P)))
