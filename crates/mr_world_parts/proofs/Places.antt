-- What stands at a place of a list, and lists that were changed at one.
use Rattle.std.proofs.Common.{zero, suc, ◌≡◌, ◌<◌, ◌∙◌, ℕ, List, [], ◌∷◌, Some, length, map, get_or, refl, sym, ap}
use Rattle.std.specs.Prelude.{slice_get, slice_set}
use Rattle.std.proofs.lemmas.Option.{slice_get-get_or}

pub stands : {A : Type 0} (xs : List A) (i : ℕ) (x : A) → i < length xs → x ≡ get_or xs i x → slice_get xs i ≡ Some x
stands xs i x h r = slice_get-get_or xs i x h ∙ ap (λ z. Some z) (sym r)

pub set_twice : {A : Type 0} (xs : List A) (i : ℕ) (x y : A) → slice_set (slice_set xs i x) i y ≡ slice_set xs i y
set_twice [] i x y = refl
set_twice (z ∷ xs) zero x y = refl
set_twice (z ∷ xs) (suc i) x y = ap (λ q. z ∷ q) (set_twice xs i x y)

pub map_set : {A : Type 0} (f : A → A) (xs : List A) (i : ℕ) (x : A) → map f (slice_set xs i x) ≡ slice_set (map f xs) i (f x)
map_set f [] i x = refl
map_set f (z ∷ xs) zero x = refl
map_set f (z ∷ xs) (suc i) x = ap (λ q. f z ∷ q) (map_set f xs i x)
