-- What changes in a list is what changes in the map from its places.
use Rattle.std.proofs.Common.{ℕ, zero, suc, List, [], ◌∷◌, ◌++◌, ◌≡◌, ◌≢◌, None, Some, length, map, refl, ap}
use Rattle.law_protocol.specs.Changes.{SetAt}
use Rattle.law_protocol_example.specs.Looks.{look}

-- the list with another item at a place
abbrev pub put : {A : Type 0} → ℕ → A → List A → List A
put n x [] = []
put zero x (y ∷ ys) = x ∷ ys
put (suc n) x (y ∷ ys) = y ∷ put n x ys

here : {A : Type 0} (xs : List A) (n : ℕ) (old x : A) → look xs n ≡ Some old → look (put n x xs) n ≡ Some x
here [] n old x e = absurd (cc)
here (y ∷ ys) zero old x e = refl
here (y ∷ ys) (suc n) old x e = here ys n old x e

elsewhere : {A : Type 0} (xs : List A) (n : ℕ) (x : A) (m : ℕ) → m ≢ n → look (put n x xs) m ≡ look xs m
elsewhere [] n x m h = refl
elsewhere (y ∷ ys) zero x zero h = absurd (h refl)
elsewhere (y ∷ ys) zero x (suc m) h = refl
elsewhere (y ∷ ys) (suc n) x zero h = refl
elsewhere (y ∷ ys) (suc n) x (suc m) h = elsewhere ys n x m (λ e. h (ap (λ z. suc z) e))

-- another item at a place where there is one
pub changed : {A : Type 0} (xs : List A) (n : ℕ) (old x : A) → look xs n ≡ Some old → SetAt (look xs) (look (put n x xs)) n x
changed xs n old x e = (here xs n old x e, λ m h. elsewhere xs n x m h)

at_end : {A : Type 0} (xs : List A) (x : A) → look (xs ++ x ∷ []) (length xs) ≡ Some x
at_end [] x = refl
at_end (y ∷ ys) x = at_end ys x

not_at_end : {A : Type 0} (xs : List A) (x : A) (m : ℕ) → m ≢ length xs → look (xs ++ x ∷ []) m ≡ look xs m
not_at_end [] x zero h = absurd (h refl)
not_at_end [] x (suc m) h = refl
not_at_end (y ∷ ys) x zero h = refl
not_at_end (y ∷ ys) x (suc m) h = not_at_end ys x m (λ e. h (ap (λ z. suc z) e))

-- one more item
pub added : {A : Type 0} (xs : List A) (x : A) → SetAt (look xs) (look (xs ++ x ∷ [])) (length xs) x
added xs x = (at_end xs x, λ m h. not_at_end xs x m h)

-- the same change at all places
pub each_none : {A : Type 0} (f : A → A) (xs : List A) (j : ℕ) → look xs j ≡ None → look (map f xs) j ≡ None
each_none f [] j e = refl
each_none f (y ∷ ys) zero e = absurd (cc)
each_none f (y ∷ ys) (suc j) e = each_none f ys j e

pub each_some : {A : Type 0} (f : A → A) (xs : List A) (j : ℕ) (x : A) → look xs j ≡ Some x → look (map f xs) j ≡ Some (f x)
each_some f [] j x e = absurd (cc)
each_some f (y ∷ ys) zero x e = let same : y ≡ x = cc in ap (λ z. Some (f z)) same
each_some f (y ∷ ys) (suc j) x e = each_some f ys j x e
