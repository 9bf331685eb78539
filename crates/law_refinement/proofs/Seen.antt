-- What changes of a world is what changes of the one of histories.
use Rattle.std.proofs.Common.{◌≡◌, ◌≢◌, ◌+◌, ◌-◌, ℕ, List, [], ◌∷◌, ◌++◌, Option, None, Some, length, refl, ap, ◌∙◌, arith}
use Rattle.std.specs.Prelude.{slice_get, slice_set}
use Rattle.std.specs.Option.{option_map}
use Rattle.law_protocol.specs.Changes.{SetAt}
use Rattle.law_refinement.specs.Way.{WayState, IsWay, sent_on, taken_on}
use Rattle.law_refinement.specs.Seeing.{seen_way}
use Rattle.law_refinement.proofs.Places.{set_here, set_there, push_here, push_there, push_none}
use Rattle.law_refinement.proofs.Unread.{drop_front}

module _ {A B : Type 0} (f : A → B) where
  pub put_at : (xs : List A) (i : ℕ) (x y : A) → slice_get xs i ≡ Some y → SetAt (λ m. option_map f (slice_get xs m)) (λ m. option_map f (slice_get (slice_set xs i x) m)) i (f x)
  put_at xs i x y e = (ap (option_map f) (set_here xs i x y e), λ m ne. ap (option_map f) (set_there xs i m x ne))

  pub push_at : (xs : List A) (x : A) → SetAt (λ m. option_map f (slice_get xs m)) (λ m. option_map f (slice_get (xs ++ x ∷ []) m)) (length xs) (f x)
  push_at xs x = (ap (option_map f) (push_here xs x), λ m ne. ap (option_map f) (push_there xs x m ne))

  pub none_at_end : (xs : List A) → option_map f (slice_get xs (length xs)) ≡ None
  none_at_end xs = ap (option_map f) (push_none xs)

  -- what is seen is there
  pub is_seen : (o : Option A) (y : B) → option_map f o ≡ Some y → (x : A) × (o ≡ Some x) × (f x ≡ y)
  is_seen None y e = absurd (cc)
  is_seen (Some x) y e = (x, refl, cc)

-- .. and as what else it is seen where it is another at one place, and the same is seen of the others
module _ {A B : Type 0} (f g : A → B) where
  pub same_each : (xs : List A) → ((j : ℕ) (x : A) → slice_get xs j ≡ Some x → g x ≡ f x) → (j : ℕ) → option_map g (slice_get xs j) ≡ option_map f (slice_get xs j)
  same_each xs same j = go (slice_get xs j) refl
    where
      go : (o : Option A) → slice_get xs j ≡ o → option_map g o ≡ option_map f o
      go None e = refl
      go (Some x) e = ap (λ z. Some z) (same j x e)

  others_same : (xs : List A) (i : ℕ) (x : A) → ((j : ℕ) (z : A) → j ≢ i → slice_get xs j ≡ Some z → g z ≡ f z) → (j : ℕ) → j ≢ i → option_map g (slice_get (slice_set xs i x) j) ≡ option_map f (slice_get xs j)
  others_same xs i x same j ne = ap (option_map g) (set_there xs i j x ne) ∙ go (slice_get xs j) refl
    where
      go : (o : Option A) → slice_get xs j ≡ o → option_map g o ≡ option_map f o
      go None e = refl
      go (Some z) e = ap (λ z. Some z) (same j z ne e)

  pub put_by : (xs : List A) (i : ℕ) (x y : A) → slice_get xs i ≡ Some y → ((j : ℕ) (z : A) → j ≢ i → slice_get xs j ≡ Some z → g z ≡ f z)
      → SetAt (λ m. option_map f (slice_get xs m)) (λ m. option_map g (slice_get (slice_set xs i x) m)) i (g x)
  put_by xs i x y e same = (ap (option_map g) (set_here xs i x y e), others_same xs i x same)

  pub push_by : (xs : List A) (x : A) → ((j : ℕ) (z : A) → slice_get xs j ≡ Some z → g z ≡ f z) → SetAt (λ m. option_map f (slice_get xs m)) (λ m. option_map g (slice_get (xs ++ x ∷ []) m)) (length xs) (g x)
  push_by xs x same = (ap (option_map g) (push_here xs x), λ m ne. ap (option_map g) (push_there xs x m ne) ∙ same_each xs same m)

pub sent_seen : (w : WayState) (bytes : List ℕ) → IsWay w → seen_way (sent_on bytes w) ≡ record (seen_way w) { left = (seen_way w).left ++ bytes }
sent_seen w bytes way = ap (λ z. record (seen_way w) { left = z }) (drop_front w.used w.sent bytes (omega (arith, way.used_within, way.taken_within)))

pub taken_seen : (w : WayState) (n : ℕ) → IsWay w → seen_way (taken_on n w) ≡ record (seen_way w) { taken = (seen_way w).taken + n }
taken_seen w n way = let e : w.taken + n - w.used ≡ (w.taken - w.used) + n = omega (arith, way.used_within) in ap (λ z. record (seen_way w) { taken = z }) e
