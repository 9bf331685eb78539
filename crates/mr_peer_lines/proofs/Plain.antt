-- Bytes that pass a test, up to one that doesn't.
use Rattle.std.proofs.Common.{◌≡◌, ℕ, Bool, true, false, cond, List, [], ◌∷◌, ◌++◌, take, refl}
use Rattle.std.specs.List.{AllPass, prefix_len, take_while}
use Rattle.std.proofs.lemmas.List.Elements.{All-cons, All-head, All-nil, All-tail}
use Rattle.std.proofs.lemmas.List.Sums.{take_while-cons}

module _ (p : ℕ → Bool) where
  abbrev Passes : ℕ → Type 0
  Passes b = p b ≡ true

  never : (b c : ℕ) → b ≡ c → p b ≡ true → p c ≡ false → ⊥
  never b c same passes fails = cc

  front_step : (x : ℕ) (xs : List ℕ) (b : Bool) → p x ≡ b → AllPass p (take_while p xs) → AllPass p (cond b (x ∷ take_while p xs) [])
  front_step x xs true e h = All-cons Passes x (take_while p xs) e h
  front_step x xs false e h = All-nil Passes

  -- the bytes before the first that doesn't pass
  pub front_passes : (xs : List ℕ) → AllPass p (take (prefix_len p xs) xs)
  front_passes [] = All-nil Passes
  front_passes (x ∷ xs) = rw (take_while-cons p x xs) (front_step x xs (p x) refl (front_passes xs))

  -- two lists begin with bytes that pass, up to one that doesn't: the same ones
  pub meet : (front body x y : List ℕ) (b c : ℕ) → AllPass p front → AllPass p body → p b ≡ false → p c ≡ false → front ++ b ∷ x ≡ body ++ c ∷ y → (front ≡ body) × (b ∷ x ≡ c ∷ y)
  meet [] [] x y b c h k nb nc e = (refl, e)
  meet [] (f ∷ body) x y b c h k nb nc e = let same : f ≡ b = cc in absurd (never f b same (All-head Passes f body k) nb)
  meet (d ∷ front) [] x y b c h k nb nc e = let same : d ≡ c = cc in absurd (never d c same (All-head Passes d front h) nc)
  meet (d ∷ front) (f ∷ body) x y b c h k nb nc e =
      let same : d ≡ f = cc in
      let tails : front ++ b ∷ x ≡ body ++ c ∷ y = cc in
      let r = meet front body x y b c (All-tail Passes d front h) (All-tail Passes f body k) nb nc tails in
      let fronts : front ≡ body = r.0 in
      (cc, r.1)

  -- bytes that pass begin what stands before the first that doesn't
  pub within : (front body x y : List ℕ) (c : ℕ) → AllPass p front → p c ≡ false → front ++ x ≡ body ++ c ∷ y → (more : List ℕ) × (body ≡ front ++ more)
  within [] body x y c h nc e = (body, refl)
  within (d ∷ front) [] x y c h nc e = let same : d ≡ c = cc in absurd (never d c same (All-head Passes d front h) nc)
  within (d ∷ front) (f ∷ body) x y c h nc e =
      let same : f ≡ d = cc in
      let tails : front ++ x ≡ body ++ c ∷ y = cc in
      let r = within front body x y c (All-tail Passes d front h) nc tails in
      let found : body ≡ front ++ r.0 = r.1 in
      (r.0, cc)
