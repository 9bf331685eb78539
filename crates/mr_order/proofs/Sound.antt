-- What holds of each part holds after an edit of the list of parts.
use Rattle.std.proofs.Common.{ℕ, suc, List, ◌∷◌, take, drop}
use Rattle.std.specs.List.{All, insert, remove}
use Rattle.std.proofs.lemmas.List.Elements.{All-append, All-cons, All-take, All-drop}

module _ {X : Type 0} (P : X → Type 0) where
  pub all_insert : (xs : List X) (i : ℕ) (y : X) → P y → All P xs → All P (insert xs i y)
  all_insert xs i y here all = All-append P (take i xs) (y ∷ drop i xs) (All-take P i xs all) (All-cons P y (drop i xs) here (All-drop P i xs all))

  pub all_remove : (xs : List X) (i : ℕ) → All P xs → All P (remove xs i)
  all_remove xs i all = All-append P (take i xs) (drop (suc i) xs) (All-take P i xs all) (All-drop P (suc i) xs all)
