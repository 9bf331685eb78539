-- Maps as functions, and what changes in them.
use Rattle.std.specs.Prelude.{◌≡◌, ◌≢◌, Option, Some}

-- the new map has x at n, and is the old one elsewhere
abbrev pub SetAt : {K A : Type 0} → (K → Option A) → (K → Option A) → K → A → Type 0
SetAt {K} old new n x = (new n ≡ Some x) × ((m : K) → m ≢ n → new m ≡ old m)

abbrev pub Same : {K A : Type 0} → (K → Option A) → (K → Option A) → Type 0
Same {K} old new = (m : K) → new m ≡ old m
