-- What holds of two tests holds of each.
use Rattle.std.proofs.Common.{◌≡◌, Bool, true, false, ◌&&◌, refl}

pub first : (a b : Bool) → a && b ≡ true → a ≡ true
first true b p = refl
first false b p = cc

pub second : (a b : Bool) → a && b ≡ true → b ≡ true
second true b p = p
second false b p = cc
