-- Tests that hold together, and of which one holds.
use Rattle.std.proofs.Common.{◌≡◌, Bool, true, false, ◌&&◌, refl, T}
use Rattle.std.specs.Prelude.{◌||◌}

pub both_hold : (a b : Bool) → T a → T b → T (a && b)
both_hold true b p q = q
both_hold false b p q = p

pub first_holds : (a b : Bool) → T (a && b) → T a
first_holds true b h = tt
first_holds false b h = absurd h

pub second_holds : (a b : Bool) → T (a && b) → T b
second_holds true b h = h
second_holds false b h = absurd h

pub or_swap : (a b c : Bool) → (a || (b || c)) ≡ (b || (a || c))
or_swap true true c = refl
or_swap true false c = refl
or_swap false b c = refl

pub or_next : (a b c : Bool) → (b || (a || c)) ≡ ((a || b) || c)
or_next true true c = refl
or_next true false c = refl
or_next false b c = refl
