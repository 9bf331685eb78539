-- LIMIT with too few words behind it.
use Rattle.std.proofs.Common.{arith, ℕ, ◌≡◌, ◌<◌, List, [], ◌∷◌, length, map, refl}
use Rattle.std.specs.Prelude.{Err}
use Rattle.mr_arguments.specs.declared.fault.AskFault.TheVariants.{Syntax}
use Rattle.mr_zset_options.specs.RangeOptions.{limit_then}
use Rattle.mr_zset_options.specs.declared.range_options.RangeOptions.{RangeOptions}

pub cut_short : {X : Type 0} (f : X → List ℕ) (s : RangeOptions) (xs : List X) → length xs < 2 → limit_then s (map f xs) ≡ Err Syntax
cut_short f s [] h = refl
cut_short f s (x ∷ []) h = refl
cut_short f s (x ∷ y ∷ xs) h = let no : ⊥ = omega arith in absurd no
