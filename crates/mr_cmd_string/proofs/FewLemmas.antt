-- An option of SET with too few words behind it.
use Rattle.std.proofs.Common.{arith, ℕ, ◌≡◌, ◌<◌, List, [], ◌∷◌, length, map, Option, refl}
use Rattle.std.specs.Prelude.{Err}
use Rattle.mr_arguments.specs.declared.fault.AskFault.TheVariants.{Syntax}
use Rattle.mr_cmd_string.specs.Options.{number_then}
use Rattle.mr_arguments.specs.declared.expiry.ExpiryUnit.{ExpiryUnit}
use Rattle.mr_cmd_string.specs.declared.options.SetOptions.{SetOptions}

pub cut_short : {X : Type 0} (f : X → List ℕ) (s : SetOptions) (u : Option ExpiryUnit) (xs : List X) → length xs < 1 → number_then s u (map f xs) ≡ Err Syntax
cut_short f s u [] h = refl
cut_short f s u (x ∷ xs) h = let no : ⊥ = omega arith in absurd no
