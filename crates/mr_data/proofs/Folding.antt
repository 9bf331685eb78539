-- Effects in two parts.
use Rattle.std.proofs.Common.{◌≡◌, List, [], ◌∷◌, ◌++◌, Some, None, refl, ◌∙◌, ap}
use Rattle.std.specs.Option.{option_and_then}
use Rattle.mr_effect.specs.declared.effect.Effect.{Effect}
use Rattle.mr_keyspace.specs.Dataset.{Dataset}
use Rattle.mr_data.specs.Meaning.{apply, apply_all}

pub apply_all-append : (es fs : List Effect) (m : Dataset) → apply_all (es ++ fs) m ≡ option_and_then (apply_all fs) (apply_all es m)
apply_all-append [] fs m = refl
apply_all-append (e ∷ es) fs m =
    elim (apply e m) as (λ o. option_and_then (apply_all (es ++ fs)) o ≡ option_and_then (apply_all fs) (option_and_then (apply_all es) o)) [
      | None ↦ refl
      | Some n ↦ apply_all-append es fs n
    ]

-- .. and one more at the end
pub apply_all_more : (es : List Effect) (e : Effect) (m n o : Dataset) → apply_all es m ≡ Some n → apply e n ≡ Some o → apply_all (es ++ e ∷ []) m ≡ Some o
apply_all_more es e m n o done one =
    apply_all-append es (e ∷ []) m ∙ ap (option_and_then (apply_all (e ∷ []))) done ∙ ap (option_and_then Some) one
