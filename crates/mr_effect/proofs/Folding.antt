-- Effects in two parts.
use Rattle.std.proofs.Common.{◌≡◌, ℕ, List, [], ◌∷◌, ◌++◌, refl, sym, ap, ◌∙◌, append_assoc}
use Rattle.mr_effect.specs.Spelling.{text, texts}
use Rattle.mr_effect.specs.declared.effect.Effect.{Effect}

pub texts-append : (es fs : List Effect) → texts (es ++ fs) ≡ texts es ++ texts fs
texts-append [] fs = refl
texts-append (e ∷ es) fs = ap (λ (t : List ℕ). text e ++ t) (texts-append es fs) ∙ sym (append_assoc (text e) (texts es) (texts fs))
