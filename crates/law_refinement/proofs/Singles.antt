-- What groups come to; and effects as groups of one each.
use Rattle.std.proofs.Common.{◌≡◌, List, [], ◌∷◌, Option, None, Some, refl, ◌∙◌, All}
use Rattle.std.specs.Option.{option_and_then}
use Rattle.std.proofs.lemmas.List.Elements.{All-nil, All-cons, All-head, All-tail}
use Rattle.mr_effect.specs.declared.effect.Effect.{Effect}
use Rattle.mr_keyspace.specs.Dataset.{Dataset}
use Rattle.mr_data.specs.Meaning.{apply_all}
use Rattle.mr_groups.specs.Effects.{IsGoodEffect}
use Rattle.mr_groups.specs.Groups.{IsGoodGroup, singles}
use Rattle.mr_groups.specs.Folding.{apply_groups}
use Rattle.mr_groups.proofs.Runs.{single_applied}
use Rattle.law_protocol.specs.History.{fold, then_fold}
use Rattle.law_minired.specs.Minired.{minired}

-- a fold is what groups come to
pub fold_is : (gs : List (List Effect)) (m : Dataset) → fold minired gs m ≡ apply_groups gs m
fold_is [] m = refl
fold_is (g ∷ gs) m = go (λ x. fold_is gs x) (apply_all g m)
  where
    go : ((x : Dataset) → fold minired gs x ≡ apply_groups gs x) → (o : Option Dataset) → then_fold o (fold minired gs) ≡ option_and_then (apply_groups gs) o
    go f None = refl
    go f (Some x) = f x

-- .. and of effects, each alone, what they come to
pub single_folds : (es : List Effect) (m : Dataset) → fold minired (singles es) m ≡ apply_all es m
single_folds es m = fold_is (singles es) m ∙ single_applied es m

pub single_good : (es : List Effect) → All IsGoodEffect es → All IsGoodGroup (singles es)
single_good [] h = All-nil IsGoodGroup
single_good (e ∷ es) h =
    let one : IsGoodGroup (e ∷ []) = record { group = refl; good = All-cons IsGoodEffect e [] (All-head IsGoodEffect e es h) (All-nil IsGoodEffect) } in
    All-cons IsGoodGroup (e ∷ []) (singles es) one (single_good es (All-tail IsGoodEffect e es h))
