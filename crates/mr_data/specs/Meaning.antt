-- What each effect makes of a dataset, and where it is undefined.
use Rattle.std.specs.Prelude.{◌≡◌, List, [], ◌∷◌, ◌++◌, ◌&&◌, if◌then◌else◌, Option, Some, None}
use Rattle.std.specs.Option.{option_and_then}
use Rattle.mr_effect.specs.Effects.{words_fit, has_spelling}
use Rattle.mr_effect.specs.declared.effect.Effect.{Effect}
use Rattle.mr_keyspace.specs.Dataset.{Dataset}
use Rattle.mr_keyspace.specs.Changes.{change}

-- the dataset after an effect
unfoldable pub apply : Effect → Dataset → Option Dataset
apply e m = if has_spelling e && words_fit e then change e m else None

-- .. and after effects one after another
abbrev pub apply_all : List Effect → Dataset → Option Dataset
apply_all [] m = Some m
apply_all (e ∷ es) m = option_and_then (apply_all es) (apply e m)

-- one of the effects is undefined, and the dataset is then that after those before it
pub record StopsAtOne (es : List Effect) (m new : Dataset) : Type 0 where
  pub before : List Effect
  pub at : Effect
  pub behind : List Effect
  pub each : before ++ (at ∷ behind) ≡ es
  pub done : apply_all before m ≡ Some new
  pub undefined : apply at new ≡ None
