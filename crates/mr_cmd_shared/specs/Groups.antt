-- A group of items that are to go into one effect.
use Rattle.std.specs.Prelude.{◌≡◌, List, ◌++◌, map}
use Rattle.mr_effect.specs.declared.effect.Effect.{Effect}
use Rattle.mr_keyspace.specs.Cuts.{cut}

-- Items are taken: the effects so far, and those of the group and of whatever comes behind, are those of all items, cut.
pub record TakesItems {X : Type 0} (effect : List X → Effect) (items group new_group : List X) (effects new_effects : List Effect) : Type 0 where
  pub with_rest : (rest : List X) → new_effects ++ map effect (cut (new_group ++ rest)) ≡ effects ++ map effect (cut (group ++ (items ++ rest)))
