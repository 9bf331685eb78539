-- What is told of: ids, and what a client writes.
use Rattle.std.specs.Prelude.{ℕ, List, [], ◌∷◌, codes, None}
use Rattle.std.specs.FinMap.{empty, insert}
use Rattle.mr_keyspace.specs.Dataset.{Dataset}
use Rattle.mr_keyspace.specs.declared.value.Value.TheVariants as values
use Rattle.mr_effect.specs.declared.effect.Effect.{Effect}
use Rattle.mr_effect.specs.declared.effect.Effect.TheVariants as effect

-- ---- ids, of twenty bytes
-- that of the first server
abbrev pub first_id : List ℕ
first_id = codes "id of the first node"

-- .. of the other, once it is promoted
abbrev pub promoted_id : List ℕ
promoted_id = codes "id of a promoted one"

-- .. and of the first, once it has begun again
abbrev pub later_id : List ℕ
later_id = codes "id of its second run"

-- ---- what a client writes
abbrev pub key : List ℕ
key = codes "key"

abbrev pub value : List ℕ
value = codes "value"

-- the effect of its request
abbrev pub effects : List Effect
effects = effect.Set key value ∷ []

-- the dataset that has this key, and no other
abbrev pub with_key : Dataset
with_key = insert empty key (record { value = values.Text value; deadline = None })
