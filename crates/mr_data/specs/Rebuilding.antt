-- The effects that make a dataset again out of nothing, expired keys included.
use Rattle.std.specs.Prelude.{ℤ, List, [], ◌∷◌, ◌++◌, map, Option, Some, None}
use Rattle.std.specs.List.{flat_map}
use Rattle.std.specs.FinMap.{entries, get, keys}
use Rattle.mr_map.specs.Bytes.{Bytes}
use Rattle.mr_bytes.specs.declared.ends.End.TheVariants.{Right}
use Rattle.mr_effect.specs.declared.effect.Effect.{Effect}
use Rattle.mr_effect.specs.declared.effect.Effect.TheVariants as effect
use Rattle.mr_keyspace.specs.Cuts.{cut}
use Rattle.mr_keyspace.specs.Dataset.{Dataset}
use Rattle.mr_keyspace.specs.declared.value.Entry.{Entry}
use Rattle.mr_keyspace.specs.declared.value.Value.{Value}
use Rattle.mr_keyspace.specs.declared.value.Value.TheVariants as value

-- a text at once; fields, members and scores in byte order, and items in theirs, in groups
abbrev pub rebuilt_value : Bytes → Value → List Effect
rebuilt_value k (value.Text text) = effect.Set k text ∷ []
rebuilt_value k (value.Hash fields) = map (effect.SetFields k) (cut (entries fields))
rebuilt_value k (value.List items) = map (effect.Push k Right) (cut items)
rebuilt_value k (value.Set members) = map (effect.AddMembers k) (cut (keys members))
rebuilt_value k (value.SortedSet scores) = map (effect.SetScores k) (cut (entries scores))

abbrev pub rebuilt_deadline : Bytes → Option ℤ → List Effect
rebuilt_deadline k None = []
rebuilt_deadline k (Some d) = effect.Expire k d ∷ []

-- nothing for a key that isn't there
abbrev pub rebuilt : Bytes → Option Entry → List Effect
rebuilt k None = []
rebuilt k (Some e) = rebuilt_value k e.value ++ rebuilt_deadline k e.deadline

-- in byte order of keys
abbrev pub rebuilding : Dataset → List Effect
rebuilding m = flat_map (λ k. rebuilt k (get m k)) (keys m)
