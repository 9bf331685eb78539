-- Some of the keys that a command names, each once, in order of naming.
use Rattle.std.specs.Prelude.{ℤ, List, [], ◌∷◌, filter, map, Bool, true, false, not, if◌then◌else◌, Option, Some, None}
use Rattle.std.specs.FinMap.{get, remove}
use Rattle.mr_map.specs.Bytes.{Bytes}
use Rattle.mr_keyspace.specs.Dataset.{Dataset}
use Rattle.mr_data.specs.Dataset.{is_expired}
use Rattle.mr_keyspace.specs.declared.value.Entry.{Entry}
use Rattle.mr_effect.specs.declared.effect.Effect.{Effect}
use Rattle.mr_effect.specs.declared.effect.Effect.TheVariants as effect
use Rattle.mr_cmd_shared.specs.Taken.{is_key}

-- those whose entries pass the test
abbrev pub chosen : (Option Entry → Bool) → List Bytes → Dataset → List Bytes
chosen test [] m = []
chosen test (k ∷ ks) m = if test (get m k) then k ∷ chosen test ks (remove m k) else chosen test ks m

-- the dataset without these keys
abbrev pub without : List Bytes → Dataset → Dataset
without [] m = m
without (k ∷ ks) m = without ks (remove m k)

-- one DEL for each
abbrev pub dels : List Bytes → List Effect
dels ks = map effect.Del ks

-- a stored entry that is expired, or one that isn't
abbrev pub is_stored : ℤ → Bool → Option Entry → Bool
is_stored now expired None = false
is_stored now true (Some e) = is_expired now e.deadline
is_stored now false (Some e) = not (is_expired now e.deadline)

-- those of these keys that are stored and expired
abbrev pub expired : ℤ → List Bytes → Dataset → List Bytes
expired now ks m = chosen (is_stored now true) ks m

-- the dataset without them
abbrev pub purged : ℤ → List Bytes → Dataset → Dataset
purged now ks m = without (expired now ks m) m

-- the keys, each where it is named first
abbrev pub named_once : List Bytes → List Bytes
named_once [] = []
named_once (k ∷ ks) = k ∷ filter (λ q. not (is_key q k)) (named_once ks)
