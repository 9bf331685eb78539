-- The expired keys, in the order in which they are deleted.
use Rattle.std.specs.Prelude.{IsTrue, ◌-◌, ℕ, ℤ, List, [], ◌∷◌, map, take, int_le, nat_le, if◌then◌else◌, Option, Some, None}
use Rattle.std.specs.List.{flat_map}
use Rattle.std.specs.FinMap.{get, keys}
use Rattle.mr_map.specs.Bytes.{Bytes}
use Rattle.mr_bytes.specs.Words.{fits}
use Rattle.mr_effect.specs.Spelling.{size}
use Rattle.mr_effect.specs.declared.effect.Effect.{Effect}
use Rattle.mr_effect.specs.declared.effect.Effect.TheVariants as effect
use Rattle.mr_zset.specs.Order.{in_order}
use Rattle.mr_zset.specs.Pairs.{pair_cmp}
use Rattle.mr_keyspace.specs.Dataset.{Dataset}
use Rattle.mr_keyspace.specs.Steps.{deadline_of}
use Rattle.mr_data.specs.declared.due.DueKey.{DueKey}

-- a key with its deadline, if that has passed at this moment
abbrev pub if_expired : ℤ → Bytes → Option ℤ → List (Bytes × ℤ)
if_expired now k None = []
if_expired now k (Some d) = if int_le d now then (k, d) ∷ [] else []

-- the expired ones of these keys with their deadlines, in order of deadline and then of key
abbrev pub due_among : ℤ → Dataset → List Bytes → List (Bytes × ℤ)
due_among now m ks = in_order pair_cmp (flat_map (λ k. if_expired now k (deadline_of (get m k))) ks)

abbrev pub due : ℤ → Dataset → List (Bytes × ℤ)
due now m = due_among now m (keys m)

-- what is answered, as a key with its deadline
abbrev pub dated : DueKey → Bytes × ℤ
dated d = (d.key.now, d.deadline)

-- its key is within the word limit
abbrev pub HasWord : DueKey → Type 0
HasWord d = IsTrue (fits d.key.now)

-- so many keys go in one tick at most
abbrev pub most_deleted : ℕ
most_deleted = 64

-- the first effects, up to one that has no room
abbrev pub within : ℕ → List Effect → List Effect
within room [] = []
within room (e ∷ es) = if nat_le (size e) room then e ∷ within (room - size e) es else []

-- the expired keys go, in order of deadline and then of key, as far as there is room for the effects
abbrev pub deletions : ℤ → Dataset → ℕ → List Effect
deletions now m room = within room (map (λ d. effect.Del d.0) (take most_deleted (due now m)))
