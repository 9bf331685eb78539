-- What each dataset keeps, and what is seen of it at a moment.
use Rattle.std.specs.Prelude.{◌≡◌, ◌<◌, ℤ, int_le, List, length, Bool, false, if◌then◌else◌, IsTrue, Option, Some, None, is_some}
use Rattle.std.specs.List.{All}
use Rattle.std.specs.FinMap.{get, len, contains_key, retain_keys}
use Rattle.mr_map.specs.Bytes.{Bytes, ByteMap}
use Rattle.mr_bytes.specs.Words.{fits}
use Rattle.mr_score.specs.Score.{is_score}
use Rattle.mr_effect.specs.Effects.{is_deadline}
use Rattle.mr_keyspace.specs.Dataset.{Dataset}
use Rattle.mr_keyspace.specs.declared.value.Value.{Value}
use Rattle.mr_keyspace.specs.declared.value.Value.TheVariants as value
use Rattle.mr_keyspace.specs.declared.value.Entry.{Entry}

-- within the word limit
abbrev pub IsWord : Bytes → Type 0
IsWord w = IsTrue (fits w)

-- a hash has a field, and its fields and values are within the limit
pub record IsHash (fields : ByteMap Bytes) : Type 0 where
  pub some : 0 < len fields
  pub fit : (f v : Bytes) → get fields f ≡ Some v → IsWord f × IsWord v

-- a list has an item, and its items are within the limit
pub record IsList (items : List Bytes) : Type 0 where
  pub some : 0 < length items
  pub fit : All IsWord items

-- a set has a member, and its members are within the limit
pub record IsSet (members : ByteMap (Unit {0})) : Type 0 where
  pub some : 0 < len members
  pub fit : (x : Bytes) → IsTrue (contains_key members x) → IsWord x

-- a sorted set has a member, its members are within the limit, and its scores within theirs
pub record IsScores (scores : ByteMap ℤ) : Type 0 where
  pub some : 0 < len scores
  pub fit : (x : Bytes) (score : ℤ) → get scores x ≡ Some score → IsWord x × IsTrue (is_score score)

abbrev pub IsValue : Value → Type 0
IsValue (value.Text bytes) = IsWord bytes
IsValue (value.Hash fields) = IsHash fields
IsValue (value.List items) = IsList items
IsValue (value.Set members) = IsSet members
IsValue (value.SortedSet scores) = IsScores scores

-- no deadline, or one that an effect can name
abbrev pub IsLifetime : Option ℤ → Type 0
IsLifetime None = Unit {0}
IsLifetime (Some d) = IsTrue (is_deadline d)

-- what each entry keeps, under its key
pub record IsEntry (k : Bytes) (e : Entry) : Type 0 where
  pub key : IsWord k
  pub value : IsValue e.value
  pub deadline : IsLifetime e.deadline

-- what each dataset keeps
pub record IsDataset (m : Dataset) : Type 0 where
  pub entries : (k : Bytes) (e : Entry) → get m k ≡ Some e → IsEntry k e

-- a key with this deadline is expired at this moment
abbrev pub is_expired : ℤ → Option ℤ → Bool
is_expired now None = false
is_expired now (Some deadline) = int_le deadline now

-- the entry, unless it is expired
abbrev pub live : ℤ → Option Entry → Option Entry
live now None = None
live now (Some e) = if is_expired now e.deadline then None else Some e

-- the dataset without the keys that are expired
unfoldable pub seen : ℤ → Dataset → Dataset
seen now m = retain_keys m (λ k. is_some (live now (get m k)))
