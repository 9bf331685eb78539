-- The numbers that the effects of a command carry.
use Rattle.std.specs.Prelude.{ℕ, ℤ, ◌<◌, ◌^◌, length, IsTrue, Option, Some, None}
use Rattle.std.specs.FinMap.{get}
use Rattle.mr_bytes.specs.Number.{is_i64}
use Rattle.mr_keyspace.specs.Dataset.{Dataset}
use Rattle.mr_data.specs.Dataset.{live}
use Rattle.mr_keyspace.specs.declared.value.Value.{Value}
use Rattle.mr_keyspace.specs.declared.value.Value.TheVariants as value
use Rattle.mr_keyspace.specs.declared.value.Entry.{Entry}
use Rattle.mr_cmd_list.specs.declared.list_ask.ListAsk.{ListAsk}
use Rattle.mr_cmd_list.specs.declared.list_ask.ListAsk.TheVariants as ask

abbrev pub HasFewItems : Value → Type 0
HasFewItems (value.List items) = length items < 2 ^ 63
HasFewItems _ = Unit {0}

-- a list there is so short that a number of 64 bits can say each of its places
abbrev pub IsShort : Option Entry → Type 0
IsShort None = Unit {0}
IsShort (Some e) = HasFewItems e.value

-- .. where many items may be taken
abbrev pub IsShortFor : Option ℕ → Option Entry → Type 0
IsShortFor None o = Unit {0}
IsShortFor (Some most) o = IsShort o

-- the number is needed where there is an entry
abbrev pub IsNumberFor : ℤ → Option Entry → Type 0
IsNumberFor count None = Unit {0}
IsNumberFor count (Some e) = IsTrue (is_i64 count)

-- a number that a command was told has 64 bits
abbrev pub HasNumber : ListAsk → Type 0
HasNumber (ask.LRem k count item) = IsTrue (is_i64 count)
HasNumber _ = Unit {0}

-- the numbers in a command's effects have 64 bits, with this entry at its key
abbrev pub HasNumbers : ListAsk → Option Entry → Type 0
HasNumbers (ask.Pop k end count) o = IsShortFor count o
HasNumbers (ask.LSet k index item) o = IsShort o
HasNumbers (ask.LRem k count item) o = IsNumberFor count o
HasNumbers (ask.LTrim k first last) o = IsShort o
HasNumbers _ o = Unit {0}

-- .. with what is seen in a dataset
abbrev pub HasNumbersIn : ListAsk → ℤ → Dataset → Type 0
HasNumbersIn (ask.Pop k end count) now m = IsShortFor count (live now (get m k))
HasNumbersIn (ask.LSet k index item) now m = IsShort (live now (get m k))
HasNumbersIn (ask.LRem k count item) now m = IsNumberFor count (live now (get m k))
HasNumbersIn (ask.LTrim k first last) now m = IsShort (live now (get m k))
HasNumbersIn _ now m = Unit {0}
