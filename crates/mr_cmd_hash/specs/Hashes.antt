-- What each command on hashes answers, makes of the hash at its key, and has as its effects.
use Rattle.std.specs.Prelude.{ℕ, ℤ, pos, ◌+ℤ◌, List, [], ◌∷◌, map, length, filter, codes, Bool, false, not, if◌then◌else◌, Option, Some, None}
use Rattle.std.specs.List.{flat_map}
use Rattle.std.specs.FinMap.{empty, get, contains_key, len, keys, values, entries}
use Rattle.std.specs.Fmt.{signed_decimal}
use Rattle.std.specs.Str.{bytes_eq}
use Rattle.mr_map.specs.Bytes.{Bytes, ByteMap}
use Rattle.mr_bytes.specs.Number.{is_i64, number_of}
use Rattle.mr_resp.specs.Replies as reply
use Rattle.mr_resp.specs.Replies.{Tree}
use Rattle.mr_resp.specs.ReplyView.{trees_of}
use Rattle.mr_effect.specs.Spelling.{pair_words}
use Rattle.mr_effect.specs.declared.effect.Effect.TheVariants as effect
use Rattle.mr_keyspace.specs.Collections.{with_fields, without_fields, with_members}
use Rattle.mr_cmd_hash.specs.declared.hash_ask.FieldsReply.{FieldsReply}
use Rattle.mr_cmd_hash.specs.declared.hash_ask.FieldsReply.TheVariants as answer
use Rattle.mr_cmd_hash.specs.declared.hash_ask.HashPart.{HashPart}
use Rattle.mr_cmd_hash.specs.declared.hash_ask.HashPart.TheVariants as part
use Rattle.mr_keyspace.specs.Cuts.{cut}
pub use Rattle.mr_keyspace.specs.Collections.{last_values}
use Rattle.mr_cmd_shared.specs.Answered.{done, overflow}
use Rattle.mr_cmd_shared.specs.Collections.{Change}

abbrev pub Hash : Type 0
Hash = ByteMap Bytes

-- the hash stays as it is
abbrev pub unchanged : Tree → Hash → Change Hash
unchanged reply h = record { reply = reply; value = h; effects = [] }

abbrev pub count_reply : ℕ → Tree
count_reply n = reply.int (pos n)

-- ---- what a hash has

-- a value, where it is there
abbrev pub value_reply : Option Bytes → Tree
value_reply None = reply.null_bulk
value_reply (Some v) = reply.bytes v

abbrev pub values_reply : List (Option Bytes) → Tree
values_reply vs = reply.array (trees_of (map value_reply vs))

-- HGET key field
abbrev pub hget : Bytes → Hash → Change Hash
hget f h = unchanged (value_reply (get h f)) h

-- HMGET key field [field ..]
abbrev pub hmget : List Bytes → Hash → Change Hash
hmget fs h = unchanged (values_reply (map (get h) fs)) h

-- in byte order of the fields
abbrev pub listed : HashPart → Hash → List Bytes
listed part.Pairs h = flat_map pair_words (entries h)
listed part.Fields h = keys h
listed part.Values h = values h

-- HGETALL key, HKEYS key, HVALS key
abbrev pub list_hash : HashPart → Hash → Change Hash
list_hash part h = unchanged (reply.array (trees_of (map reply.bytes (listed part h)))) h

-- HEXISTS key field
abbrev pub hexists : Bytes → Hash → Change Hash
hexists f h = unchanged (count_reply (if contains_key h f then 1 else 0)) h

-- HLEN key
abbrev pub hlen : Hash → Change Hash
hlen h = unchanged (count_reply (len h)) h

abbrev pub length_of : Option Bytes → ℕ
length_of None = 0
length_of (Some v) = length v

-- HSTRLEN key field
abbrev pub hstrlen : Bytes → Hash → Change Hash
hstrlen f h = unchanged (count_reply (length_of (get h f))) h

-- ---- fields that get values

abbrev pub is_value : Bytes → Option Bytes → Bool
is_value v None = false
is_value v (Some w) = bytes_eq w v

-- the fields that pairs name, each with its last value, without those that hold it already, in byte order
abbrev pub changed : List (Bytes × Bytes) → Hash → List (Bytes × Bytes)
changed pairs h = filter (λ p. not (is_value p.1 (get h p.0))) (entries (last_values pairs))

-- how many of them the hash does not have
abbrev pub count_new : List (Bytes × Bytes) → Hash → ℕ
count_new pairs h = length (filter (λ p. not (contains_key h p.0)) (entries (last_values pairs)))

-- fields of the hash at a key get values, one after another
abbrev pub set_pairs : Bytes → Tree → List (Bytes × Bytes) → Hash → Change Hash
set_pairs k reply pairs h = record {
  reply = reply;
  value = with_fields pairs h;
  effects = map (effect.SetFields k) (cut (changed pairs h));
}

abbrev pub fields_reply : FieldsReply → ℕ → Tree
fields_reply answer.Added new = count_reply new
fields_reply answer.Done new = done

-- HSET key field value [field value ..], HMSET the same
abbrev pub hset : Bytes → FieldsReply → List (Bytes × Bytes) → Hash → Change Hash
hset k reply pairs h = set_pairs k (fields_reply reply (count_new pairs h)) pairs h

-- HSETNX key field value: a field that is there stays as it is
abbrev pub hsetnx : Bytes → Bytes → Bytes → Hash → Change Hash
hsetnx k f v h = if contains_key h f then unchanged (count_reply 0) h else set_pairs k (count_reply 1) ((f, v) ∷ []) h

abbrev pub no_integer : Tree
no_integer = reply.error (codes "ERR hash value is not an integer")

-- a field that isn't there counts as 0
abbrev pub number_at : Option Bytes → Option ℤ
number_at None = Some (pos 0)
number_at (Some v) = number_of v

abbrev pub set_number : Bytes → Bytes → ℤ → Hash → Change Hash
set_number k f n h = if is_i64 n then set_pairs k (reply.int n) ((f, signed_decimal n) ∷ []) h else unchanged overflow h

abbrev pub increase_from : Bytes → Bytes → ℤ → Option ℤ → Hash → Change Hash
increase_from k f by None h = unchanged no_integer h
increase_from k f by (Some n) h = set_number k f (n +ℤ by) h

-- HINCRBY key field number
abbrev pub hincrby : Bytes → Bytes → ℤ → Hash → Change Hash
hincrby k f by h = increase_from k f by (number_at (get h f)) h

-- ---- fields that go

-- the fields that are named and there, in byte order
abbrev pub removed : List Bytes → Hash → List Bytes
removed fs h = filter (contains_key h) (keys (with_members fs empty))

-- HDEL key field [field ..]
abbrev pub hdel : Bytes → List Bytes → Hash → Change Hash
hdel k fs h = record {
  reply = count_reply (length (removed fs h));
  value = without_fields fs h;
  effects = map (effect.RemoveFields k) (cut (removed fs h));
}
