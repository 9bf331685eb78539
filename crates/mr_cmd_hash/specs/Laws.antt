-- What commands on hashes tell of what others left.
use Rattle.std.specs.Prelude.{◌≡◌, ℕ, ℤ, ◌+◌, List, [], ◌∷◌, ◌++◌, map}
use Rattle.std.specs.Fmt.{signed_decimal}
use Rattle.std.specs.FinMap.{len}
use Rattle.mr_map.specs.Bytes.{Bytes}
use Rattle.mr_resp.specs.Replies as reply
use Rattle.mr_resp.specs.ReplyView.{trees_of}
use Rattle.mr_cmd_hash.specs.declared.hash_ask.FieldsReply.{FieldsReply}
use Rattle.mr_cmd_hash.specs.declared.hash_ask.FieldsReply.TheVariants.{Added}
use Rattle.mr_cmd_hash.specs.Hashes.{Hash, count_reply, hget, hmget, hset, hdel, hincrby}

-- HSET answers by how many fields the hash has grown
abbrev pub SetCountsNewFields : Type 0
SetCountsNewFields = (k : Bytes) (pairs : List (Bytes × Bytes)) (h : Hash) (n : ℕ) → len h + n ≡ len (hset k Added pairs h).value → (hset k Added pairs h).reply ≡ count_reply n

-- HGET reads what HSET put last
abbrev pub SetIsRead : Type 0
SetIsRead = (k : Bytes) (answer : FieldsReply) (pairs : List (Bytes × Bytes)) (f v : Bytes) (h : Hash) → (hget f (hset k answer (pairs ++ (f, v) ∷ []) h).value).reply ≡ reply.bytes v

-- HDEL answers by how many fields the hash has shrunk
abbrev pub RemoveCountsFields : Type 0
RemoveCountsFields = (k : Bytes) (fs : List Bytes) (h : Hash) (n : ℕ) → len (hdel k fs h).value + n ≡ len h → (hdel k fs h).reply ≡ count_reply n

-- HINCRBY answers a number, and HGET then reads its digits
abbrev pub IncreaseIsRead : Type 0
IncreaseIsRead = (k f : Bytes) (by n : ℤ) (h : Hash) → (hincrby k f by h).reply ≡ reply.int n → (hget f (hincrby k f by h).value).reply ≡ reply.bytes (signed_decimal n)

-- HMGET answers what HGET answers for each field
abbrev pub HMGetIsHGetOfEach : Type 0
HMGetIsHGetOfEach = (fs : List Bytes) (h : Hash) → (hmget fs h).reply ≡ reply.array (trees_of (map (λ f. (hget f h).reply) fs))
