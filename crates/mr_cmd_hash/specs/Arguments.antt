-- Commands on hashes.
use Rattle.std.specs.Prelude.{ℕ, List, [], ◌∷◌, Result, Ok, Err}
use Rattle.mr_arguments.specs.declared.name.Name.{Name}
use Rattle.mr_arguments.specs.declared.name.Name.TheVariants as name
use Rattle.mr_arguments.specs.declared.fault.AskFault.{AskFault}
use Rattle.mr_arguments.specs.declared.fault.AskFault.TheVariants.{Arity}
use Rattle.mr_cmd_hash.specs.declared.hash_ask.HashAsk.{HashAsk}
use Rattle.mr_cmd_hash.specs.declared.hash_ask.HashAsk.TheVariants as ask
use Rattle.std.specs.Option.{ok_or}
use Rattle.mr_arguments.specs.Pairing.{pairs_of}
use Rattle.mr_arguments.specs.Parts.{with, integer}
use Rattle.mr_cmd_hash.specs.declared.hash_ask.FieldsReply.{FieldsReply}
use Rattle.mr_cmd_hash.specs.declared.hash_ask.HashPart.{HashPart}

-- HSET key field value [field value ..], HMSET the same; no pair is cut
abbrev pub hset : Name → FieldsReply → List (List ℕ) → Result HashAsk AskFault
hset name reply [] = Err (Arity name)
hset name reply (key ∷ []) = Err (Arity name)
hset name reply (key ∷ words) = with (ok_or (pairs_of words) (Arity name)) (λ pairs. Ok (ask.HSet key pairs reply))

-- HSETNX key field value
abbrev pub hsetnx : List (List ℕ) → Result HashAsk AskFault
hsetnx (key ∷ field ∷ value ∷ []) = Ok (ask.HSetNx key field value)
hsetnx _ = Err (Arity name.HSetNx)

-- HGET key field
abbrev pub hget : List (List ℕ) → Result HashAsk AskFault
hget (key ∷ field ∷ []) = Ok (ask.HGet key field)
hget _ = Err (Arity name.HGet)

-- HMGET key field [field ..]
abbrev pub hmget : List (List ℕ) → Result HashAsk AskFault
hmget [] = Err (Arity name.HMGet)
hmget (key ∷ []) = Err (Arity name.HMGet)
hmget (key ∷ fields) = Ok (ask.HMGet key fields)

-- HGETALL key, HKEYS key, HVALS key
abbrev pub list_hash : Name → HashPart → List (List ℕ) → Result HashAsk AskFault
list_hash name part (key ∷ []) = Ok (ask.ListHash key part)
list_hash name part _ = Err (Arity name)

-- HDEL key field [field ..]
abbrev pub hdel : List (List ℕ) → Result HashAsk AskFault
hdel [] = Err (Arity name.HDel)
hdel (key ∷ []) = Err (Arity name.HDel)
hdel (key ∷ fields) = Ok (ask.HDel key fields)

-- HEXISTS key field
abbrev pub hexists : List (List ℕ) → Result HashAsk AskFault
hexists (key ∷ field ∷ []) = Ok (ask.HExists key field)
hexists _ = Err (Arity name.HExists)

-- HLEN key
abbrev pub hlen : List (List ℕ) → Result HashAsk AskFault
hlen (key ∷ []) = Ok (ask.HLen key)
hlen _ = Err (Arity name.HLen)

-- HSTRLEN key field
abbrev pub hstrlen : List (List ℕ) → Result HashAsk AskFault
hstrlen (key ∷ field ∷ []) = Ok (ask.HStrLen key field)
hstrlen _ = Err (Arity name.HStrLen)

-- HINCRBY key field number
abbrev pub hincrby : List (List ℕ) → Result HashAsk AskFault
hincrby (key ∷ field ∷ by ∷ []) = with (integer by) (λ n. Ok (ask.HIncrBy key field n))
hincrby _ = Err (Arity name.HIncrBy)
