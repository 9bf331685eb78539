-- The commands on hashes. Each names one key.
use Rattle.std.specs.Prelude.{◌≡◌, List, ◌++◌, Option}
use Rattle.mr_map.specs.Bytes.{Bytes}
use Rattle.mr_resp.specs.Replies.{Tree}
use Rattle.mr_effect.specs.declared.effect.Effect.{Effect}
use Rattle.mr_keyspace.specs.Steps.{hashes}
use Rattle.mr_keyspace.specs.declared.value.Entry.{Entry}
use Rattle.mr_cmd_hash.specs.declared.hash_ask.HashAsk.{HashAsk}
use Rattle.mr_cmd_hash.specs.declared.hash_ask.HashAsk.TheVariants as ask
use Rattle.mr_cmd_shared.specs.Answered.{Answered}
use Rattle.mr_cmd_shared.specs.Collections.{Change, changing}
use Rattle.mr_cmd_shared.specs.Commands.{Command, on_key}
use Rattle.mr_cmd_hash.specs.Hashes.{Hash, hset, hsetnx, hget, hmget, list_hash, hdel, hexists, hlen, hstrlen, hincrby}

-- the key that a command names
abbrev pub key_of : HashAsk → Bytes
key_of (ask.HSet k pairs reply) = k
key_of (ask.HSetNx k f v) = k
key_of (ask.HGet k f) = k
key_of (ask.HMGet k fs) = k
key_of (ask.ListHash k part) = k
key_of (ask.HDel k fs) = k
key_of (ask.HExists k f) = k
key_of (ask.HLen k) = k
key_of (ask.HStrLen k f) = k
key_of (ask.HIncrBy k f by) = k

-- what it does to the hash there
abbrev pub change : HashAsk → Hash → Change Hash
change (ask.HSet k pairs reply) = hset k reply pairs
change (ask.HSetNx k f v) = hsetnx k f v
change (ask.HGet k f) = hget f
change (ask.HMGet k fs) = hmget fs
change (ask.ListHash k part) = list_hash part
change (ask.HDel k fs) = hdel k fs
change (ask.HExists k f) = hexists f
change (ask.HLen k) = hlen
change (ask.HStrLen k f) = hstrlen f
change (ask.HIncrBy k f by) = hincrby k f by

-- a key of another kind is left alone
abbrev pub answer_of : HashAsk → Option Entry → Answered
answer_of command = changing hashes (change command)

abbrev pub command : HashAsk → Command
command asked = on_key (key_of asked) (answer_of asked)

-- the reply is the change's, and its effects were put behind those that were there
pub record Makes (change : Change Hash) (reply : Tree) (old new : List Effect) : Type 0 where
  pub reply_is : reply ≡ change.reply
  pub effects_are : new ≡ old ++ change.effects
