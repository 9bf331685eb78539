-- Which commands are writes: those that may have an effect of their own. The others only tell.
use Rattle.std.specs.Prelude.{◌≡◌, ℕ, List, [], Bool, true, false}
use Rattle.mr_arguments.specs.declared.name.Name.{Name}
use Rattle.mr_arguments.specs.declared.name.Name.TheVariants as name
use Rattle.mr_keyspace.specs.Dataset.{Dataset}
use Rattle.mr_data.specs.declared.given.Given.{Given}
use Rattle.mr_ask.specs.Spelled.{SpellsNamed}
use Rattle.mr_ask.specs.declared.ask.Ask.{Ask}
use Rattle.mr_ask.specs.declared.ask.Ask.TheVariants as ask
use Rattle.mr_cmd_string.specs.declared.text_ask.TextAsk.{TextAsk}
use Rattle.mr_cmd_string.specs.declared.text_ask.TextAsk.TheVariants as text
use Rattle.mr_cmd_key.specs.declared.key_ask.KeyAsk.{KeyAsk}
use Rattle.mr_cmd_key.specs.declared.key_ask.KeyAsk.TheVariants as key
use Rattle.mr_cmd_hash.specs.declared.hash_ask.HashAsk.{HashAsk}
use Rattle.mr_cmd_hash.specs.declared.hash_ask.HashAsk.TheVariants as hash
use Rattle.mr_cmd_list.specs.declared.list_ask.ListAsk.{ListAsk}
use Rattle.mr_cmd_list.specs.declared.list_ask.ListAsk.TheVariants as list
use Rattle.mr_cmd_set.specs.declared.set_ask.SetAsk.{SetAsk}
use Rattle.mr_cmd_set.specs.declared.set_ask.SetAsk.TheVariants as set
use Rattle.mr_cmd_zset.specs.declared.zset_ask.ZSetAsk.{ZSetAsk}
use Rattle.mr_cmd_zset.specs.declared.zset_ask.ZSetAsk.TheVariants as zset
use Rattle.mr_cmd_shared.specs.Commands.{own_effects}
use Rattle.mr_commands.specs.PlannedCommands.{command_of}

-- on strings
abbrev pub text_writes : TextAsk → Bool
text_writes (text.Get k) = false
text_writes (text.Set k value condition reply lifetime) = true
text_writes (text.SetEx k seconds value) = true
text_writes (text.PSetEx k milliseconds value) = true
text_writes (text.StrLen k) = false
text_writes (text.GetRange k first last) = false
text_writes (text.MGet ks) = false
text_writes (text.SetNx k value) = true
text_writes (text.GetSet k value) = true
text_writes (text.GetDel k) = true
text_writes (text.MSet pairs) = true
text_writes (text.MSetNx pairs) = true
text_writes (text.Append k value) = true
text_writes (text.SetRange k offset value) = true
text_writes (text.Increase k by) = true

-- on keys
abbrev pub key_writes : KeyAsk → Bool
key_writes (key.Del ks) = true
key_writes (key.Unlink ks) = true
key_writes (key.Exists ks) = false
key_writes (key.KeyType k) = false
key_writes (key.Keys pattern) = false
key_writes (key.Scan cursor pattern kind) = false
key_writes key.DbSize = false
key_writes (key.Rename from to) = true
key_writes (key.RenameNx from to) = true
key_writes (key.Clear databases timing) = true
key_writes (key.Expire k expiry condition) = true
key_writes (key.Ttl k) = false
key_writes (key.PTtl k) = false
key_writes (key.ExpireTime k) = false
key_writes (key.PExpireTime k) = false
key_writes (key.Persist k) = true

-- on hashes
abbrev pub hash_writes : HashAsk → Bool
hash_writes (hash.HSet k pairs reply) = true
hash_writes (hash.HSetNx k field value) = true
hash_writes (hash.HGet k field) = false
hash_writes (hash.HMGet k fields) = false
hash_writes (hash.ListHash k part) = false
hash_writes (hash.HDel k fields) = true
hash_writes (hash.HExists k field) = false
hash_writes (hash.HLen k) = false
hash_writes (hash.HStrLen k field) = false
hash_writes (hash.HIncrBy k field by) = true

-- on lists
abbrev pub list_writes : ListAsk → Bool
list_writes (list.Push k end to items) = true
list_writes (list.Pop k end count) = true
list_writes (list.LLen k) = false
list_writes (list.LRange k first last) = false
list_writes (list.LIndex k index) = false
list_writes (list.LSet k index item) = true
list_writes (list.LInsert k side pivot item) = true
list_writes (list.LRem k count item) = true
list_writes (list.LTrim k first last) = true
list_writes (list.LMove from to taken put) = true
list_writes (list.RPopLPush from to) = true

-- on sets
abbrev pub set_writes : SetAsk → Bool
set_writes (set.SAdd k members) = true
set_writes (set.SRem k members) = true
set_writes (set.SIsMember k member) = false
set_writes (set.SMIsMember k members) = false
set_writes (set.SMembers k) = false
set_writes (set.SCard k) = false
set_writes (set.SPop k count) = true
set_writes (set.SRandMember k count) = false
set_writes (set.SMove from to member) = true
set_writes (set.Combine operation ks) = false

-- on sorted sets
abbrev pub zset_writes : ZSetAsk → Bool
zset_writes (zset.ZAdd k condition comparison reply pairs) = true
zset_writes (zset.ZIncrBy k by member) = true
zset_writes (zset.ZRem k members) = true
zset_writes (zset.ZCard k) = false
zset_writes (zset.ZCount k min max) = false
zset_writes (zset.ZScore k member) = false
zset_writes (zset.ZMScore k members) = false
zset_writes (zset.GetRank k member order) = false
zset_writes (zset.RangeByRank k first last order reply) = false
zset_writes (zset.RangeByScore k min max order limit reply) = false
zset_writes (zset.TakePairs k order count) = true
zset_writes (zset.ZRemRangeByRank k first last) = true
zset_writes (zset.ZRemRangeByScore k min max) = true

-- by its kind; no command to the server itself or to the node is one
abbrev pub writes : Ask → Bool
writes (ask.Texts command) = text_writes command
writes (ask.Keys command) = key_writes command
writes (ask.Hashes command) = hash_writes command
writes (ask.Lists command) = list_writes command
writes (ask.Sets command) = set_writes command
writes (ask.SortedSets command) = zset_writes command
writes (ask.Server command) = false
writes (ask.Node command) = false

-- by the name of a command
abbrev pub is_write : Name → Bool
-- commands.txt: is_write
is_write name.Get = false
is_write name.Set = true
is_write name.Del = true
is_write name.Unlink = true
is_write name.Exists = false
is_write name.KeyType = false
is_write name.StrLen = false
is_write name.GetRange = false
is_write name.MGet = false
is_write name.SetNx = true
is_write name.GetSet = true
is_write name.GetDel = true
is_write name.Keys = false
is_write name.Scan = false
is_write name.DbSize = false
is_write name.MSet = true
is_write name.MSetNx = true
is_write name.Append = true
is_write name.SetRange = true
is_write name.Incr = true
is_write name.Decr = true
is_write name.IncrBy = true
is_write name.DecrBy = true
is_write name.Rename = true
is_write name.RenameNx = true
is_write name.FlushAll = true
is_write name.FlushDb = true
is_write name.SetEx = true
is_write name.PSetEx = true
is_write name.Expire = true
is_write name.PExpire = true
is_write name.ExpireAt = true
is_write name.PExpireAt = true
is_write name.Ttl = false
is_write name.PTtl = false
is_write name.ExpireTime = false
is_write name.PExpireTime = false
is_write name.Persist = true
is_write name.HSet = true
is_write name.HMSet = true
is_write name.HSetNx = true
is_write name.HGet = false
is_write name.HMGet = false
is_write name.HGetAll = false
is_write name.HKeys = false
is_write name.HVals = false
is_write name.HDel = true
is_write name.HExists = false
is_write name.HLen = false
is_write name.HStrLen = false
is_write name.HIncrBy = true
is_write name.LPush = true
is_write name.RPush = true
is_write name.LPushX = true
is_write name.RPushX = true
is_write name.LPop = true
is_write name.RPop = true
is_write name.LLen = false
is_write name.LRange = false
is_write name.LIndex = false
is_write name.LSet = true
is_write name.LInsert = true
is_write name.LRem = true
is_write name.LTrim = true
is_write name.LMove = true
is_write name.RPopLPush = true
is_write name.SAdd = true
is_write name.SRem = true
is_write name.SIsMember = false
is_write name.SMIsMember = false
is_write name.SMembers = false
is_write name.SCard = false
is_write name.SPop = true
is_write name.SRandMember = false
is_write name.SMove = true
is_write name.SInter = false
is_write name.SUnion = false
is_write name.SDiff = false
is_write name.ZAdd = true
is_write name.ZIncrBy = true
is_write name.ZRem = true
is_write name.ZCard = false
is_write name.ZCount = false
is_write name.ZScore = false
is_write name.ZMScore = false
is_write name.ZRank = false
is_write name.ZRevRank = false
is_write name.ZRange = false
is_write name.ZRevRange = false
is_write name.ZRangeByScore = false
is_write name.ZRevRangeByScore = false
is_write name.ZPopMin = true
is_write name.ZPopMax = true
is_write name.ZRemRangeByRank = true
is_write name.ZRemRangeByScore = true
is_write name.Ping = false
is_write name.Echo = false
is_write name.Select = false
is_write name.Quit = false
is_write name.BgRewriteAof = false
is_write name.Info = false
is_write name.Role = false
is_write name.Shutdown = false
is_write name.Command = false
is_write name.Client = false
is_write name.Psync = false
is_write name.ReplConf = false
is_write name.ReplicaOf = false
is_write name.SlaveOf = false
is_write name.Multi = false
is_write name.Exec = false
is_write name.Discard = false

-- commands.txt ends

-- what is read under a name is a write where the table of commands says so
abbrev pub WritesAreTheTables : Type 0
WritesAreTheTables = (called : Name) (words : List (List ℕ)) (command : Ask) → SpellsNamed called words command → writes command ≡ is_write called

-- a command that is no write has no effect of its own
abbrev pub OthersHaveNoEffects : Type 0
OthersHaveNoEffects = (command : Ask) (given : Given) (m : Dataset) → writes command ≡ false → own_effects (command_of command given) given.now m ≡ []
