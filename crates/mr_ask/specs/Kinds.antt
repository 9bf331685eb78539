-- The kind of each command: what it works on.
use Rattle.mr_arguments.specs.declared.name.Name.{Name}
use Rattle.mr_arguments.specs.declared.name.Name.TheVariants as name

pub data Kind : Type 0 where
  -- strings
  texts : Kind
  -- keys, whatever they hold
  keys : Kind
  hashes : Kind
  lists : Kind
  sets : Kind
  sorted_sets : Kind
  -- the server itself
  server : Kind
  -- the node: its replicas, and whom it follows
  node : Kind

abbrev pub kind_of : Name → Kind
-- commands.txt: kind_of
kind_of name.Get = texts
kind_of name.Set = texts
kind_of name.Del = keys
kind_of name.Unlink = keys
kind_of name.Exists = keys
kind_of name.KeyType = keys
kind_of name.StrLen = texts
kind_of name.GetRange = texts
kind_of name.MGet = texts
kind_of name.SetNx = texts
kind_of name.GetSet = texts
kind_of name.GetDel = texts
kind_of name.Keys = keys
kind_of name.Scan = keys
kind_of name.DbSize = keys
kind_of name.MSet = texts
kind_of name.MSetNx = texts
kind_of name.Append = texts
kind_of name.SetRange = texts
kind_of name.Incr = texts
kind_of name.Decr = texts
kind_of name.IncrBy = texts
kind_of name.DecrBy = texts
kind_of name.Rename = keys
kind_of name.RenameNx = keys
kind_of name.FlushAll = keys
kind_of name.FlushDb = keys
kind_of name.SetEx = texts
kind_of name.PSetEx = texts
kind_of name.Expire = keys
kind_of name.PExpire = keys
kind_of name.ExpireAt = keys
kind_of name.PExpireAt = keys
kind_of name.Ttl = keys
kind_of name.PTtl = keys
kind_of name.ExpireTime = keys
kind_of name.PExpireTime = keys
kind_of name.Persist = keys
kind_of name.HSet = hashes
kind_of name.HMSet = hashes
kind_of name.HSetNx = hashes
kind_of name.HGet = hashes
kind_of name.HMGet = hashes
kind_of name.HGetAll = hashes
kind_of name.HKeys = hashes
kind_of name.HVals = hashes
kind_of name.HDel = hashes
kind_of name.HExists = hashes
kind_of name.HLen = hashes
kind_of name.HStrLen = hashes
kind_of name.HIncrBy = hashes
kind_of name.LPush = lists
kind_of name.RPush = lists
kind_of name.LPushX = lists
kind_of name.RPushX = lists
kind_of name.LPop = lists
kind_of name.RPop = lists
kind_of name.LLen = lists
kind_of name.LRange = lists
kind_of name.LIndex = lists
kind_of name.LSet = lists
kind_of name.LInsert = lists
kind_of name.LRem = lists
kind_of name.LTrim = lists
kind_of name.LMove = lists
kind_of name.RPopLPush = lists
kind_of name.SAdd = sets
kind_of name.SRem = sets
kind_of name.SIsMember = sets
kind_of name.SMIsMember = sets
kind_of name.SMembers = sets
kind_of name.SCard = sets
kind_of name.SPop = sets
kind_of name.SRandMember = sets
kind_of name.SMove = sets
kind_of name.SInter = sets
kind_of name.SUnion = sets
kind_of name.SDiff = sets
kind_of name.ZAdd = sorted_sets
kind_of name.ZIncrBy = sorted_sets
kind_of name.ZRem = sorted_sets
kind_of name.ZCard = sorted_sets
kind_of name.ZCount = sorted_sets
kind_of name.ZScore = sorted_sets
kind_of name.ZMScore = sorted_sets
kind_of name.ZRank = sorted_sets
kind_of name.ZRevRank = sorted_sets
kind_of name.ZRange = sorted_sets
kind_of name.ZRevRange = sorted_sets
kind_of name.ZRangeByScore = sorted_sets
kind_of name.ZRevRangeByScore = sorted_sets
kind_of name.ZPopMin = sorted_sets
kind_of name.ZPopMax = sorted_sets
kind_of name.ZRemRangeByRank = sorted_sets
kind_of name.ZRemRangeByScore = sorted_sets
kind_of name.Ping = server
kind_of name.Echo = server
kind_of name.Select = server
kind_of name.Quit = server
kind_of name.BgRewriteAof = server
kind_of name.Info = server
kind_of name.Role = server
kind_of name.Shutdown = server
kind_of name.Command = server
kind_of name.Client = server
kind_of name.Psync = node
kind_of name.ReplConf = node
kind_of name.ReplicaOf = node
kind_of name.SlaveOf = node
kind_of name.Multi = node
kind_of name.Exec = node
kind_of name.Discard = node

-- commands.txt ends
