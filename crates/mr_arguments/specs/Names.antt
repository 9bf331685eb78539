-- The names of the commands.
use Rattle.std.specs.Prelude.{ℕ, ◌+◌, List, [], ◌∷◌, Bool, nat_lt, if◌then◌else◌, Option, map, find, codes}
use Rattle.std.specs.Str.{bytes_eq}
use Rattle.mr_arguments.specs.declared.name.Name.{Name}
-- commands.txt: imported
use Rattle.mr_arguments.specs.declared.name.Name.TheVariants.{Get, Set, Del, Unlink, Exists, KeyType, StrLen, GetRange, MGet, SetNx, GetSet, GetDel, Keys, Scan, DbSize, MSet, MSetNx, Append, SetRange, Incr, Decr, IncrBy, DecrBy, Rename, RenameNx, FlushAll, FlushDb, SetEx, PSetEx, Expire, PExpire, ExpireAt, PExpireAt, Ttl, PTtl, ExpireTime, PExpireTime, Persist, HSet, HMSet, HSetNx, HGet, HMGet, HGetAll, HKeys, HVals, HDel, HExists, HLen, HStrLen, HIncrBy, LPush, RPush, LPushX, RPushX, LPop, RPop, LLen, LRange, LIndex, LSet, LInsert, LRem, LTrim, LMove, RPopLPush, SAdd, SRem, SIsMember, SMIsMember, SMembers, SCard, SPop, SRandMember, SMove, SInter, SUnion, SDiff, ZAdd, ZIncrBy, ZRem, ZCard, ZCount, ZScore, ZMScore, ZRank, ZRevRank, ZRange, ZRevRange, ZRangeByScore, ZRevRangeByScore, ZPopMin, ZPopMax, ZRemRangeByRank, ZRemRangeByScore, Ping, Echo, Select, Quit, BgRewriteAof, Info, Role, Shutdown, Command, Client, Psync, ReplConf, ReplicaOf, SlaveOf, Multi, Exec, Discard}

-- commands.txt ends

-- a letter from A to Z in lower case, and any other byte as it is
abbrev pub lowered_byte : ℕ → ℕ
lowered_byte c = if nat_lt c 65 then c else (if nat_lt c 91 then c + 32 else c)

abbrev pub lowered : List ℕ → List ℕ
lowered word = map lowered_byte word

-- in lower case
abbrev pub text_of : Name → List ℕ
-- commands.txt: text_of
text_of Get = codes "get"
text_of Set = codes "set"
text_of Del = codes "del"
text_of Unlink = codes "unlink"
text_of Exists = codes "exists"
text_of KeyType = codes "type"
text_of StrLen = codes "strlen"
text_of GetRange = codes "getrange"
text_of MGet = codes "mget"
text_of SetNx = codes "setnx"
text_of GetSet = codes "getset"
text_of GetDel = codes "getdel"
text_of Keys = codes "keys"
text_of Scan = codes "scan"
text_of DbSize = codes "dbsize"
text_of MSet = codes "mset"
text_of MSetNx = codes "msetnx"
text_of Append = codes "append"
text_of SetRange = codes "setrange"
text_of Incr = codes "incr"
text_of Decr = codes "decr"
text_of IncrBy = codes "incrby"
text_of DecrBy = codes "decrby"
text_of Rename = codes "rename"
text_of RenameNx = codes "renamenx"
text_of FlushAll = codes "flushall"
text_of FlushDb = codes "flushdb"
text_of SetEx = codes "setex"
text_of PSetEx = codes "psetex"
text_of Expire = codes "expire"
text_of PExpire = codes "pexpire"
text_of ExpireAt = codes "expireat"
text_of PExpireAt = codes "pexpireat"
text_of Ttl = codes "ttl"
text_of PTtl = codes "pttl"
text_of ExpireTime = codes "expiretime"
text_of PExpireTime = codes "pexpiretime"
text_of Persist = codes "persist"
text_of HSet = codes "hset"
text_of HMSet = codes "hmset"
text_of HSetNx = codes "hsetnx"
text_of HGet = codes "hget"
text_of HMGet = codes "hmget"
text_of HGetAll = codes "hgetall"
text_of HKeys = codes "hkeys"
text_of HVals = codes "hvals"
text_of HDel = codes "hdel"
text_of HExists = codes "hexists"
text_of HLen = codes "hlen"
text_of HStrLen = codes "hstrlen"
text_of HIncrBy = codes "hincrby"
text_of LPush = codes "lpush"
text_of RPush = codes "rpush"
text_of LPushX = codes "lpushx"
text_of RPushX = codes "rpushx"
text_of LPop = codes "lpop"
text_of RPop = codes "rpop"
text_of LLen = codes "llen"
text_of LRange = codes "lrange"
text_of LIndex = codes "lindex"
text_of LSet = codes "lset"
text_of LInsert = codes "linsert"
text_of LRem = codes "lrem"
text_of LTrim = codes "ltrim"
text_of LMove = codes "lmove"
text_of RPopLPush = codes "rpoplpush"
text_of SAdd = codes "sadd"
text_of SRem = codes "srem"
text_of SIsMember = codes "sismember"
text_of SMIsMember = codes "smismember"
text_of SMembers = codes "smembers"
text_of SCard = codes "scard"
text_of SPop = codes "spop"
text_of SRandMember = codes "srandmember"
text_of SMove = codes "smove"
text_of SInter = codes "sinter"
text_of SUnion = codes "sunion"
text_of SDiff = codes "sdiff"
text_of ZAdd = codes "zadd"
text_of ZIncrBy = codes "zincrby"
text_of ZRem = codes "zrem"
text_of ZCard = codes "zcard"
text_of ZCount = codes "zcount"
text_of ZScore = codes "zscore"
text_of ZMScore = codes "zmscore"
text_of ZRank = codes "zrank"
text_of ZRevRank = codes "zrevrank"
text_of ZRange = codes "zrange"
text_of ZRevRange = codes "zrevrange"
text_of ZRangeByScore = codes "zrangebyscore"
text_of ZRevRangeByScore = codes "zrevrangebyscore"
text_of ZPopMin = codes "zpopmin"
text_of ZPopMax = codes "zpopmax"
text_of ZRemRangeByRank = codes "zremrangebyrank"
text_of ZRemRangeByScore = codes "zremrangebyscore"
text_of Ping = codes "ping"
text_of Echo = codes "echo"
text_of Select = codes "select"
text_of Quit = codes "quit"
text_of BgRewriteAof = codes "bgrewriteaof"
text_of Info = codes "info"
text_of Role = codes "role"
text_of Shutdown = codes "shutdown"
text_of Command = codes "command"
text_of Client = codes "client"
text_of Psync = codes "psync"
text_of ReplConf = codes "replconf"
text_of ReplicaOf = codes "replicaof"
text_of SlaveOf = codes "slaveof"
text_of Multi = codes "multi"
text_of Exec = codes "exec"
text_of Discard = codes "discard"

-- commands.txt ends

-- all of them
abbrev pub names : List Name
-- commands.txt: names
names = Get ∷ Set ∷ Del ∷ Unlink ∷ Exists ∷ KeyType ∷ StrLen ∷ GetRange ∷ MGet ∷ SetNx ∷ GetSet ∷
    GetDel ∷ Keys ∷ Scan ∷ DbSize ∷ MSet ∷ MSetNx ∷ Append ∷ SetRange ∷ Incr ∷ Decr ∷ IncrBy ∷
    DecrBy ∷ Rename ∷ RenameNx ∷ FlushAll ∷ FlushDb ∷ SetEx ∷ PSetEx ∷ Expire ∷ PExpire ∷ ExpireAt ∷
    PExpireAt ∷ Ttl ∷ PTtl ∷ ExpireTime ∷ PExpireTime ∷ Persist ∷ HSet ∷ HMSet ∷ HSetNx ∷ HGet ∷
    HMGet ∷ HGetAll ∷ HKeys ∷ HVals ∷ HDel ∷ HExists ∷ HLen ∷ HStrLen ∷ HIncrBy ∷ LPush ∷ RPush ∷
    LPushX ∷ RPushX ∷ LPop ∷ RPop ∷ LLen ∷ LRange ∷ LIndex ∷ LSet ∷ LInsert ∷ LRem ∷ LTrim ∷ LMove ∷
    RPopLPush ∷ SAdd ∷ SRem ∷ SIsMember ∷ SMIsMember ∷ SMembers ∷ SCard ∷ SPop ∷ SRandMember ∷
    SMove ∷ SInter ∷ SUnion ∷ SDiff ∷ ZAdd ∷ ZIncrBy ∷ ZRem ∷ ZCard ∷ ZCount ∷ ZScore ∷ ZMScore ∷
    ZRank ∷ ZRevRank ∷ ZRange ∷ ZRevRange ∷ ZRangeByScore ∷ ZRevRangeByScore ∷ ZPopMin ∷ ZPopMax ∷
    ZRemRangeByRank ∷ ZRemRangeByScore ∷ Ping ∷ Echo ∷ Select ∷ Quit ∷ BgRewriteAof ∷ Info ∷ Role ∷
    Shutdown ∷ Command ∷ Client ∷ Psync ∷ ReplConf ∷ ReplicaOf ∷ SlaveOf ∷ Multi ∷ Exec ∷ Discard ∷
    []

-- commands.txt ends

abbrev pub is_named : List ℕ → Name → Bool
is_named text name = bytes_eq (text_of name) text

-- the command whose name this is
unfoldable pub named : List ℕ → Option Name
named text = find (is_named text) names
