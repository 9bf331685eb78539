-- Which words are which command.
use Rattle.std.specs.Prelude.{ℕ, List, [], ◌∷◌, Option, Some, None, Result, Ok, Err}
use Rattle.mr_bytes.specs.declared.ends.End.TheVariants.{Left, Right}
use Rattle.mr_arguments.specs.Names.{lowered, named}
use Rattle.mr_arguments.specs.Parts.{with}
use Rattle.mr_cmd_string.specs.Arguments.{get, set, setex, psetex, strlen, getrange, mget, setnx, getset, getdel, mset, msetnx, append, setrange, step, incrby, decrby}
use Rattle.mr_cmd_key.specs.Arguments.{del, unlink, exists, key_type, keys, scan, dbsize, rename, renamenx, clear, expire, ttl, pttl, expiretime, pexpiretime, persist}
use Rattle.mr_cmd_hash.specs.Arguments.{hset, hsetnx, hget, hmget, list_hash, hdel, hexists, hlen, hstrlen, hincrby}
use Rattle.mr_cmd_list.specs.Arguments.{push, pop, llen, lrange, lindex, lset, linsert, lrem, ltrim, lmove, rpoplpush}
use Rattle.mr_cmd_set.specs.Arguments.{sadd, srem, sismember, smismember, smembers, scard, spop, srandmember, smove, combine}
use Rattle.mr_cmd_zset.specs.Arguments.{zadd, zincrby, zrem, zcard, zcount, zscore, zmscore, zrank, zrange, zrevrange, range_by_score, zpop, zremrangebyrank, zremrangebyscore}
use Rattle.mr_cmd_server.specs.Arguments.{ping, echo, select, quit, bgrewriteaof, info, role, shutdown, command, client}
use Rattle.mr_cmd_node.specs.Arguments.{psync, replconf, replicaof, multi, exec, discard}
use Rattle.mr_arguments.specs.declared.name.Name.{Name}
use Rattle.mr_arguments.specs.declared.name.Name.TheVariants as name
use Rattle.mr_arguments.specs.declared.fault.AskFault.{AskFault}
use Rattle.mr_arguments.specs.declared.fault.AskFault.TheVariants.{Unknown}
use Rattle.mr_arguments.specs.declared.expiry.ExpiryUnit.TheVariants as unit
use Rattle.mr_cmd_string.specs.declared.text_ask.Amount.TheVariants as amount
use Rattle.mr_cmd_key.specs.declared.key_ask.Databases.TheVariants as databases
use Rattle.mr_cmd_hash.specs.declared.hash_ask.FieldsReply.TheVariants.{Added, Done}
use Rattle.mr_cmd_hash.specs.declared.hash_ask.HashPart.TheVariants.{Pairs, Fields, Values}
use Rattle.mr_cmd_list.specs.declared.list_ask.PushTo.TheVariants.{AnyKey, ExistingKey}
use Rattle.mr_cmd_set.specs.declared.set_ask.SetOperation.TheVariants.{Intersection, Union, Difference}
use Rattle.mr_zset_options.specs.declared.choices.Order.TheVariants.{Ascending, Descending}
use Rattle.mr_ask.specs.declared.group.Group.{Group}
use Rattle.mr_ask.specs.declared.group.Group.TheVariants as group
use Rattle.mr_ask.specs.declared.ask.Ask.{Ask}
use Rattle.mr_ask.specs.declared.ask.Ask.TheVariants as ask

-- what is read of one kind, as a command
abbrev pub of_kind : {A : Type 0} → (A → Ask) → Result A AskFault → Result Ask AskFault
of_kind kind reading = with reading (λ command. Ok (kind command))

-- the table: how the arguments of each command are read
abbrev pub reading : Name → List (List ℕ) → Result Ask AskFault
-- commands.txt: reading
reading name.Get arguments = of_kind ask.Texts (get arguments)
reading name.Set arguments = of_kind ask.Texts (set arguments)
reading name.Del arguments = of_kind ask.Keys (del arguments)
reading name.Unlink arguments = of_kind ask.Keys (unlink arguments)
reading name.Exists arguments = of_kind ask.Keys (exists arguments)
reading name.KeyType arguments = of_kind ask.Keys (key_type arguments)
reading name.StrLen arguments = of_kind ask.Texts (strlen arguments)
reading name.GetRange arguments = of_kind ask.Texts (getrange arguments)
reading name.MGet arguments = of_kind ask.Texts (mget arguments)
reading name.SetNx arguments = of_kind ask.Texts (setnx arguments)
reading name.GetSet arguments = of_kind ask.Texts (getset arguments)
reading name.GetDel arguments = of_kind ask.Texts (getdel arguments)
reading name.Keys arguments = of_kind ask.Keys (keys arguments)
reading name.Scan arguments = of_kind ask.Keys (scan arguments)
reading name.DbSize arguments = of_kind ask.Keys (dbsize arguments)
reading name.MSet arguments = of_kind ask.Texts (mset arguments)
reading name.MSetNx arguments = of_kind ask.Texts (msetnx arguments)
reading name.Append arguments = of_kind ask.Texts (append arguments)
reading name.SetRange arguments = of_kind ask.Texts (setrange arguments)
reading name.Incr arguments = of_kind ask.Texts (step name.Incr amount.One arguments)
reading name.Decr arguments = of_kind ask.Texts (step name.Decr amount.MinusOne arguments)
reading name.IncrBy arguments = of_kind ask.Texts (incrby arguments)
reading name.DecrBy arguments = of_kind ask.Texts (decrby arguments)
reading name.Rename arguments = of_kind ask.Keys (rename arguments)
reading name.RenameNx arguments = of_kind ask.Keys (renamenx arguments)
reading name.FlushAll arguments = of_kind ask.Keys (clear databases.All arguments)
reading name.FlushDb arguments = of_kind ask.Keys (clear databases.Selected arguments)
reading name.SetEx arguments = of_kind ask.Texts (setex arguments)
reading name.PSetEx arguments = of_kind ask.Texts (psetex arguments)
reading name.Expire arguments = of_kind ask.Keys (expire name.Expire unit.Seconds arguments)
reading name.PExpire arguments = of_kind ask.Keys (expire name.PExpire unit.Milliseconds arguments)
reading name.ExpireAt arguments = of_kind ask.Keys (expire name.ExpireAt unit.AtSecond arguments)
reading name.PExpireAt arguments = of_kind ask.Keys (expire name.PExpireAt unit.AtMillisecond arguments)
reading name.Ttl arguments = of_kind ask.Keys (ttl arguments)
reading name.PTtl arguments = of_kind ask.Keys (pttl arguments)
reading name.ExpireTime arguments = of_kind ask.Keys (expiretime arguments)
reading name.PExpireTime arguments = of_kind ask.Keys (pexpiretime arguments)
reading name.Persist arguments = of_kind ask.Keys (persist arguments)
reading name.HSet arguments = of_kind ask.Hashes (hset name.HSet Added arguments)
reading name.HMSet arguments = of_kind ask.Hashes (hset name.HMSet Done arguments)
reading name.HSetNx arguments = of_kind ask.Hashes (hsetnx arguments)
reading name.HGet arguments = of_kind ask.Hashes (hget arguments)
reading name.HMGet arguments = of_kind ask.Hashes (hmget arguments)
reading name.HGetAll arguments = of_kind ask.Hashes (list_hash name.HGetAll Pairs arguments)
reading name.HKeys arguments = of_kind ask.Hashes (list_hash name.HKeys Fields arguments)
reading name.HVals arguments = of_kind ask.Hashes (list_hash name.HVals Values arguments)
reading name.HDel arguments = of_kind ask.Hashes (hdel arguments)
reading name.HExists arguments = of_kind ask.Hashes (hexists arguments)
reading name.HLen arguments = of_kind ask.Hashes (hlen arguments)
reading name.HStrLen arguments = of_kind ask.Hashes (hstrlen arguments)
reading name.HIncrBy arguments = of_kind ask.Hashes (hincrby arguments)
reading name.LPush arguments = of_kind ask.Lists (push name.LPush Left AnyKey arguments)
reading name.RPush arguments = of_kind ask.Lists (push name.RPush Right AnyKey arguments)
reading name.LPushX arguments = of_kind ask.Lists (push name.LPushX Left ExistingKey arguments)
reading name.RPushX arguments = of_kind ask.Lists (push name.RPushX Right ExistingKey arguments)
reading name.LPop arguments = of_kind ask.Lists (pop name.LPop Left arguments)
reading name.RPop arguments = of_kind ask.Lists (pop name.RPop Right arguments)
reading name.LLen arguments = of_kind ask.Lists (llen arguments)
reading name.LRange arguments = of_kind ask.Lists (lrange arguments)
reading name.LIndex arguments = of_kind ask.Lists (lindex arguments)
reading name.LSet arguments = of_kind ask.Lists (lset arguments)
reading name.LInsert arguments = of_kind ask.Lists (linsert arguments)
reading name.LRem arguments = of_kind ask.Lists (lrem arguments)
reading name.LTrim arguments = of_kind ask.Lists (ltrim arguments)
reading name.LMove arguments = of_kind ask.Lists (lmove arguments)
reading name.RPopLPush arguments = of_kind ask.Lists (rpoplpush arguments)
reading name.SAdd arguments = of_kind ask.Sets (sadd arguments)
reading name.SRem arguments = of_kind ask.Sets (srem arguments)
reading name.SIsMember arguments = of_kind ask.Sets (sismember arguments)
reading name.SMIsMember arguments = of_kind ask.Sets (smismember arguments)
reading name.SMembers arguments = of_kind ask.Sets (smembers arguments)
reading name.SCard arguments = of_kind ask.Sets (scard arguments)
reading name.SPop arguments = of_kind ask.Sets (spop arguments)
reading name.SRandMember arguments = of_kind ask.Sets (srandmember arguments)
reading name.SMove arguments = of_kind ask.Sets (smove arguments)
reading name.SInter arguments = of_kind ask.Sets (combine name.SInter Intersection arguments)
reading name.SUnion arguments = of_kind ask.Sets (combine name.SUnion Union arguments)
reading name.SDiff arguments = of_kind ask.Sets (combine name.SDiff Difference arguments)
reading name.ZAdd arguments = of_kind ask.SortedSets (zadd arguments)
reading name.ZIncrBy arguments = of_kind ask.SortedSets (zincrby arguments)
reading name.ZRem arguments = of_kind ask.SortedSets (zrem arguments)
reading name.ZCard arguments = of_kind ask.SortedSets (zcard arguments)
reading name.ZCount arguments = of_kind ask.SortedSets (zcount arguments)
reading name.ZScore arguments = of_kind ask.SortedSets (zscore arguments)
reading name.ZMScore arguments = of_kind ask.SortedSets (zmscore arguments)
reading name.ZRank arguments = of_kind ask.SortedSets (zrank name.ZRank Ascending arguments)
reading name.ZRevRank arguments = of_kind ask.SortedSets (zrank name.ZRevRank Descending arguments)
reading name.ZRange arguments = of_kind ask.SortedSets (zrange arguments)
reading name.ZRevRange arguments = of_kind ask.SortedSets (zrevrange arguments)
reading name.ZRangeByScore arguments = of_kind ask.SortedSets (range_by_score name.ZRangeByScore Ascending arguments)
reading name.ZRevRangeByScore arguments = of_kind ask.SortedSets (range_by_score name.ZRevRangeByScore Descending arguments)
reading name.ZPopMin arguments = of_kind ask.SortedSets (zpop name.ZPopMin Ascending arguments)
reading name.ZPopMax arguments = of_kind ask.SortedSets (zpop name.ZPopMax Descending arguments)
reading name.ZRemRangeByRank arguments = of_kind ask.SortedSets (zremrangebyrank arguments)
reading name.ZRemRangeByScore arguments = of_kind ask.SortedSets (zremrangebyscore arguments)
reading name.Ping arguments = of_kind ask.Server (ping arguments)
reading name.Echo arguments = of_kind ask.Server (echo arguments)
reading name.Select arguments = of_kind ask.Server (select arguments)
reading name.Quit arguments = of_kind ask.Server (quit arguments)
reading name.BgRewriteAof arguments = of_kind ask.Server (bgrewriteaof arguments)
reading name.Info arguments = of_kind ask.Server (info arguments)
reading name.Role arguments = of_kind ask.Server (role arguments)
reading name.Shutdown arguments = of_kind ask.Server (shutdown arguments)
reading name.Command arguments = of_kind ask.Server (command arguments)
reading name.Client arguments = of_kind ask.Server (client arguments)
reading name.Psync arguments = of_kind ask.Node (psync arguments)
reading name.ReplConf arguments = of_kind ask.Node (replconf arguments)
reading name.ReplicaOf arguments = of_kind ask.Node (replicaof name.ReplicaOf arguments)
reading name.SlaveOf arguments = of_kind ask.Node (replicaof name.SlaveOf arguments)
reading name.Multi arguments = of_kind ask.Node (multi arguments)
reading name.Exec arguments = of_kind ask.Node (exec arguments)
reading name.Discard arguments = of_kind ask.Node (discard arguments)

-- commands.txt ends

abbrev pub asked_by : Option Name → List (List ℕ) → Result Ask AskFault
asked_by None arguments = Err Unknown
asked_by (Some name) arguments = reading name arguments

-- the command that these words are, or why they are none
abbrev pub asked : List (List ℕ) → Result Ask AskFault
asked [] = Err Unknown
asked (name ∷ arguments) = asked_by (named (lowered name)) arguments

-- what a command is about: strings and keys, collections, or the server itself and the node
abbrev pub group_of : Ask → Group
group_of (ask.Texts command) = group.Keys
group_of (ask.Keys command) = group.Keys
group_of (ask.Hashes command) = group.Collections
group_of (ask.Lists command) = group.Collections
group_of (ask.Sets command) = group.Collections
group_of (ask.SortedSets command) = group.Collections
group_of (ask.Server command) = group.Server
group_of (ask.Node command) = group.Server
