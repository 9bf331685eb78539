-- What is read is spelled by the words, and carries no others.
use Rattle.std.proofs.Common.{ℕ, ◌≡◌, List, [], ◌∷◌, Option, Some, None, inl, inr, refl}
use Rattle.std.specs.Prelude.{IsTrue, IfOk, Result, Ok, Err}
use Rattle.std.specs.List.{list_all}
use Rattle.mr_bytes.specs.Words.{fits}
use Rattle.mr_bytes.specs.declared.ends.End.TheVariants.{Left, Right}
use Rattle.mr_bytes.proofs.Both.{second}
use Rattle.mr_arguments.specs.Names.{lowered, named}
use Rattle.mr_cmd_string.specs.Arguments.{get, set, setex, psetex, strlen, getrange, mget, setnx, getset, getdel, mset, msetnx, append, setrange, step, incrby, decrby}
use Rattle.mr_cmd_key.specs.Arguments.{del, unlink, exists, key_type, keys, scan, dbsize, rename, renamenx, clear, expire, ttl, pttl, expiretime, pexpiretime, persist}
use Rattle.mr_cmd_hash.specs.Arguments.{hset, hsetnx, hget, hmget, list_hash, hdel, hexists, hlen, hstrlen, hincrby}
use Rattle.mr_cmd_list.specs.Arguments.{push, pop, llen, lrange, lindex, lset, linsert, lrem, ltrim, lmove, rpoplpush}
use Rattle.mr_cmd_set.specs.Arguments.{sadd, srem, sismember, smismember, smembers, scard, spop, srandmember, smove, combine}
use Rattle.mr_cmd_zset.specs.Arguments.{zadd, zincrby, zrem, zcard, zcount, zscore, zmscore, zrank, zrange, zrevrange, range_by_score, zpop, zremrangebyrank, zremrangebyscore}
use Rattle.mr_cmd_server.specs.Arguments.{ping, echo, select, quit, bgrewriteaof, info, role, shutdown, command, client}
use Rattle.mr_ask.specs.Asks.{asked, asked_by, reading}
use Rattle.mr_ask.specs.Carried.{AskFits}
use Rattle.mr_ask.specs.Spelled.{SpellsNamed, Spells}
use Rattle.mr_arguments.proofs.FitLemmas.{of_parts_fit}
use Rattle.mr_arguments.proofs.NameLemmas.{named_is}
use Rattle.mr_ask.proofs.Carries.{of_kind_carries}
use Rattle.mr_ask.proofs.TimeLemmas.{IsTimedAsk, reading_timed}
use Rattle.mr_cmd_string.proofs.ArgumentLemmas.{get_carries, set_carries, setex_carries, psetex_carries, strlen_carries, getrange_carries, mget_carries, setnx_carries, getset_carries, getdel_carries, mset_carries, msetnx_carries, append_carries, setrange_carries, incr_carries, decr_carries, incrby_carries, decrby_carries}
use Rattle.mr_cmd_key.proofs.ArgumentLemmas.{del_carries, unlink_carries, exists_carries, key_type_carries, keys_carries, scan_carries, dbsize_carries, rename_carries, renamenx_carries, clear_carries, expire_carries, ttl_carries, pttl_carries, expiretime_carries, pexpiretime_carries, persist_carries}
use Rattle.mr_cmd_hash.proofs.ArgumentLemmas.{hset_spells, hsetnx_spells, hget_spells, hmget_spells, list_hash_spells, hdel_spells, hexists_spells, hlen_spells, hstrlen_spells, hincrby_spells, hash_fits}
use Rattle.mr_cmd_list.proofs.ArgumentLemmas.{push_spells, pop_spells, llen_spells, lrange_spells, lindex_spells, lset_spells, linsert_spells, lrem_spells, ltrim_spells, lmove_spells, rpoplpush_spells, list_fits}
use Rattle.mr_cmd_set.proofs.ArgumentLemmas.{sadd_spells, srem_spells, sismember_spells, smismember_spells, smembers_spells, scard_spells, spop_spells, srandmember_spells, smove_spells, combine_spells, set_fits}
use Rattle.mr_cmd_zset.proofs.AddArgumentLemmas.{zadd_spells}
use Rattle.mr_cmd_zset.proofs.RangeArgumentLemmas.{zrange_spells, zrevrange_spells, range_by_score_spells}
use Rattle.mr_cmd_zset.proofs.ArgumentLemmas.{zincrby_spells, zrem_spells, zcard_spells, zcount_spells, zscore_spells, zmscore_spells, zrank_spells, zpop_spells, zremrangebyrank_spells, zremrangebyscore_spells, zset_fits}
use Rattle.mr_zset_options.specs.declared.choices.Order.TheVariants.{Ascending, Descending}
use Rattle.mr_cmd_server.proofs.ArgumentLemmas.{ping_carries, echo_carries, select_carries, quit_carries, bgrewriteaof_carries, info_carries, role_carries, shutdown_carries, command_carries, client_carries}
use Rattle.mr_cmd_string.proofs.FitLemmas.{texts_fit}
use Rattle.mr_cmd_key.proofs.FitLemmas.{keys_fit}
use Rattle.mr_cmd_server.proofs.FitLemmas.{carried_server}
use Rattle.mr_cmd_node.specs.Arguments.{psync, replconf, replicaof, multi, exec, discard}
use Rattle.mr_cmd_node.proofs.ArgumentLemmas.{psync_spells, replconf_spells, replicaof_spells, multi_spells, exec_spells, discard_spells}
use Rattle.mr_cmd_node.proofs.FitLemmas.{node_fits}
use Rattle.mr_arguments.specs.declared.name.Name.{Name}
use Rattle.mr_arguments.specs.declared.name.Name.TheVariants as name
use Rattle.mr_arguments.specs.declared.expiry.ExpiryUnit.TheVariants as unit
use Rattle.mr_cmd_string.specs.declared.text_ask.Amount.TheVariants as amount
use Rattle.mr_cmd_key.specs.declared.key_ask.Databases.TheVariants as databases
use Rattle.mr_cmd_hash.specs.declared.hash_ask.FieldsReply.TheVariants.{Added, Done}
use Rattle.mr_cmd_hash.specs.declared.hash_ask.HashPart.TheVariants.{Pairs, Fields, Values}
use Rattle.mr_cmd_list.specs.declared.list_ask.PushTo.TheVariants.{AnyKey, ExistingKey}
use Rattle.mr_cmd_set.specs.declared.set_ask.SetOperation.TheVariants.{Intersection, Union, Difference}
use Rattle.mr_ask.specs.declared.ask.Ask.{Ask}
use Rattle.mr_ask.specs.declared.ask.Ask.TheVariants as ask
use Rattle.mr_arguments.specs.declared.fault.AskFault.{AskFault}

reading_carries : (n : Name) (ws : List (List ℕ)) → IfOk (reading n ws) (SpellsNamed n ws)
-- commands.txt: reading_carries
reading_carries name.Get ws = of_kind_carries (get ws) ask.Texts (SpellsNamed name.Get ws) (get_carries ws)
reading_carries name.Set ws = of_kind_carries (set ws) ask.Texts (SpellsNamed name.Set ws) (set_carries ws)
reading_carries name.Del ws = of_kind_carries (del ws) ask.Keys (SpellsNamed name.Del ws) (del_carries ws)
reading_carries name.Unlink ws = of_kind_carries (unlink ws) ask.Keys (SpellsNamed name.Unlink ws) (unlink_carries ws)
reading_carries name.Exists ws = of_kind_carries (exists ws) ask.Keys (SpellsNamed name.Exists ws) (exists_carries ws)
reading_carries name.KeyType ws = of_kind_carries (key_type ws) ask.Keys (SpellsNamed name.KeyType ws) (key_type_carries ws)
reading_carries name.StrLen ws = of_kind_carries (strlen ws) ask.Texts (SpellsNamed name.StrLen ws) (strlen_carries ws)
reading_carries name.GetRange ws = of_kind_carries (getrange ws) ask.Texts (SpellsNamed name.GetRange ws) (getrange_carries ws)
reading_carries name.MGet ws = of_kind_carries (mget ws) ask.Texts (SpellsNamed name.MGet ws) (mget_carries ws)
reading_carries name.SetNx ws = of_kind_carries (setnx ws) ask.Texts (SpellsNamed name.SetNx ws) (setnx_carries ws)
reading_carries name.GetSet ws = of_kind_carries (getset ws) ask.Texts (SpellsNamed name.GetSet ws) (getset_carries ws)
reading_carries name.GetDel ws = of_kind_carries (getdel ws) ask.Texts (SpellsNamed name.GetDel ws) (getdel_carries ws)
reading_carries name.Keys ws = of_kind_carries (keys ws) ask.Keys (SpellsNamed name.Keys ws) (keys_carries ws)
reading_carries name.Scan ws = of_kind_carries (scan ws) ask.Keys (SpellsNamed name.Scan ws) (scan_carries ws)
reading_carries name.DbSize ws = of_kind_carries (dbsize ws) ask.Keys (SpellsNamed name.DbSize ws) (dbsize_carries ws)
reading_carries name.MSet ws = of_kind_carries (mset ws) ask.Texts (SpellsNamed name.MSet ws) (mset_carries ws)
reading_carries name.MSetNx ws = of_kind_carries (msetnx ws) ask.Texts (SpellsNamed name.MSetNx ws) (msetnx_carries ws)
reading_carries name.Append ws = of_kind_carries (append ws) ask.Texts (SpellsNamed name.Append ws) (append_carries ws)
reading_carries name.SetRange ws = of_kind_carries (setrange ws) ask.Texts (SpellsNamed name.SetRange ws) (setrange_carries ws)
reading_carries name.IncrBy ws = of_kind_carries (incrby ws) ask.Texts (SpellsNamed name.IncrBy ws) (incrby_carries ws)
reading_carries name.DecrBy ws = of_kind_carries (decrby ws) ask.Texts (SpellsNamed name.DecrBy ws) (decrby_carries ws)
reading_carries name.Rename ws = of_kind_carries (rename ws) ask.Keys (SpellsNamed name.Rename ws) (rename_carries ws)
reading_carries name.RenameNx ws = of_kind_carries (renamenx ws) ask.Keys (SpellsNamed name.RenameNx ws) (renamenx_carries ws)
reading_carries name.SetEx ws = of_kind_carries (setex ws) ask.Texts (SpellsNamed name.SetEx ws) (setex_carries ws)
reading_carries name.PSetEx ws = of_kind_carries (psetex ws) ask.Texts (SpellsNamed name.PSetEx ws) (psetex_carries ws)
reading_carries name.Ttl ws = of_kind_carries (ttl ws) ask.Keys (SpellsNamed name.Ttl ws) (ttl_carries ws)
reading_carries name.PTtl ws = of_kind_carries (pttl ws) ask.Keys (SpellsNamed name.PTtl ws) (pttl_carries ws)
reading_carries name.ExpireTime ws = of_kind_carries (expiretime ws) ask.Keys (SpellsNamed name.ExpireTime ws) (expiretime_carries ws)
reading_carries name.PExpireTime ws = of_kind_carries (pexpiretime ws) ask.Keys (SpellsNamed name.PExpireTime ws) (pexpiretime_carries ws)
reading_carries name.Persist ws = of_kind_carries (persist ws) ask.Keys (SpellsNamed name.Persist ws) (persist_carries ws)
reading_carries name.HSetNx ws = of_kind_carries (hsetnx ws) ask.Hashes (SpellsNamed name.HSetNx ws) (hsetnx_spells ws)
reading_carries name.HGet ws = of_kind_carries (hget ws) ask.Hashes (SpellsNamed name.HGet ws) (hget_spells ws)
reading_carries name.HMGet ws = of_kind_carries (hmget ws) ask.Hashes (SpellsNamed name.HMGet ws) (hmget_spells ws)
reading_carries name.HDel ws = of_kind_carries (hdel ws) ask.Hashes (SpellsNamed name.HDel ws) (hdel_spells ws)
reading_carries name.HExists ws = of_kind_carries (hexists ws) ask.Hashes (SpellsNamed name.HExists ws) (hexists_spells ws)
reading_carries name.HLen ws = of_kind_carries (hlen ws) ask.Hashes (SpellsNamed name.HLen ws) (hlen_spells ws)
reading_carries name.HStrLen ws = of_kind_carries (hstrlen ws) ask.Hashes (SpellsNamed name.HStrLen ws) (hstrlen_spells ws)
reading_carries name.HIncrBy ws = of_kind_carries (hincrby ws) ask.Hashes (SpellsNamed name.HIncrBy ws) (hincrby_spells ws)
reading_carries name.LLen ws = of_kind_carries (llen ws) ask.Lists (SpellsNamed name.LLen ws) (llen_spells ws)
reading_carries name.LRange ws = of_kind_carries (lrange ws) ask.Lists (SpellsNamed name.LRange ws) (lrange_spells ws)
reading_carries name.LIndex ws = of_kind_carries (lindex ws) ask.Lists (SpellsNamed name.LIndex ws) (lindex_spells ws)
reading_carries name.LSet ws = of_kind_carries (lset ws) ask.Lists (SpellsNamed name.LSet ws) (lset_spells ws)
reading_carries name.LInsert ws = of_kind_carries (linsert ws) ask.Lists (SpellsNamed name.LInsert ws) (linsert_spells ws)
reading_carries name.LRem ws = of_kind_carries (lrem ws) ask.Lists (SpellsNamed name.LRem ws) (lrem_spells ws)
reading_carries name.LTrim ws = of_kind_carries (ltrim ws) ask.Lists (SpellsNamed name.LTrim ws) (ltrim_spells ws)
reading_carries name.LMove ws = of_kind_carries (lmove ws) ask.Lists (SpellsNamed name.LMove ws) (lmove_spells ws)
reading_carries name.RPopLPush ws = of_kind_carries (rpoplpush ws) ask.Lists (SpellsNamed name.RPopLPush ws) (rpoplpush_spells ws)
reading_carries name.SAdd ws = of_kind_carries (sadd ws) ask.Sets (SpellsNamed name.SAdd ws) (sadd_spells ws)
reading_carries name.SRem ws = of_kind_carries (srem ws) ask.Sets (SpellsNamed name.SRem ws) (srem_spells ws)
reading_carries name.SIsMember ws = of_kind_carries (sismember ws) ask.Sets (SpellsNamed name.SIsMember ws) (sismember_spells ws)
reading_carries name.SMIsMember ws = of_kind_carries (smismember ws) ask.Sets (SpellsNamed name.SMIsMember ws) (smismember_spells ws)
reading_carries name.SMembers ws = of_kind_carries (smembers ws) ask.Sets (SpellsNamed name.SMembers ws) (smembers_spells ws)
reading_carries name.SCard ws = of_kind_carries (scard ws) ask.Sets (SpellsNamed name.SCard ws) (scard_spells ws)
reading_carries name.SPop ws = of_kind_carries (spop ws) ask.Sets (SpellsNamed name.SPop ws) (spop_spells ws)
reading_carries name.SRandMember ws = of_kind_carries (srandmember ws) ask.Sets (SpellsNamed name.SRandMember ws) (srandmember_spells ws)
reading_carries name.SMove ws = of_kind_carries (smove ws) ask.Sets (SpellsNamed name.SMove ws) (smove_spells ws)
reading_carries name.ZAdd ws = of_kind_carries (zadd ws) ask.SortedSets (SpellsNamed name.ZAdd ws) (zadd_spells ws)
reading_carries name.ZIncrBy ws = of_kind_carries (zincrby ws) ask.SortedSets (SpellsNamed name.ZIncrBy ws) (zincrby_spells ws)
reading_carries name.ZRem ws = of_kind_carries (zrem ws) ask.SortedSets (SpellsNamed name.ZRem ws) (zrem_spells ws)
reading_carries name.ZCard ws = of_kind_carries (zcard ws) ask.SortedSets (SpellsNamed name.ZCard ws) (zcard_spells ws)
reading_carries name.ZCount ws = of_kind_carries (zcount ws) ask.SortedSets (SpellsNamed name.ZCount ws) (zcount_spells ws)
reading_carries name.ZScore ws = of_kind_carries (zscore ws) ask.SortedSets (SpellsNamed name.ZScore ws) (zscore_spells ws)
reading_carries name.ZMScore ws = of_kind_carries (zmscore ws) ask.SortedSets (SpellsNamed name.ZMScore ws) (zmscore_spells ws)
reading_carries name.ZRange ws = of_kind_carries (zrange ws) ask.SortedSets (SpellsNamed name.ZRange ws) (zrange_spells ws)
reading_carries name.ZRevRange ws = of_kind_carries (zrevrange ws) ask.SortedSets (SpellsNamed name.ZRevRange ws) (zrevrange_spells ws)
reading_carries name.ZRemRangeByRank ws = of_kind_carries (zremrangebyrank ws) ask.SortedSets (SpellsNamed name.ZRemRangeByRank ws) (zremrangebyrank_spells ws)
reading_carries name.ZRemRangeByScore ws = of_kind_carries (zremrangebyscore ws) ask.SortedSets (SpellsNamed name.ZRemRangeByScore ws) (zremrangebyscore_spells ws)
reading_carries name.Ping ws = of_kind_carries (ping ws) ask.Server (SpellsNamed name.Ping ws) (ping_carries ws)
reading_carries name.Echo ws = of_kind_carries (echo ws) ask.Server (SpellsNamed name.Echo ws) (echo_carries ws)
reading_carries name.Select ws = of_kind_carries (select ws) ask.Server (SpellsNamed name.Select ws) (select_carries ws)
reading_carries name.Quit ws = of_kind_carries (quit ws) ask.Server (SpellsNamed name.Quit ws) (quit_carries ws)
reading_carries name.BgRewriteAof ws = of_kind_carries (bgrewriteaof ws) ask.Server (SpellsNamed name.BgRewriteAof ws) (bgrewriteaof_carries ws)
reading_carries name.Info ws = of_kind_carries (info ws) ask.Server (SpellsNamed name.Info ws) (info_carries ws)
reading_carries name.Role ws = of_kind_carries (role ws) ask.Server (SpellsNamed name.Role ws) (role_carries ws)
reading_carries name.Shutdown ws = of_kind_carries (shutdown ws) ask.Server (SpellsNamed name.Shutdown ws) (shutdown_carries ws)
reading_carries name.Command ws = of_kind_carries (command ws) ask.Server (SpellsNamed name.Command ws) (command_carries ws)
reading_carries name.Client ws = of_kind_carries (client ws) ask.Server (SpellsNamed name.Client ws) (client_carries ws)
reading_carries name.Psync ws = of_kind_carries (psync ws) ask.Node (SpellsNamed name.Psync ws) (psync_spells ws)
reading_carries name.ReplConf ws = of_kind_carries (replconf ws) ask.Node (SpellsNamed name.ReplConf ws) (replconf_spells ws)
reading_carries name.Multi ws = of_kind_carries (multi ws) ask.Node (SpellsNamed name.Multi ws) (multi_spells ws)
reading_carries name.Exec ws = of_kind_carries (exec ws) ask.Node (SpellsNamed name.Exec ws) (exec_spells ws)
reading_carries name.Discard ws = of_kind_carries (discard ws) ask.Node (SpellsNamed name.Discard ws) (discard_spells ws)
-- commands.txt ends
-- those that take more than their arguments
reading_carries name.Incr ws = of_kind_carries (step name.Incr amount.One ws) ask.Texts (SpellsNamed name.Incr ws) (incr_carries ws)
reading_carries name.Decr ws = of_kind_carries (step name.Decr amount.MinusOne ws) ask.Texts (SpellsNamed name.Decr ws) (decr_carries ws)
reading_carries name.FlushAll ws = of_kind_carries (clear databases.All ws) ask.Keys (SpellsNamed name.FlushAll ws) (clear_carries name.FlushAll databases.All (λ t. refl) ws)
reading_carries name.FlushDb ws = of_kind_carries (clear databases.Selected ws) ask.Keys (SpellsNamed name.FlushDb ws) (clear_carries name.FlushDb databases.Selected (λ t. refl) ws)
reading_carries name.Expire ws = of_kind_carries (expire name.Expire unit.Seconds ws) ask.Keys (SpellsNamed name.Expire ws) (expire_carries name.Expire unit.Seconds (λ k m c. refl) ws)
reading_carries name.PExpire ws = of_kind_carries (expire name.PExpire unit.Milliseconds ws) ask.Keys (SpellsNamed name.PExpire ws) (expire_carries name.PExpire unit.Milliseconds (λ k m c. refl) ws)
reading_carries name.ExpireAt ws = of_kind_carries (expire name.ExpireAt unit.AtSecond ws) ask.Keys (SpellsNamed name.ExpireAt ws) (expire_carries name.ExpireAt unit.AtSecond (λ k m c. refl) ws)
reading_carries name.PExpireAt ws = of_kind_carries (expire name.PExpireAt unit.AtMillisecond ws) ask.Keys (SpellsNamed name.PExpireAt ws) (expire_carries name.PExpireAt unit.AtMillisecond (λ k m c. refl) ws)
reading_carries name.HSet ws = of_kind_carries (hset name.HSet Added ws) ask.Hashes (SpellsNamed name.HSet ws) (hset_spells name.HSet Added (λ k ps. refl) ws)
reading_carries name.HMSet ws = of_kind_carries (hset name.HMSet Done ws) ask.Hashes (SpellsNamed name.HMSet ws) (hset_spells name.HMSet Done (λ k ps. refl) ws)
reading_carries name.HGetAll ws = of_kind_carries (list_hash name.HGetAll Pairs ws) ask.Hashes (SpellsNamed name.HGetAll ws) (list_hash_spells name.HGetAll Pairs (λ k. refl) ws)
reading_carries name.HKeys ws = of_kind_carries (list_hash name.HKeys Fields ws) ask.Hashes (SpellsNamed name.HKeys ws) (list_hash_spells name.HKeys Fields (λ k. refl) ws)
reading_carries name.HVals ws = of_kind_carries (list_hash name.HVals Values ws) ask.Hashes (SpellsNamed name.HVals ws) (list_hash_spells name.HVals Values (λ k. refl) ws)
reading_carries name.LPush ws = of_kind_carries (push name.LPush Left AnyKey ws) ask.Lists (SpellsNamed name.LPush ws) (push_spells name.LPush Left AnyKey (λ k items. refl) ws)
reading_carries name.RPush ws = of_kind_carries (push name.RPush Right AnyKey ws) ask.Lists (SpellsNamed name.RPush ws) (push_spells name.RPush Right AnyKey (λ k items. refl) ws)
reading_carries name.LPushX ws = of_kind_carries (push name.LPushX Left ExistingKey ws) ask.Lists (SpellsNamed name.LPushX ws) (push_spells name.LPushX Left ExistingKey (λ k items. refl) ws)
reading_carries name.RPushX ws = of_kind_carries (push name.RPushX Right ExistingKey ws) ask.Lists (SpellsNamed name.RPushX ws) (push_spells name.RPushX Right ExistingKey (λ k items. refl) ws)
reading_carries name.LPop ws = of_kind_carries (pop name.LPop Left ws) ask.Lists (SpellsNamed name.LPop ws) (pop_spells name.LPop Left (λ k c. refl) ws)
reading_carries name.RPop ws = of_kind_carries (pop name.RPop Right ws) ask.Lists (SpellsNamed name.RPop ws) (pop_spells name.RPop Right (λ k c. refl) ws)
reading_carries name.SInter ws = of_kind_carries (combine name.SInter Intersection ws) ask.Sets (SpellsNamed name.SInter ws) (combine_spells name.SInter Intersection (λ ks. refl) ws)
reading_carries name.SUnion ws = of_kind_carries (combine name.SUnion Union ws) ask.Sets (SpellsNamed name.SUnion ws) (combine_spells name.SUnion Union (λ ks. refl) ws)
reading_carries name.SDiff ws = of_kind_carries (combine name.SDiff Difference ws) ask.Sets (SpellsNamed name.SDiff ws) (combine_spells name.SDiff Difference (λ ks. refl) ws)
reading_carries name.ZRank ws = of_kind_carries (zrank name.ZRank Ascending ws) ask.SortedSets (SpellsNamed name.ZRank ws) (zrank_spells name.ZRank Ascending refl ws)
reading_carries name.ZRevRank ws = of_kind_carries (zrank name.ZRevRank Descending ws) ask.SortedSets (SpellsNamed name.ZRevRank ws) (zrank_spells name.ZRevRank Descending refl ws)
reading_carries name.ZRangeByScore ws = of_kind_carries (range_by_score name.ZRangeByScore Ascending ws) ask.SortedSets (SpellsNamed name.ZRangeByScore ws) (range_by_score_spells name.ZRangeByScore Ascending refl ws)
reading_carries name.ZRevRangeByScore ws = of_kind_carries (range_by_score name.ZRevRangeByScore Descending ws) ask.SortedSets (SpellsNamed name.ZRevRangeByScore ws) (range_by_score_spells name.ZRevRangeByScore Descending refl ws)
reading_carries name.ZPopMin ws = of_kind_carries (zpop name.ZPopMin Ascending ws) ask.SortedSets (SpellsNamed name.ZPopMin ws) (zpop_spells name.ZPopMin Ascending refl ws)
reading_carries name.ZPopMax ws = of_kind_carries (zpop name.ZPopMax Descending ws) ask.SortedSets (SpellsNamed name.ZPopMax ws) (zpop_spells name.ZPopMax Descending refl ws)
reading_carries name.ReplicaOf ws = of_kind_carries (replicaof name.ReplicaOf ws) ask.Node (SpellsNamed name.ReplicaOf ws) (replicaof_spells name.ReplicaOf (inl refl) ws)
reading_carries name.SlaveOf ws = of_kind_carries (replicaof name.SlaveOf ws) ask.Node (SpellsNamed name.SlaveOf ws) (replicaof_spells name.SlaveOf (inr refl) ws)

carried_by : (w : List ℕ) (o : Option Name) (ws : List (List ℕ)) → named (lowered w) ≡ o → IfOk (asked_by o ws) (Spells (w ∷ ws))
carried_by w None ws h = tt
carried_by w (Some n) ws h = spelled (reading n ws) (reading_carries n ws)
  where
    spelled : (r : Result Ask AskFault) → IfOk r (SpellsNamed n ws) → IfOk r (Spells (w ∷ ws))
    spelled (Ok a) c = (n, (named_is (lowered w) n h, c))
    spelled (Err f) c = tt

pub asked_spelled : (ws : List (List ℕ)) → IfOk (asked ws) (Spells ws)
asked_spelled [] = tt
asked_spelled (w ∷ ws) = carried_by w (named (lowered w)) ws refl

arguments_fit : (n : Name) (ws : List (List ℕ)) (a : Ask) → SpellsNamed n ws a → IsTimedAsk a → IsTrue (list_all fits ws) → AskFits a
arguments_fit n ws (ask.Texts a) s t h = (texts_fit ws a s.parts h, t)
arguments_fit n ws (ask.Keys a) s t h = keys_fit ws a s.parts h
arguments_fit n ws (ask.Hashes a) s t h = hash_fits n ws a s h
arguments_fit n ws (ask.Lists a) s t h = list_fits n ws a s h
arguments_fit n ws (ask.Sets a) s t h = set_fits n ws a s h
arguments_fit n ws (ask.SortedSets a) s t h = zset_fits n ws a s h
arguments_fit n ws (ask.Server a) s t h = of_parts_fit ws _ _ (carried_server a) s.parts h
arguments_fit n ws (ask.Node a) s t h = node_fits n ws a s h

fitting_words : (n : Name) (ws : List (List ℕ)) (r : Result Ask AskFault) → reading n ws ≡ r → IfOk r (SpellsNamed n ws) → IsTrue (list_all fits ws) → IfOk r AskFits
fitting_words n ws (Err f) is s h = tt
fitting_words n ws (Ok a) is s h = arguments_fit n ws a s (reading_timed n ws a is s) h

fit_by : (o : Option Name) (ws : List (List ℕ)) → IsTrue (list_all fits ws) → IfOk (asked_by o ws) AskFits
fit_by None ws h = tt
fit_by (Some n) ws h = fitting_words n ws (reading n ws) refl (reading_carries n ws) h

pub asked_fits : (ws : List (List ℕ)) → IsTrue (list_all fits ws) → IfOk (asked ws) AskFits
asked_fits [] h = tt
asked_fits (w ∷ ws) h = fit_by (named (lowered w)) ws (second (fits w) _ h)
