-- The faults that the words of a request have, each word taken by itself. Answered is the one that comes first in the order of faults.
use Rattle.std.specs.Prelude.{ℕ, List, [], ◌∷◌, ◌++◌, if◌then◌else◌, Option, Some, None, option_map}
use Rattle.mr_arguments.specs.FaultOrder.{counted, in_reading}
use Rattle.mr_arguments.specs.Names.{lowered, named}
use Rattle.mr_arguments.specs.Pairing.{are_pairs}
use Rattle.mr_arguments.specs.Parts.{with, integer, count, offset}
use Rattle.mr_cmd_list.specs.Parts.{end_of, side_of}
use Rattle.mr_zset_options.specs.Parts.{bound, score}
use Rattle.mr_cmd_zset.specs.ArgumentFaults.{add_faults, range_faults, reversed_faults, score_range_faults}
use Rattle.mr_cmd_string.specs.Parts.{milliseconds, opposite, seconds}
use Rattle.mr_cmd_server.specs.Arguments.{database}
use Rattle.mr_arguments.specs.declared.name.Name.{Name}
use Rattle.mr_arguments.specs.declared.name.Name.TheVariants as name
use Rattle.mr_arguments.specs.declared.fault.AskFault.{AskFault}
use Rattle.mr_arguments.specs.declared.fault.AskFault.TheVariants.{Unknown}
use Rattle.mr_arguments.specs.declared.expiry.ExpiryUnit.TheVariants as unit
use Rattle.mr_cmd_string.specs.ArgumentFaults.{key_value_options}
use Rattle.mr_cmd_key.specs.ArgumentFaults.{cursor_and_options, time_and_condition, timing_alone}
use Rattle.mr_cmd_server.specs.ArgumentFaults.{of_client, saving_alone}
use Rattle.mr_cmd_node.specs.ArgumentFaults.{following_faults, replconf_faults}

-- ---- the faults of a word
abbrev pub Check : Type 0
Check = List ℕ → List AskFault

abbrev pub any_word : Check
any_word word = []

abbrev pub integer_check : Check
integer_check word = in_reading (integer word)

abbrev pub offset_check : Check
offset_check word = in_reading (offset word)

-- a number to be taken away
abbrev pub taken_away : Check
taken_away word = in_reading (with (integer word) opposite)

abbrev pub in_seconds : Check
in_seconds word = in_reading (with (integer word) seconds)

abbrev pub in_milliseconds : Check
in_milliseconds word = in_reading (with (integer word) milliseconds)

abbrev pub end_check : Check
end_check word = in_reading (end_of word)

abbrev pub side_check : Check
side_check word = in_reading (side_of word)

abbrev pub score_check : Check
score_check word = in_reading (score word)

abbrev pub bound_check : Check
bound_check word = in_reading (bound word)

abbrev pub database_check : Check
database_check word = in_reading (with (integer word) database)

-- ---- the faults of arguments; None where they are too few or too many
-- as many words as checks
abbrev pub each : List Check → List (List ℕ) → Option (List AskFault)
each [] [] = Some []
each [] (word ∷ words) = None
each (check ∷ checks) [] = None
each (check ∷ checks) (word ∷ words) = option_map (λ faults. check word ++ faults) (each checks words)

-- as many at least; there may be any behind them
abbrev pub each_first : List Check → List (List ℕ) → Option (List AskFault)
each_first [] words = Some []
each_first (check ∷ checks) [] = None
each_first (check ∷ checks) (word ∷ words) = option_map (λ faults. check word ++ faults) (each_first checks words)

abbrev pub one_at_most : List (List ℕ) → Option (List AskFault)
one_at_most [] = Some []
one_at_most (word ∷ []) = Some []
one_at_most _ = None

abbrev pub key_and_count : List (List ℕ) → Option (List AskFault)
key_and_count (key ∷ []) = Some []
key_and_count (key ∷ most ∷ []) = Some (in_reading (count most))
key_and_count _ = None

-- no pair is cut, and there is one
abbrev pub pairs_alone : List (List ℕ) → Option (List AskFault)
pairs_alone [] = None
pairs_alone words = if are_pairs words then Some [] else None

abbrev pub key_and_pairs : List (List ℕ) → Option (List AskFault)
key_and_pairs [] = None
key_and_pairs (key ∷ words) = pairs_alone words

-- ---- the faults that the arguments of each command have
abbrev pub argument_faults : Name → List (List ℕ) → List AskFault
-- commands.txt: argument_faults
argument_faults name.Get words = counted name.Get (each (any_word ∷ []) words)
argument_faults name.Set words = counted name.Set (key_value_options words)
argument_faults name.Del words = counted name.Del (each_first (any_word ∷ []) words)
argument_faults name.Unlink words = counted name.Unlink (each_first (any_word ∷ []) words)
argument_faults name.Exists words = counted name.Exists (each_first (any_word ∷ []) words)
argument_faults name.KeyType words = counted name.KeyType (each (any_word ∷ []) words)
argument_faults name.StrLen words = counted name.StrLen (each (any_word ∷ []) words)
argument_faults name.GetRange words = counted name.GetRange (each (any_word ∷ integer_check ∷ integer_check ∷ []) words)
argument_faults name.MGet words = counted name.MGet (each_first (any_word ∷ []) words)
argument_faults name.SetNx words = counted name.SetNx (each (any_word ∷ any_word ∷ []) words)
argument_faults name.GetSet words = counted name.GetSet (each (any_word ∷ any_word ∷ []) words)
argument_faults name.GetDel words = counted name.GetDel (each (any_word ∷ []) words)
argument_faults name.Keys words = counted name.Keys (each (any_word ∷ []) words)
argument_faults name.Scan words = counted name.Scan (cursor_and_options words)
argument_faults name.DbSize words = counted name.DbSize (each [] words)
argument_faults name.MSet words = counted name.MSet (pairs_alone words)
argument_faults name.MSetNx words = counted name.MSetNx (pairs_alone words)
argument_faults name.Append words = counted name.Append (each (any_word ∷ any_word ∷ []) words)
argument_faults name.SetRange words = counted name.SetRange (each (any_word ∷ offset_check ∷ any_word ∷ []) words)
argument_faults name.Incr words = counted name.Incr (each (any_word ∷ []) words)
argument_faults name.Decr words = counted name.Decr (each (any_word ∷ []) words)
argument_faults name.IncrBy words = counted name.IncrBy (each (any_word ∷ integer_check ∷ []) words)
argument_faults name.DecrBy words = counted name.DecrBy (each (any_word ∷ taken_away ∷ []) words)
argument_faults name.Rename words = counted name.Rename (each (any_word ∷ any_word ∷ []) words)
argument_faults name.RenameNx words = counted name.RenameNx (each (any_word ∷ any_word ∷ []) words)
argument_faults name.FlushAll words = timing_alone words
argument_faults name.FlushDb words = timing_alone words
argument_faults name.SetEx words = counted name.SetEx (each (any_word ∷ in_seconds ∷ any_word ∷ []) words)
argument_faults name.PSetEx words = counted name.PSetEx (each (any_word ∷ in_milliseconds ∷ any_word ∷ []) words)
argument_faults name.Expire words = counted name.Expire (time_and_condition unit.Seconds words)
argument_faults name.PExpire words = counted name.PExpire (time_and_condition unit.Milliseconds words)
argument_faults name.ExpireAt words = counted name.ExpireAt (time_and_condition unit.AtSecond words)
argument_faults name.PExpireAt words = counted name.PExpireAt (time_and_condition unit.AtMillisecond words)
argument_faults name.Ttl words = counted name.Ttl (each (any_word ∷ []) words)
argument_faults name.PTtl words = counted name.PTtl (each (any_word ∷ []) words)
argument_faults name.ExpireTime words = counted name.ExpireTime (each (any_word ∷ []) words)
argument_faults name.PExpireTime words = counted name.PExpireTime (each (any_word ∷ []) words)
argument_faults name.Persist words = counted name.Persist (each (any_word ∷ []) words)
argument_faults name.HSet words = counted name.HSet (key_and_pairs words)
argument_faults name.HMSet words = counted name.HMSet (key_and_pairs words)
argument_faults name.HSetNx words = counted name.HSetNx (each (any_word ∷ any_word ∷ any_word ∷ []) words)
argument_faults name.HGet words = counted name.HGet (each (any_word ∷ any_word ∷ []) words)
argument_faults name.HMGet words = counted name.HMGet (each_first (any_word ∷ any_word ∷ []) words)
argument_faults name.HGetAll words = counted name.HGetAll (each (any_word ∷ []) words)
argument_faults name.HKeys words = counted name.HKeys (each (any_word ∷ []) words)
argument_faults name.HVals words = counted name.HVals (each (any_word ∷ []) words)
argument_faults name.HDel words = counted name.HDel (each_first (any_word ∷ any_word ∷ []) words)
argument_faults name.HExists words = counted name.HExists (each (any_word ∷ any_word ∷ []) words)
argument_faults name.HLen words = counted name.HLen (each (any_word ∷ []) words)
argument_faults name.HStrLen words = counted name.HStrLen (each (any_word ∷ any_word ∷ []) words)
argument_faults name.HIncrBy words = counted name.HIncrBy (each (any_word ∷ any_word ∷ integer_check ∷ []) words)
argument_faults name.LPush words = counted name.LPush (each_first (any_word ∷ any_word ∷ []) words)
argument_faults name.RPush words = counted name.RPush (each_first (any_word ∷ any_word ∷ []) words)
argument_faults name.LPushX words = counted name.LPushX (each_first (any_word ∷ any_word ∷ []) words)
argument_faults name.RPushX words = counted name.RPushX (each_first (any_word ∷ any_word ∷ []) words)
argument_faults name.LPop words = counted name.LPop (key_and_count words)
argument_faults name.RPop words = counted name.RPop (key_and_count words)
argument_faults name.LLen words = counted name.LLen (each (any_word ∷ []) words)
argument_faults name.LRange words = counted name.LRange (each (any_word ∷ integer_check ∷ integer_check ∷ []) words)
argument_faults name.LIndex words = counted name.LIndex (each (any_word ∷ integer_check ∷ []) words)
argument_faults name.LSet words = counted name.LSet (each (any_word ∷ integer_check ∷ any_word ∷ []) words)
argument_faults name.LInsert words = counted name.LInsert (each (any_word ∷ side_check ∷ any_word ∷ any_word ∷ []) words)
argument_faults name.LRem words = counted name.LRem (each (any_word ∷ integer_check ∷ any_word ∷ []) words)
argument_faults name.LTrim words = counted name.LTrim (each (any_word ∷ integer_check ∷ integer_check ∷ []) words)
argument_faults name.LMove words = counted name.LMove (each (any_word ∷ any_word ∷ end_check ∷ end_check ∷ []) words)
argument_faults name.RPopLPush words = counted name.RPopLPush (each (any_word ∷ any_word ∷ []) words)
argument_faults name.SAdd words = counted name.SAdd (each_first (any_word ∷ any_word ∷ []) words)
argument_faults name.SRem words = counted name.SRem (each_first (any_word ∷ any_word ∷ []) words)
argument_faults name.SIsMember words = counted name.SIsMember (each (any_word ∷ any_word ∷ []) words)
argument_faults name.SMIsMember words = counted name.SMIsMember (each_first (any_word ∷ any_word ∷ []) words)
argument_faults name.SMembers words = counted name.SMembers (each (any_word ∷ []) words)
argument_faults name.SCard words = counted name.SCard (each (any_word ∷ []) words)
argument_faults name.SPop words = counted name.SPop (key_and_count words)
argument_faults name.SRandMember words = counted name.SRandMember (key_and_count words)
argument_faults name.SMove words = counted name.SMove (each (any_word ∷ any_word ∷ any_word ∷ []) words)
argument_faults name.SInter words = counted name.SInter (each_first (any_word ∷ []) words)
argument_faults name.SUnion words = counted name.SUnion (each_first (any_word ∷ []) words)
argument_faults name.SDiff words = counted name.SDiff (each_first (any_word ∷ []) words)
argument_faults name.ZAdd words = counted name.ZAdd (add_faults words)
argument_faults name.ZIncrBy words = counted name.ZIncrBy (each (any_word ∷ score_check ∷ any_word ∷ []) words)
argument_faults name.ZRem words = counted name.ZRem (each_first (any_word ∷ any_word ∷ []) words)
argument_faults name.ZCard words = counted name.ZCard (each (any_word ∷ []) words)
argument_faults name.ZCount words = counted name.ZCount (each (any_word ∷ bound_check ∷ bound_check ∷ []) words)
argument_faults name.ZScore words = counted name.ZScore (each (any_word ∷ any_word ∷ []) words)
argument_faults name.ZMScore words = counted name.ZMScore (each_first (any_word ∷ any_word ∷ []) words)
argument_faults name.ZRank words = counted name.ZRank (each (any_word ∷ any_word ∷ []) words)
argument_faults name.ZRevRank words = counted name.ZRevRank (each (any_word ∷ any_word ∷ []) words)
argument_faults name.ZRange words = counted name.ZRange (range_faults words)
argument_faults name.ZRevRange words = counted name.ZRevRange (reversed_faults words)
argument_faults name.ZRangeByScore words = counted name.ZRangeByScore (score_range_faults words)
argument_faults name.ZRevRangeByScore words = counted name.ZRevRangeByScore (score_range_faults words)
argument_faults name.ZPopMin words = counted name.ZPopMin (key_and_count words)
argument_faults name.ZPopMax words = counted name.ZPopMax (key_and_count words)
argument_faults name.ZRemRangeByRank words = counted name.ZRemRangeByRank (each (any_word ∷ integer_check ∷ integer_check ∷ []) words)
argument_faults name.ZRemRangeByScore words = counted name.ZRemRangeByScore (each (any_word ∷ bound_check ∷ bound_check ∷ []) words)
argument_faults name.Ping words = counted name.Ping (one_at_most words)
argument_faults name.Echo words = counted name.Echo (each (any_word ∷ []) words)
argument_faults name.Select words = counted name.Select (each (database_check ∷ []) words)
argument_faults name.Quit words = counted name.Quit (each [] words)
argument_faults name.BgRewriteAof words = counted name.BgRewriteAof (each [] words)
argument_faults name.Info words = counted name.Info (one_at_most words)
argument_faults name.Role words = counted name.Role (each [] words)
argument_faults name.Shutdown words = saving_alone words
argument_faults name.Command words = []
argument_faults name.Client words = of_client words
argument_faults name.Psync words = counted name.Psync (each (any_word ∷ integer_check ∷ []) words)
argument_faults name.ReplConf words = replconf_faults words
argument_faults name.ReplicaOf words = counted name.ReplicaOf (following_faults words)
argument_faults name.SlaveOf words = counted name.SlaveOf (following_faults words)
argument_faults name.Multi words = counted name.Multi (each [] words)
argument_faults name.Exec words = counted name.Exec (each [] words)
argument_faults name.Discard words = counted name.Discard (each [] words)

-- commands.txt ends

abbrev pub faults_behind : Option Name → List (List ℕ) → List AskFault
faults_behind None words = Unknown ∷ []
faults_behind (Some name) words = argument_faults name words

-- all faults that the words of a request have
abbrev pub word_faults : List (List ℕ) → List AskFault
word_faults [] = Unknown ∷ []
word_faults (word ∷ words) = faults_behind (named (lowered word)) words
