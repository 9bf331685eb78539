-- Answered is the fault that comes first among those that the words have.
use Rattle.std.proofs.Common.{ℕ, ℤ, ◌≡◌, List, [], ◌∷◌, ◌++◌, Bool, true, false, Option, Some, None, refl, ◌∙◌}
use Rattle.std.specs.Prelude.{if◌then◌else◌, Result, Ok, Err}
use Rattle.std.specs.Option.{ok_or}
use Rattle.std.specs.Str.{bytes_eq}
use Rattle.mr_bytes.specs.Number.{number_of}
use Rattle.mr_bytes.specs.declared.ends.End.TheVariants.{Left, Right}
use Rattle.mr_arguments.specs.Names.{lowered, named}
use Rattle.mr_arguments.specs.Pairing.{are_pairs, paired}
use Rattle.mr_arguments.specs.Parts.{with, integer, count, offset}
use Rattle.mr_arguments.specs.FaultOrder.{counted, first_of, in_reading, answered_fault}
use Rattle.mr_arguments.proofs.FaultPlaces.{OnlyFault}
use Rattle.mr_arguments.specs.declared.name.Name.{Name}
use Rattle.mr_arguments.specs.declared.name.Name.TheVariants as name
use Rattle.mr_arguments.specs.declared.fault.AskFault.{AskFault}
use Rattle.mr_arguments.specs.declared.fault.AskFault.TheVariants.{Arity, Syntax, Integer, Other}
use Rattle.mr_arguments.specs.declared.fault.BadValue.TheVariants as bad
use Rattle.mr_cmd_list.specs.Parts.{end_of, end_text, side_of}
use Rattle.mr_cmd_hash.specs.declared.hash_ask.FieldsReply.TheVariants.{Added, Done}
use Rattle.mr_cmd_hash.specs.declared.hash_ask.HashAsk.TheVariants as hash
use Rattle.mr_cmd_list.specs.declared.list_ask.ListAsk.TheVariants as list
use Rattle.mr_cmd_set.specs.declared.set_ask.SetAsk.TheVariants as set
use Rattle.mr_zset_options.specs.Parts.{bound, score}
use Rattle.mr_cmd_zset.proofs.FaultLemmas.{by_score_first, zadd_first, zrange_first, zrevrange_first}
use Rattle.mr_zset_options.proofs.PartLemmas.{bound_fault}
use Rattle.mr_cmd_zset.specs.Arguments.{range_by_score, zadd, zrange, zrevrange}
use Rattle.mr_zset_options.specs.declared.choices.Order.TheVariants.{Ascending, Descending}
use Rattle.mr_cmd_zset.specs.declared.zset_ask.ZSetAsk.TheVariants as zset
use Rattle.mr_ask.specs.Asks.{asked, asked_by, of_kind, reading}
use Rattle.mr_cmd_string.specs.Parts.{milliseconds, opposite, seconds}
use Rattle.mr_cmd_key.specs.Parts.{timing_of}
use Rattle.mr_cmd_server.specs.Arguments.{database, saving_of, setinfo, setname}
use Rattle.mr_ask.specs.WordFaults.{argument_faults, faults_behind, word_faults}
use Rattle.mr_arguments.specs.declared.expiry.ExpiryUnit.TheVariants as unit
use Rattle.mr_cmd_key.specs.declared.key_ask.Databases.TheVariants as databases
use Rattle.mr_cmd_key.specs.declared.key_ask.KeyAsk.TheVariants as key
use Rattle.mr_cmd_string.specs.declared.text_ask.Amount.TheVariants as amount
use Rattle.mr_cmd_string.specs.declared.text_ask.TextAsk.TheVariants as text
use Rattle.mr_cmd_server.specs.declared.server_ask.ServerAsk.{ServerAsk}
use Rattle.mr_cmd_server.specs.declared.server_ask.ServerAsk.TheVariants as server
use Rattle.mr_cmd_node.specs.Arguments.{replconf, replicaof}
use Rattle.mr_cmd_node.specs.declared.node_ask.NodeAsk.TheVariants as node
use Rattle.mr_cmd_node.proofs.FaultLemmas.{replconf_first, replicaof_first}
use Rattle.mr_ask.specs.declared.ask.Ask.{Ask}
use Rattle.mr_ask.specs.declared.ask.Ask.TheVariants as ask
use Rattle.mr_cmd_string.specs.Arguments.{set}
use Rattle.mr_cmd_string.proofs.FaultLemmas.{set_first}
use Rattle.mr_cmd_key.proofs.FaultLemmas.{expire_first, scan_first}
use Rattle.mr_cmd_key.specs.Arguments.{expire, scan}

module _ {A : Type 0} (kind : A → Ask) where
  of_its_kind : (r : Result A AskFault) → answered_fault (of_kind kind r) ≡ answered_fault r
  of_its_kind (Ok a) = refl
  of_its_kind (Err f) = refl

  -- ---- one word
  alone : (r : Result A AskFault) → answered_fault (of_kind kind r) ≡ first_of (in_reading r ++ [])
  alone (Ok a) = refl
  alone (Err f) = refl

  one : {X : Type 0} (next : X → A) (r : Result X AskFault) → answered_fault (of_kind kind (with r (λ x. Ok (next x)))) ≡ first_of (in_reading r ++ [])
  one next (Ok x) = refl
  one next (Err f) = refl

  last : {X : Type 0} (next : X → A) (r : Result X AskFault) → answered_fault (of_kind kind (with r (λ x. Ok (next x)))) ≡ first_of (in_reading r)
  last next (Ok x) = refl
  last next (Err f) = refl

  nested : {X Y : Type 0} (next : Y → A) (g : X → Result Y AskFault) (r : Result X AskFault) → answered_fault (of_kind kind (with r (λ x. with (g x) (λ y. Ok (next y))))) ≡ first_of (in_reading (with r g) ++ [])
  nested next g (Ok x) = one next (g x)
  nested next g (Err f) = refl

  -- ---- two words
  two_integers : (next : ℤ → ℤ → A) (o p : Option ℤ) → answered_fault (of_kind kind (with (ok_or o Integer) (λ m. with (ok_or p Integer) (λ n. Ok (next m n))))) ≡ first_of (in_reading (ok_or o Integer) ++ (in_reading (ok_or p Integer) ++ []))
  two_integers next None None = refl
  two_integers next None (Some n) = refl
  two_integers next (Some m) None = refl
  two_integers next (Some m) (Some n) = refl

  both_syntax : {X : Type 0} (next : X → X → A) (r q : Result X AskFault) → OnlyFault Syntax r → OnlyFault Syntax q → answered_fault (of_kind kind (with r (λ x. with q (λ y. Ok (next x y))))) ≡ first_of (in_reading r ++ (in_reading q ++ []))
  both_syntax next (Ok x) (Ok y) h k = refl
  both_syntax next (Ok x) (Err g) h k = refl
  both_syntax next (Err f) (Ok y) h k = refl
  both_syntax next (Err f) (Err g) h k = rw (h, k) refl

  two_bounds : {B : Type 0} (next : B → B → A) (r q : Result B AskFault) → OnlyFault (Other bad.Bound) r → OnlyFault (Other bad.Bound) q
      → answered_fault (of_kind kind (with {A = B × B} (with r (λ min. with q (λ max. Ok (min, max)))) (λ ends. Ok (next ends.0 ends.1)))) ≡ first_of (in_reading r ++ (in_reading q ++ []))
  two_bounds next (Ok x) (Ok y) h k = refl
  two_bounds next (Ok x) (Err g) h k = refl
  two_bounds next (Err f) (Ok y) h k = refl
  two_bounds next (Err f) (Err g) h k = rw (h, k) refl

  -- ---- pairs
  if_pairs : {P : Type 0} (n : Name) (next : P → A) (b : Bool) (ps : P) → answered_fault (of_kind kind (with (ok_or (if b then Some ps else None) (Arity n)) (λ x. Ok (next x)))) ≡ first_of (counted n (if b then Some [] else None))
  if_pairs n next true ps = refl
  if_pairs n next false ps = refl

if_named : (a : ServerAsk) (b : Bool) → answered_fault (of_kind ask.Server (if b then Ok a else Err Syntax)) ≡ first_of (if b then [] else Syntax ∷ [])
if_named a true = refl
if_named a false = refl

-- ---- which faults single words have
one_of_two : {A : Type 0} (a b : Bool) (x y : A) → OnlyFault Syntax (if a then Ok x else (if b then Ok y else Err Syntax))
one_of_two true b x y = tt
one_of_two false true x y = tt
one_of_two false false x y = refl

end_fault : (w : List ℕ) → OnlyFault Syntax (end_of w)
end_fault w = one_of_two (bytes_eq (lowered w) (end_text Left)) (bytes_eq (lowered w) (end_text Right)) Left Right

-- ---- every command
argument_first : (n : Name) (ws : List (List ℕ)) → answered_fault (reading n ws) ≡ first_of (argument_faults n ws)
-- commands.txt: argument_first
argument_first name.Get (a ∷ []) = refl
argument_first name.Get _ = refl
argument_first name.Del (a ∷ ws) = refl
argument_first name.Del _ = refl
argument_first name.Unlink (a ∷ ws) = refl
argument_first name.Unlink _ = refl
argument_first name.Exists (a ∷ ws) = refl
argument_first name.Exists _ = refl
argument_first name.KeyType (a ∷ []) = refl
argument_first name.KeyType _ = refl
argument_first name.StrLen (a ∷ []) = refl
argument_first name.StrLen _ = refl
argument_first name.MGet (a ∷ ws) = refl
argument_first name.MGet _ = refl
argument_first name.SetNx (a ∷ b ∷ []) = refl
argument_first name.SetNx _ = refl
argument_first name.GetSet (a ∷ b ∷ []) = refl
argument_first name.GetSet _ = refl
argument_first name.GetDel (a ∷ []) = refl
argument_first name.GetDel _ = refl
argument_first name.Keys (a ∷ []) = refl
argument_first name.Keys _ = refl
argument_first name.DbSize [] = refl
argument_first name.DbSize _ = refl
argument_first name.Append (a ∷ b ∷ []) = refl
argument_first name.Append _ = refl
argument_first name.Incr (a ∷ []) = refl
argument_first name.Incr _ = refl
argument_first name.Decr (a ∷ []) = refl
argument_first name.Decr _ = refl
argument_first name.Rename (a ∷ b ∷ []) = refl
argument_first name.Rename _ = refl
argument_first name.RenameNx (a ∷ b ∷ []) = refl
argument_first name.RenameNx _ = refl
argument_first name.Ttl (a ∷ []) = refl
argument_first name.Ttl _ = refl
argument_first name.PTtl (a ∷ []) = refl
argument_first name.PTtl _ = refl
argument_first name.ExpireTime (a ∷ []) = refl
argument_first name.ExpireTime _ = refl
argument_first name.PExpireTime (a ∷ []) = refl
argument_first name.PExpireTime _ = refl
argument_first name.Persist (a ∷ []) = refl
argument_first name.Persist _ = refl
argument_first name.HSetNx (a ∷ b ∷ c ∷ []) = refl
argument_first name.HSetNx _ = refl
argument_first name.HGet (a ∷ b ∷ []) = refl
argument_first name.HGet _ = refl
argument_first name.HMGet (a ∷ b ∷ ws) = refl
argument_first name.HMGet _ = refl
argument_first name.HGetAll (a ∷ []) = refl
argument_first name.HGetAll _ = refl
argument_first name.HKeys (a ∷ []) = refl
argument_first name.HKeys _ = refl
argument_first name.HVals (a ∷ []) = refl
argument_first name.HVals _ = refl
argument_first name.HDel (a ∷ b ∷ ws) = refl
argument_first name.HDel _ = refl
argument_first name.HExists (a ∷ b ∷ []) = refl
argument_first name.HExists _ = refl
argument_first name.HLen (a ∷ []) = refl
argument_first name.HLen _ = refl
argument_first name.HStrLen (a ∷ b ∷ []) = refl
argument_first name.HStrLen _ = refl
argument_first name.LPush (a ∷ b ∷ ws) = refl
argument_first name.LPush _ = refl
argument_first name.RPush (a ∷ b ∷ ws) = refl
argument_first name.RPush _ = refl
argument_first name.LPushX (a ∷ b ∷ ws) = refl
argument_first name.LPushX _ = refl
argument_first name.RPushX (a ∷ b ∷ ws) = refl
argument_first name.RPushX _ = refl
argument_first name.LLen (a ∷ []) = refl
argument_first name.LLen _ = refl
argument_first name.RPopLPush (a ∷ b ∷ []) = refl
argument_first name.RPopLPush _ = refl
argument_first name.SAdd (a ∷ b ∷ ws) = refl
argument_first name.SAdd _ = refl
argument_first name.SRem (a ∷ b ∷ ws) = refl
argument_first name.SRem _ = refl
argument_first name.SIsMember (a ∷ b ∷ []) = refl
argument_first name.SIsMember _ = refl
argument_first name.SMIsMember (a ∷ b ∷ ws) = refl
argument_first name.SMIsMember _ = refl
argument_first name.SMembers (a ∷ []) = refl
argument_first name.SMembers _ = refl
argument_first name.SCard (a ∷ []) = refl
argument_first name.SCard _ = refl
argument_first name.SMove (a ∷ b ∷ c ∷ []) = refl
argument_first name.SMove _ = refl
argument_first name.SInter (a ∷ ws) = refl
argument_first name.SInter _ = refl
argument_first name.SUnion (a ∷ ws) = refl
argument_first name.SUnion _ = refl
argument_first name.SDiff (a ∷ ws) = refl
argument_first name.SDiff _ = refl
argument_first name.ZRem (a ∷ b ∷ ws) = refl
argument_first name.ZRem _ = refl
argument_first name.ZCard (a ∷ []) = refl
argument_first name.ZCard _ = refl
argument_first name.ZScore (a ∷ b ∷ []) = refl
argument_first name.ZScore _ = refl
argument_first name.ZMScore (a ∷ b ∷ ws) = refl
argument_first name.ZMScore _ = refl
argument_first name.ZRank (a ∷ b ∷ []) = refl
argument_first name.ZRank _ = refl
argument_first name.ZRevRank (a ∷ b ∷ []) = refl
argument_first name.ZRevRank _ = refl
argument_first name.Echo (a ∷ []) = refl
argument_first name.Echo _ = refl
argument_first name.Quit [] = refl
argument_first name.Quit _ = refl
argument_first name.BgRewriteAof [] = refl
argument_first name.BgRewriteAof _ = refl
argument_first name.Role [] = refl
argument_first name.Role _ = refl
argument_first name.Multi [] = refl
argument_first name.Multi _ = refl
argument_first name.Exec [] = refl
argument_first name.Exec _ = refl
argument_first name.Discard [] = refl
argument_first name.Discard _ = refl
-- commands.txt ends
-- those whose arguments say more than a word
argument_first name.Set ws = of_its_kind ask.Texts (set ws) ∙ set_first ws
argument_first name.GetRange (k ∷ a ∷ b ∷ []) = two_integers ask.Texts (λ m n. text.GetRange k m n) (number_of a) (number_of b)
argument_first name.GetRange _ = refl
argument_first name.Scan ws = of_its_kind ask.Keys (scan ws) ∙ scan_first ws
argument_first name.MSet (w ∷ ws) = if_pairs ask.Texts name.MSet (λ ps. text.MSet ps) (are_pairs (w ∷ ws)) (paired (w ∷ ws))
argument_first name.MSet _ = refl
argument_first name.MSetNx (w ∷ ws) = if_pairs ask.Texts name.MSetNx (λ ps. text.MSetNx ps) (are_pairs (w ∷ ws)) (paired (w ∷ ws))
argument_first name.MSetNx _ = refl
argument_first name.SetRange (k ∷ a ∷ v ∷ []) = one ask.Texts (λ n. text.SetRange k n v) (offset a)
argument_first name.SetRange _ = refl
argument_first name.IncrBy (k ∷ a ∷ []) = one ask.Texts (λ n. text.Increase k (amount.Number n)) (integer a)
argument_first name.IncrBy _ = refl
argument_first name.DecrBy (k ∷ a ∷ []) = nested ask.Texts (λ n. text.Increase k (amount.Opposite n)) opposite (integer a)
argument_first name.DecrBy _ = refl
argument_first name.FlushAll [] = refl
argument_first name.FlushAll (t ∷ []) = last ask.Keys (λ x. key.Clear databases.All (Some x)) (timing_of t)
argument_first name.FlushAll _ = refl
argument_first name.FlushDb [] = refl
argument_first name.FlushDb (t ∷ []) = last ask.Keys (λ x. key.Clear databases.Selected (Some x)) (timing_of t)
argument_first name.FlushDb _ = refl
argument_first name.SetEx (k ∷ a ∷ v ∷ []) = nested ask.Texts (λ n. text.SetEx k n v) seconds (integer a)
argument_first name.SetEx _ = refl
argument_first name.PSetEx (k ∷ a ∷ v ∷ []) = nested ask.Texts (λ n. text.PSetEx k n v) milliseconds (integer a)
argument_first name.PSetEx _ = refl
argument_first name.Expire ws = of_its_kind ask.Keys (expire name.Expire unit.Seconds ws) ∙ expire_first name.Expire unit.Seconds ws
argument_first name.PExpire ws = of_its_kind ask.Keys (expire name.PExpire unit.Milliseconds ws) ∙ expire_first name.PExpire unit.Milliseconds ws
argument_first name.ExpireAt ws = of_its_kind ask.Keys (expire name.ExpireAt unit.AtSecond ws) ∙ expire_first name.ExpireAt unit.AtSecond ws
argument_first name.PExpireAt ws = of_its_kind ask.Keys (expire name.PExpireAt unit.AtMillisecond ws) ∙ expire_first name.PExpireAt unit.AtMillisecond ws
argument_first name.HSet (k ∷ []) = refl
argument_first name.HSet (k ∷ w ∷ ws) = if_pairs ask.Hashes name.HSet (λ ps. hash.HSet k ps Added) (are_pairs (w ∷ ws)) (paired (w ∷ ws))
argument_first name.HSet _ = refl
argument_first name.HMSet (k ∷ []) = refl
argument_first name.HMSet (k ∷ w ∷ ws) = if_pairs ask.Hashes name.HMSet (λ ps. hash.HSet k ps Done) (are_pairs (w ∷ ws)) (paired (w ∷ ws))
argument_first name.HMSet _ = refl
argument_first name.HIncrBy (k ∷ f ∷ a ∷ []) = one ask.Hashes (λ n. hash.HIncrBy k f n) (integer a)
argument_first name.HIncrBy _ = refl
argument_first name.LPop (k ∷ []) = refl
argument_first name.LPop (k ∷ a ∷ []) = last ask.Lists (λ n. list.Pop k Left (Some n)) (count a)
argument_first name.LPop _ = refl
argument_first name.RPop (k ∷ []) = refl
argument_first name.RPop (k ∷ a ∷ []) = last ask.Lists (λ n. list.Pop k Right (Some n)) (count a)
argument_first name.RPop _ = refl
argument_first name.LRange (k ∷ a ∷ b ∷ []) = two_integers ask.Lists (λ m n. list.LRange k m n) (number_of a) (number_of b)
argument_first name.LRange _ = refl
argument_first name.LIndex (k ∷ a ∷ []) = one ask.Lists (λ n. list.LIndex k n) (integer a)
argument_first name.LIndex _ = refl
argument_first name.LSet (k ∷ a ∷ v ∷ []) = one ask.Lists (λ n. list.LSet k n v) (integer a)
argument_first name.LSet _ = refl
argument_first name.LInsert (k ∷ a ∷ p ∷ v ∷ []) = one ask.Lists (λ s. list.LInsert k s p v) (side_of a)
argument_first name.LInsert _ = refl
argument_first name.LRem (k ∷ a ∷ v ∷ []) = one ask.Lists (λ n. list.LRem k n v) (integer a)
argument_first name.LRem _ = refl
argument_first name.LTrim (k ∷ a ∷ b ∷ []) = two_integers ask.Lists (λ m n. list.LTrim k m n) (number_of a) (number_of b)
argument_first name.LTrim _ = refl
argument_first name.LMove (k ∷ d ∷ a ∷ b ∷ []) = both_syntax ask.Lists (λ m n. list.LMove k d m n) (end_of a) (end_of b) (end_fault a) (end_fault b)
argument_first name.LMove _ = refl
argument_first name.SPop (k ∷ []) = refl
argument_first name.SPop (k ∷ a ∷ []) = last ask.Sets (λ n. set.SPop k (Some n)) (count a)
argument_first name.SPop _ = refl
argument_first name.SRandMember (k ∷ []) = refl
argument_first name.SRandMember (k ∷ a ∷ []) = last ask.Sets (λ n. set.SRandMember k (Some n)) (count a)
argument_first name.SRandMember _ = refl
argument_first name.ZAdd ws = of_its_kind ask.SortedSets (zadd ws) ∙ zadd_first ws
argument_first name.ZIncrBy (k ∷ a ∷ m ∷ []) = one ask.SortedSets (λ n. zset.ZIncrBy k n m) (score a)
argument_first name.ZIncrBy _ = refl
argument_first name.ZCount (k ∷ a ∷ b ∷ []) = two_bounds ask.SortedSets (λ m n. zset.ZCount k m n) (bound a) (bound b) (bound_fault a) (bound_fault b)
argument_first name.ZCount _ = refl
argument_first name.ZRange ws = of_its_kind ask.SortedSets (zrange ws) ∙ zrange_first ws
argument_first name.ZRevRange ws = of_its_kind ask.SortedSets (zrevrange ws) ∙ zrevrange_first ws
argument_first name.ZRangeByScore ws = of_its_kind ask.SortedSets (range_by_score name.ZRangeByScore Ascending ws) ∙ by_score_first name.ZRangeByScore Ascending ws
argument_first name.ZRevRangeByScore ws = of_its_kind ask.SortedSets (range_by_score name.ZRevRangeByScore Descending ws) ∙ by_score_first name.ZRevRangeByScore Descending ws
argument_first name.ZPopMin (k ∷ []) = refl
argument_first name.ZPopMin (k ∷ a ∷ []) = last ask.SortedSets (λ n. zset.TakePairs k Ascending (Some n)) (count a)
argument_first name.ZPopMin _ = refl
argument_first name.ZPopMax (k ∷ []) = refl
argument_first name.ZPopMax (k ∷ a ∷ []) = last ask.SortedSets (λ n. zset.TakePairs k Descending (Some n)) (count a)
argument_first name.ZPopMax _ = refl
argument_first name.ZRemRangeByRank (k ∷ a ∷ b ∷ []) = two_integers ask.SortedSets (λ m n. zset.ZRemRangeByRank k m n) (number_of a) (number_of b)
argument_first name.ZRemRangeByRank _ = refl
argument_first name.ZRemRangeByScore (k ∷ a ∷ b ∷ []) = two_bounds ask.SortedSets (λ m n. zset.ZRemRangeByScore k m n) (bound a) (bound b) (bound_fault a) (bound_fault b)
argument_first name.ZRemRangeByScore _ = refl
argument_first name.Ping [] = refl
argument_first name.Ping (m ∷ []) = refl
argument_first name.Ping _ = refl
argument_first name.Select (a ∷ []) = alone ask.Server (with (integer a) database)
argument_first name.Select _ = refl
argument_first name.Info [] = refl
argument_first name.Info (s ∷ []) = refl
argument_first name.Info _ = refl
argument_first name.Shutdown [] = refl
argument_first name.Shutdown (s ∷ []) = last ask.Server (λ x. server.Shutdown (Some x)) (saving_of s)
argument_first name.Shutdown _ = refl
argument_first name.Command ws = refl
argument_first name.Client (o ∷ l ∷ []) = if_named (server.ClientSetName l) (bytes_eq (lowered o) setname)
argument_first name.Client (o ∷ a ∷ v ∷ []) = if_named (server.ClientSetInfo a v) (bytes_eq (lowered o) setinfo)
argument_first name.Client _ = refl
argument_first name.Psync (i ∷ a ∷ []) = one ask.Node (λ n. node.Psync i n) (integer a)
argument_first name.Psync _ = refl
argument_first name.ReplConf ws = of_its_kind ask.Node (replconf ws) ∙ replconf_first ws
argument_first name.ReplicaOf ws = of_its_kind ask.Node (replicaof name.ReplicaOf ws) ∙ replicaof_first name.ReplicaOf ws
argument_first name.SlaveOf ws = of_its_kind ask.Node (replicaof name.SlaveOf ws) ∙ replicaof_first name.SlaveOf ws

behind_first : (o : Option Name) (ws : List (List ℕ)) → answered_fault (asked_by o ws) ≡ first_of (faults_behind o ws)
behind_first None ws = refl
behind_first (Some n) ws = argument_first n ws

pub first_is_answered : (ws : List (List ℕ)) → answered_fault (asked ws) ≡ first_of (word_faults ws)
first_is_answered [] = refl
first_is_answered (w ∷ ws) = behind_first (named (lowered w)) ws
