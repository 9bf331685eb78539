-- What is read under a name is a write where the table of commands says so.
use Rattle.std.proofs.Common.{◌≡◌, ℕ, List, false, refl, inl, inr, ap, ◌∙◌}
use Rattle.mr_bytes.specs.declared.ends.End.TheVariants.{Left, Right}
use Rattle.mr_arguments.specs.declared.name.Name.{Name}
use Rattle.mr_arguments.specs.declared.expiry.Expiry.TheVariants as expiry
use Rattle.mr_zset_options.specs.declared.choices.Order.TheVariants.{Ascending, Descending}
use Rattle.mr_cmd_string.specs.declared.text_ask.Amount.TheVariants as amount
use Rattle.mr_cmd_string.specs.declared.text_ask.TextAsk.{TextAsk}
use Rattle.mr_cmd_string.specs.declared.text_ask.TextAsk.TheVariants as text
use Rattle.mr_cmd_string.specs.Called.{text_name}
use Rattle.mr_cmd_key.specs.declared.key_ask.Databases.TheVariants as databases
use Rattle.mr_cmd_key.specs.declared.key_ask.KeyAsk.{KeyAsk}
use Rattle.mr_cmd_key.specs.declared.key_ask.KeyAsk.TheVariants as key
use Rattle.mr_cmd_key.specs.Called.{key_name}
use Rattle.mr_cmd_hash.specs.declared.hash_ask.FieldsReply.TheVariants.{Added, Done}
use Rattle.mr_cmd_hash.specs.declared.hash_ask.HashPart.TheVariants.{Pairs, Fields, Values}
use Rattle.mr_cmd_hash.specs.declared.hash_ask.HashAsk.{HashAsk}
use Rattle.mr_cmd_hash.specs.declared.hash_ask.HashAsk.TheVariants as hash
use Rattle.mr_cmd_hash.specs.Called.{hash_name}
use Rattle.mr_cmd_list.specs.declared.list_ask.PushTo.TheVariants.{AnyKey, ExistingKey}
use Rattle.mr_cmd_list.specs.declared.list_ask.ListAsk.{ListAsk}
use Rattle.mr_cmd_list.specs.declared.list_ask.ListAsk.TheVariants as list
use Rattle.mr_cmd_list.specs.Called.{list_name}
use Rattle.mr_cmd_set.specs.declared.set_ask.SetOperation.TheVariants.{Intersection, Union, Difference}
use Rattle.mr_cmd_set.specs.declared.set_ask.SetAsk.{SetAsk}
use Rattle.mr_cmd_set.specs.declared.set_ask.SetAsk.TheVariants as set
use Rattle.mr_cmd_set.specs.Called.{set_name}
use Rattle.mr_cmd_server.specs.declared.server_ask.ServerAsk.{ServerAsk}
use Rattle.mr_cmd_server.specs.declared.server_ask.ServerAsk.TheVariants as server
use Rattle.mr_cmd_server.specs.Called.{server_name}
use Rattle.mr_cmd_node.specs.declared.node_ask.NodeAsk.{NodeAsk}
use Rattle.mr_cmd_node.specs.declared.node_ask.NodeAsk.TheVariants as node
use Rattle.mr_cmd_node.specs.Spelled.{IsCalled, IsFollowing}
use Rattle.mr_cmd_zset.specs.declared.zset_ask.ZSetAsk.{ZSetAsk}
use Rattle.mr_cmd_zset.specs.declared.zset_ask.ZSetAsk.TheVariants as zset
use Rattle.mr_cmd_zset.specs.Spelled.{ZSetSpells}
use Rattle.mr_ask.specs.declared.ask.Ask.TheVariants as ask
use Rattle.mr_commands.specs.Writes.{WritesAreTheTables, is_write, text_writes, key_writes, hash_writes, list_writes, set_writes, zset_writes}

of_texts : (command : TextAsk) → text_writes command ≡ is_write (text_name command)
of_texts (text.Get key) = refl
of_texts (text.Set key value condition reply lifetime) = refl
of_texts (text.SetEx key seconds value) = refl
of_texts (text.PSetEx key milliseconds value) = refl
of_texts (text.StrLen key) = refl
of_texts (text.GetRange key first last) = refl
of_texts (text.MGet keys) = refl
of_texts (text.SetNx key value) = refl
of_texts (text.GetSet key value) = refl
of_texts (text.GetDel key) = refl
of_texts (text.MSet pairs) = refl
of_texts (text.MSetNx pairs) = refl
of_texts (text.Append key value) = refl
of_texts (text.SetRange key offset value) = refl
of_texts (text.Increase key amount.One) = refl
of_texts (text.Increase key amount.MinusOne) = refl
of_texts (text.Increase key (amount.Number n)) = refl
of_texts (text.Increase key (amount.Opposite n)) = refl

of_keys : (command : KeyAsk) → key_writes command ≡ is_write (key_name command)
of_keys (key.Del keys) = refl
of_keys (key.Unlink keys) = refl
of_keys (key.Exists keys) = refl
of_keys (key.KeyType key) = refl
of_keys (key.Keys pattern) = refl
of_keys (key.Scan cursor pattern kind) = refl
of_keys key.DbSize = refl
of_keys (key.Rename from to) = refl
of_keys (key.RenameNx from to) = refl
of_keys (key.Clear databases.All timing) = refl
of_keys (key.Clear databases.Selected timing) = refl
of_keys (key.Expire key (expiry.Seconds n) condition) = refl
of_keys (key.Expire key (expiry.Milliseconds n) condition) = refl
of_keys (key.Expire key (expiry.AtSecond n) condition) = refl
of_keys (key.Expire key (expiry.AtMillisecond n) condition) = refl
of_keys (key.Ttl key) = refl
of_keys (key.PTtl key) = refl
of_keys (key.ExpireTime key) = refl
of_keys (key.PExpireTime key) = refl
of_keys (key.Persist key) = refl

of_hashes : (command : HashAsk) → hash_writes command ≡ is_write (hash_name command)
of_hashes (hash.HSet key pairs Added) = refl
of_hashes (hash.HSet key pairs Done) = refl
of_hashes (hash.HSetNx key field value) = refl
of_hashes (hash.HGet key field) = refl
of_hashes (hash.HMGet key fields) = refl
of_hashes (hash.ListHash key Pairs) = refl
of_hashes (hash.ListHash key Fields) = refl
of_hashes (hash.ListHash key Values) = refl
of_hashes (hash.HDel key fields) = refl
of_hashes (hash.HExists key field) = refl
of_hashes (hash.HLen key) = refl
of_hashes (hash.HStrLen key field) = refl
of_hashes (hash.HIncrBy key field by) = refl

of_lists : (command : ListAsk) → list_writes command ≡ is_write (list_name command)
of_lists (list.Push key Left AnyKey items) = refl
of_lists (list.Push key Right AnyKey items) = refl
of_lists (list.Push key Left ExistingKey items) = refl
of_lists (list.Push key Right ExistingKey items) = refl
of_lists (list.Pop key Left count) = refl
of_lists (list.Pop key Right count) = refl
of_lists (list.LLen key) = refl
of_lists (list.LRange key first last) = refl
of_lists (list.LIndex key index) = refl
of_lists (list.LSet key index item) = refl
of_lists (list.LInsert key side pivot item) = refl
of_lists (list.LRem key count item) = refl
of_lists (list.LTrim key first last) = refl
of_lists (list.LMove from to taken put) = refl
of_lists (list.RPopLPush from to) = refl

of_sets : (command : SetAsk) → set_writes command ≡ is_write (set_name command)
of_sets (set.SAdd key members) = refl
of_sets (set.SRem key members) = refl
of_sets (set.SIsMember key member) = refl
of_sets (set.SMIsMember key members) = refl
of_sets (set.SMembers key) = refl
of_sets (set.SCard key) = refl
of_sets (set.SPop key count) = refl
of_sets (set.SRandMember key count) = refl
of_sets (set.SMove from to member) = refl
of_sets (set.Combine Intersection keys) = refl
of_sets (set.Combine Union keys) = refl
of_sets (set.Combine Difference keys) = refl

of_server : (command : ServerAsk) → false ≡ is_write (server_name command)
of_server (server.Ping message) = refl
of_server (server.Echo message) = refl
of_server server.Select = refl
of_server server.Quit = refl
of_server server.BgRewriteAof = refl
of_server (server.Info section) = refl
of_server server.Role = refl
of_server (server.Shutdown saving) = refl
of_server (server.Command arguments) = refl
of_server (server.ClientSetName label) = refl
of_server (server.ClientSetInfo attribute value) = refl

of_following : (called : Name) → IsFollowing called → false ≡ is_write called
of_following called (inl is) = rw is refl
of_following called (inr is) = rw is refl

of_node : (command : NodeAsk) (called : Name) → IsCalled command called → false ≡ is_write called
of_node (node.Psync id wanted) called is = rw is refl
of_node (node.ReplConf told) called is = rw is refl
of_node (node.Ack offset) called is = rw is refl
of_node (node.ReplicaOf host port) called is = of_following called is
of_node node.NoOne called is = of_following called is
of_node node.Multi called is = rw is refl
of_node node.Exec called is = rw is refl
of_node node.Discard called is = rw is refl

of_sorted_sets : (called : Name) (words : List (List ℕ)) (command : ZSetAsk) → ZSetSpells called words command → zset_writes command ≡ is_write called
of_sorted_sets called words (zset.ZAdd k condition comparison reply pairs) (is, are) = rw is refl
of_sorted_sets called words (zset.ZIncrBy k by member) (is, are) = rw is refl
of_sorted_sets called words (zset.ZRem k members) (is, are) = rw is refl
of_sorted_sets called words (zset.ZCard k) (is, are) = rw is refl
of_sorted_sets called words (zset.ZCount k min max) (is, are) = rw is refl
of_sorted_sets called words (zset.ZScore k member) (is, are) = rw is refl
of_sorted_sets called words (zset.ZMScore k members) (is, are) = rw is refl
of_sorted_sets called words (zset.GetRank k member Ascending) (is, are) = rw is refl
of_sorted_sets called words (zset.GetRank k member Descending) (is, are) = rw is refl
of_sorted_sets called words (zset.RangeByRank k first last order reply) (inl (is, are)) = rw is refl
of_sorted_sets called words (zset.RangeByRank k first last order reply) (inr (is, from, are)) = rw is refl
of_sorted_sets called words (zset.RangeByScore k min max order limit reply) (inl (is, are)) = rw is refl
of_sorted_sets called words (zset.RangeByScore k min max Ascending limit reply) (inr (is, are)) = rw is refl
of_sorted_sets called words (zset.RangeByScore k min max Descending limit reply) (inr (is, are)) = rw is refl
of_sorted_sets called words (zset.TakePairs k Ascending count) (is, are) = rw is refl
of_sorted_sets called words (zset.TakePairs k Descending count) (is, are) = rw is refl
of_sorted_sets called words (zset.ZRemRangeByRank k first last) (is, are) = rw is refl
of_sorted_sets called words (zset.ZRemRangeByScore k min max) (is, are) = rw is refl

pub as_the_table_says : WritesAreTheTables
as_the_table_says called words (ask.Texts command) spells = of_texts command ∙ ap is_write spells.name_is
as_the_table_says called words (ask.Keys command) spells = of_keys command ∙ ap is_write spells.name_is
as_the_table_says called words (ask.Hashes command) spells = of_hashes command ∙ ap is_write spells.name_is
as_the_table_says called words (ask.Lists command) spells = of_lists command ∙ ap is_write spells.name_is
as_the_table_says called words (ask.Sets command) spells = of_sets command ∙ ap is_write spells.name_is
as_the_table_says called words (ask.Server command) spells = of_server command ∙ ap is_write spells.name_is
as_the_table_says called words (ask.SortedSets command) spells = of_sorted_sets called words command spells
as_the_table_says called words (ask.Node command) spells = of_node command called spells.0
