-- A command that is no write has no effect of its own.
use Rattle.std.proofs.Common.{◌≡◌, ℕ, List, [], true, false, Option, Some, None, refl}
use Rattle.mr_resp.specs.Replies.{Tree}
use Rattle.mr_keyspace.specs.Dataset.{Dataset}
use Rattle.mr_keyspace.specs.Steps.{Kind, held, hashes, lists, sets, sorted_sets}
use Rattle.mr_keyspace.specs.declared.value.Entry.{Entry}
use Rattle.mr_data.specs.declared.given.Given.{Given}
use Rattle.mr_cmd_shared.specs.Collections.{Change, replied, changed}
use Rattle.mr_cmd_shared.specs.Commands.{own_effects}
use Rattle.mr_cmd_list.specs.Lists.{of_list}
use Rattle.mr_ask.specs.declared.ask.Ask.TheVariants as ask
use Rattle.mr_cmd_string.specs.declared.text_ask.TextAsk.{TextAsk}
use Rattle.mr_cmd_string.specs.declared.text_ask.TextAsk.TheVariants as text
use Rattle.mr_cmd_key.specs.declared.key_ask.KeyAsk.{KeyAsk}
use Rattle.mr_cmd_key.specs.declared.key_ask.KeyAsk.TheVariants as key
use Rattle.mr_cmd_hash.specs.declared.hash_ask.HashAsk.{HashAsk}
use Rattle.mr_cmd_hash.specs.declared.hash_ask.HashAsk.TheVariants as hash
use Rattle.mr_cmd_list.specs.declared.list_ask.ListAsk.{ListAsk}
use Rattle.mr_cmd_list.specs.declared.list_ask.ListAsk.TheVariants as list
use Rattle.mr_cmd_set.specs.declared.set_ask.SetAsk.{SetAsk}
use Rattle.mr_cmd_set.specs.declared.set_ask.SetAsk.TheVariants as set
use Rattle.mr_cmd_zset.specs.declared.zset_ask.ZSetAsk.{ZSetAsk}
use Rattle.mr_cmd_zset.specs.declared.zset_ask.ZSetAsk.TheVariants as zset
use Rattle.mr_cmd_hash.specs.Commands as hash_commands
use Rattle.mr_cmd_hash.specs.Hashes.{Hash}
use Rattle.mr_commands.specs.PlannedCommands.{command_of}
use Rattle.mr_commands.specs.Writes.{OthersHaveNoEffects, text_writes, key_writes, hash_writes, list_writes, set_writes, zset_writes}

never : {A : Type 0} → true ≡ false → A
never e = absurd (cc)

silent_replied : {X : Type 0} (kind : Kind X) (answer : X → Tree) (value : Option X) (before : Option Entry) → (replied kind answer value before).effects ≡ []
silent_replied kind answer None before = refl
silent_replied kind answer (Some x) before = refl

silent_changed : {X : Type 0} (kind : Kind X) (change : X → Change X) → ((x : X) → (change x).effects ≡ []) → (value : Option X) (before : Option Entry) → (changed kind change value before).effects ≡ []
silent_changed kind change silent None before = refl
silent_changed kind change silent (Some x) before = silent x

silent_list : (absent : Tree) (answer : List (List ℕ) → Tree) (before : Option Entry) → (of_list absent answer before).effects ≡ []
silent_list absent answer None = refl
silent_list absent answer (Some e) = silent_replied lists answer (held lists (Some e)) (Some e)

texts : (command : TextAsk) (given : Given) (m : Dataset) → text_writes command ≡ false → own_effects (command_of (ask.Texts command) given) given.now m ≡ []
texts (text.Get k) given m is = refl
texts (text.StrLen k) given m is = refl
texts (text.GetRange k first last) given m is = refl
texts (text.MGet ks) given m is = refl
texts (text.Set k value condition reply lifetime) given m is = never is
texts (text.SetEx k seconds value) given m is = never is
texts (text.PSetEx k milliseconds value) given m is = never is
texts (text.SetNx k value) given m is = never is
texts (text.GetSet k value) given m is = never is
texts (text.GetDel k) given m is = never is
texts (text.MSet pairs) given m is = never is
texts (text.MSetNx pairs) given m is = never is
texts (text.Append k value) given m is = never is
texts (text.SetRange k offset value) given m is = never is
texts (text.Increase k by) given m is = never is

keys : (command : KeyAsk) (given : Given) (m : Dataset) → key_writes command ≡ false → own_effects (command_of (ask.Keys command) given) given.now m ≡ []
keys (key.Del ks) given m is = never is
keys (key.Unlink ks) given m is = never is
keys (key.Rename from to) given m is = never is
keys (key.RenameNx from to) given m is = never is
keys (key.Clear databases timing) given m is = never is
keys (key.Expire k expiry condition) given m is = never is
keys (key.Persist k) given m is = never is
keys (key.Exists ks) given m is = refl
keys (key.KeyType k) given m is = refl
keys (key.Keys pattern) given m is = refl
keys (key.Scan cursor pattern kind) given m is = refl
keys key.DbSize given m is = refl
keys (key.Ttl k) given m is = refl
keys (key.PTtl k) given m is = refl
keys (key.ExpireTime k) given m is = refl
keys (key.PExpireTime k) given m is = refl

of_hash : (command : HashAsk) → ((h : Hash) → (hash_commands.change command h).effects ≡ []) → (given : Given) (m : Dataset) → own_effects (command_of (ask.Hashes command) given) given.now m ≡ []
of_hash command silent given m = silent_changed hashes (hash_commands.change command) silent _ _

in_hashes : (command : HashAsk) (given : Given) (m : Dataset) → hash_writes command ≡ false → own_effects (command_of (ask.Hashes command) given) given.now m ≡ []
in_hashes (hash.HSet k pairs reply) given m is = never is
in_hashes (hash.HSetNx k field value) given m is = never is
in_hashes (hash.HDel k fields) given m is = never is
in_hashes (hash.HIncrBy k field by) given m is = never is
in_hashes (hash.HGet k f) given m is = of_hash (hash.HGet k f) (λ h. refl) given m
in_hashes (hash.HMGet k fs) given m is = of_hash (hash.HMGet k fs) (λ h. refl) given m
in_hashes (hash.ListHash k part) given m is = of_hash (hash.ListHash k part) (λ h. refl) given m
in_hashes (hash.HExists k f) given m is = of_hash (hash.HExists k f) (λ h. refl) given m
in_hashes (hash.HLen k) given m is = of_hash (hash.HLen k) (λ h. refl) given m
in_hashes (hash.HStrLen k f) given m is = of_hash (hash.HStrLen k f) (λ h. refl) given m

in_lists : (command : ListAsk) (given : Given) (m : Dataset) → list_writes command ≡ false → own_effects (command_of (ask.Lists command) given) given.now m ≡ []
in_lists (list.LLen k) given m is = silent_list _ _ _
in_lists (list.LRange k first last) given m is = silent_list _ _ _
in_lists (list.LIndex k index) given m is = silent_list _ _ _
in_lists (list.Push k end to items) given m is = never is
in_lists (list.Pop k end count) given m is = never is
in_lists (list.LSet k index item) given m is = never is
in_lists (list.LInsert k side pivot item) given m is = never is
in_lists (list.LRem k count item) given m is = never is
in_lists (list.LTrim k first last) given m is = never is
in_lists (list.LMove from to taken put) given m is = never is
in_lists (list.RPopLPush from to) given m is = never is

in_sets : (command : SetAsk) (given : Given) (m : Dataset) → set_writes command ≡ false → own_effects (command_of (ask.Sets command) given) given.now m ≡ []
in_sets (set.SAdd k xs) given m is = never is
in_sets (set.SRem k xs) given m is = never is
in_sets (set.SPop k count) given m is = never is
in_sets (set.SMove from to x) given m is = never is
in_sets (set.SIsMember k x) given m is = silent_replied sets _ _ _
in_sets (set.SMIsMember k xs) given m is = silent_replied sets _ _ _
in_sets (set.SMembers k) given m is = silent_replied sets _ _ _
in_sets (set.SCard k) given m is = silent_replied sets _ _ _
in_sets (set.SRandMember k count) given m is = silent_replied sets _ _ _
in_sets (set.Combine operation ks) given m is = refl

in_sorted_sets : (command : ZSetAsk) (given : Given) (m : Dataset) → zset_writes command ≡ false → own_effects (command_of (ask.SortedSets command) given) given.now m ≡ []
in_sorted_sets (zset.ZAdd k condition comparison reply pairs) given m is = never is
in_sorted_sets (zset.ZIncrBy k by x) given m is = never is
in_sorted_sets (zset.ZRem k xs) given m is = never is
in_sorted_sets (zset.TakePairs k order count) given m is = never is
in_sorted_sets (zset.ZRemRangeByRank k first last) given m is = never is
in_sorted_sets (zset.ZRemRangeByScore k min max) given m is = never is
in_sorted_sets (zset.ZCard k) given m is = silent_replied sorted_sets _ _ _
in_sorted_sets (zset.ZCount k min max) given m is = silent_replied sorted_sets _ _ _
in_sorted_sets (zset.ZScore k member) given m is = silent_replied sorted_sets _ _ _
in_sorted_sets (zset.ZMScore k members) given m is = silent_replied sorted_sets _ _ _
in_sorted_sets (zset.GetRank k member order) given m is = silent_replied sorted_sets _ _ _
in_sorted_sets (zset.RangeByRank k first last order reply) given m is = silent_replied sorted_sets _ _ _
in_sorted_sets (zset.RangeByScore k min max order limit reply) given m is = silent_replied sorted_sets _ _ _

pub others_are_silent : OthersHaveNoEffects
others_are_silent (ask.Texts command) given m is = texts command given m is
others_are_silent (ask.Keys command) given m is = keys command given m is
others_are_silent (ask.Hashes command) given m is = in_hashes command given m is
others_are_silent (ask.Lists command) given m is = in_lists command given m is
others_are_silent (ask.Sets command) given m is = in_sets command given m is
others_are_silent (ask.SortedSets command) given m is = in_sorted_sets command given m is
others_are_silent (ask.Server command) given m is = refl
others_are_silent (ask.Node command) given m is = refl
