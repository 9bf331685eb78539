-- The effects of a command may stand beside others in a group: none is a heartbeat.
use Rattle.std.proofs.Common.{◌≡◌, ℕ, ℤ, pos, List, [], ◌∷◌, ◌++◌, Bool, true, false, Option, Some, None, Result, Ok, Err, refl, ap, ◌∙◌}
use Rattle.std.specs.Prelude.{◌&&◌, map, if◌then◌else◌, is_none, is_some, ◌==◌, int_le, bytes_eq, ◌+ℤ◌, length, codes}
use Rattle.std.specs.List.{list_all}
use Rattle.std.specs.Fmt.{signed_decimal}
use Rattle.std.proofs.lemmas.List.Folds.{list_all-append}
use Rattle.std.specs.FinMap.{get, contains_key, keys as member_keys}
use Rattle.mr_map.specs.Bytes.{Bytes}
use Rattle.mr_resp.specs.Replies.{Tree}
use Rattle.mr_value.specs.Lists.{removed_count, count_of}
use Rattle.mr_bytes.specs.Number.{is_i64, number_of}
use Rattle.mr_bytes.specs.Window.{named_place, window_of}
use Rattle.mr_bytes.specs.Words.{fits}
use Rattle.mr_score.specs.Score.{is_score}
use Rattle.mr_bytes.specs.declared.ends.End.{End}
use Rattle.mr_bytes.specs.declared.ends.End.TheVariants.{Left, Right}
use Rattle.mr_bytes.specs.declared.ends.Side.{Side}
use Rattle.mr_effect.specs.declared.effect.Effect.{Effect}
use Rattle.mr_effect.specs.declared.effect.Effect.TheVariants as effect
use Rattle.mr_keyspace.specs.Dataset.{Dataset}
use Rattle.mr_keyspace.specs.Steps.{Kind, held, strings, hashes, lists, sets, sorted_sets}
use Rattle.mr_keyspace.specs.Collections.{end_item, place_beside}
use Rattle.mr_keyspace.specs.Cuts.{cut}
use Rattle.mr_keyspace.specs.declared.value.Entry.{Entry}
use Rattle.mr_keyspace.specs.declared.value.Value.{Value}
use Rattle.mr_keyspace.specs.declared.value.Value.TheVariants as value
use Rattle.mr_data.specs.declared.given.Given.{Given}
use Rattle.mr_cmd_shared.specs.Answered.{Answered, kept, done}
use Rattle.mr_cmd_shared.specs.Outcomes.{Outcome}
use Rattle.mr_cmd_shared.specs.Collections.{Change, changed, changing}
use Rattle.mr_cmd_shared.specs.Commands.{Command, on_key, on_keys, before, effects, own_effects}
use Rattle.mr_cmd_shared.specs.Keys.{chosen, dels, expired}
use Rattle.mr_ask.specs.Asks.{asked}
use Rattle.mr_ask.specs.declared.ask.Ask.{Ask}
use Rattle.mr_ask.specs.declared.ask.Ask.TheVariants as ask
use Rattle.mr_arguments.specs.declared.fault.AskFault.{AskFault}
use Rattle.mr_commands.specs.PlannedCommands.{command_of}
use Rattle.mr_commands.specs.Requests.{HasPlan, IsPlannedAs}
use Rattle.mr_commands.proofs.Silence.{others_are_silent}
use Rattle.mr_cmd_string.specs.declared.text_ask.TextAsk.{TextAsk}
use Rattle.mr_cmd_string.specs.declared.text_ask.TextAsk.TheVariants as text
use Rattle.mr_cmd_string.specs.declared.text_ask.SetCondition.{SetCondition}
use Rattle.mr_cmd_string.specs.declared.text_ask.SetReply.{SetReply}
use Rattle.mr_cmd_string.specs.declared.text_ask.SetReply.TheVariants as reply
use Rattle.mr_cmd_string.specs.declared.deadlines.NewDeadline.{NewDeadline}
use Rattle.mr_cmd_string.specs.declared.deadlines.NewDeadline.TheVariants as deadline
use Rattle.mr_cmd_string.specs.declared.text_ask.Lifetime.TheVariants.{Until}
use Rattle.mr_arguments.specs.declared.expiry.Expiry.TheVariants.{Seconds, Milliseconds}
use Rattle.mr_cmd_string.specs.Parts.{amount_number}
use Rattle.mr_cmd_string.specs.Setting as setting
use Rattle.mr_cmd_string.specs.SettingAll as setting_all
use Rattle.mr_cmd_string.specs.Changing as rewriting
use Rattle.mr_cmd_key.specs.declared.key_ask.KeyAsk.{KeyAsk}
use Rattle.mr_cmd_key.specs.declared.key_ask.KeyAsk.TheVariants as key
use Rattle.mr_cmd_key.specs.declared.key_ask.ExpireCondition.{ExpireCondition}
use Rattle.mr_cmd_key.specs.Expiring as expiring
use Rattle.mr_cmd_key.specs.Renaming as renaming
use Rattle.mr_cmd_hash.specs.declared.hash_ask.HashAsk.{HashAsk}
use Rattle.mr_cmd_hash.specs.declared.hash_ask.HashAsk.TheVariants as hash
use Rattle.mr_cmd_hash.specs.Hashes as hash_changes
use Rattle.mr_cmd_hash.specs.Hashes.{Hash}
use Rattle.mr_cmd_list.specs.declared.list_ask.ListAsk.{ListAsk}
use Rattle.mr_cmd_list.specs.declared.list_ask.ListAsk.TheVariants as list
use Rattle.mr_cmd_list.specs.declared.list_ask.PushTo.{PushTo}
use Rattle.mr_cmd_list.specs.declared.list_ask.PushTo.TheVariants.{AnyKey, ExistingKey}
use Rattle.mr_cmd_list.specs.Lists.{on_list}
use Rattle.mr_cmd_list.specs.Pushes as pushes
use Rattle.mr_cmd_list.specs.Pops as pops
use Rattle.mr_cmd_list.specs.Edits as edits
use Rattle.mr_cmd_list.specs.Moves as moves
use Rattle.mr_cmd_set.specs.declared.set_ask.SetAsk.{SetAsk}
use Rattle.mr_cmd_set.specs.declared.set_ask.SetAsk.TheVariants as set
use Rattle.mr_cmd_set.specs.Sets as set_changes
use Rattle.mr_cmd_set.specs.Members.{Members, as_set}
use Rattle.mr_cmd_set.specs.Moving as moving_members
use Rattle.mr_cmd_zset.specs.declared.zset_ask.ZSetAsk.{ZSetAsk}
use Rattle.mr_cmd_zset.specs.declared.zset_ask.ZSetAsk.TheVariants as zset
use Rattle.mr_cmd_zset.specs.Scores as scores
use Rattle.mr_cmd_zset.specs.Scores.{Scores}
use Rattle.mr_cmd_zset.specs.Adding as adding
use Rattle.mr_cmd_zset.specs.Removing as removing
use Rattle.mr_groups.specs.Groups.{can_join}

true_and : (b c : Bool) → b ≡ true → c ≡ true → (b && c) ≡ true
true_and b c p q = cc

pub both_join : (es fs : List Effect) → list_all can_join es ≡ true → list_all can_join fs ≡ true → list_all can_join (es ++ fs) ≡ true
both_join es fs p q = list_all-append can_join es fs ∙ true_and (list_all can_join es) (list_all can_join fs) p q

each_joins : {A : Type 0} (f : A → Effect) (xs : List A) → ((x : A) → can_join (f x) ≡ true) → list_all can_join (map f xs) ≡ true
each_joins f [] all = refl
each_joins f (x ∷ xs) all = true_and (can_join (f x)) (list_all can_join (map f xs)) (all x) (each_joins f xs all)

-- ---- effects that may, and those of an answer, of a change and of an outcome
record Clean (es : List Effect) : Type 0 where
  is : list_all can_join es ≡ true

record Answers (a : Answered) : Type 0 where
  is : list_all can_join a.effects ≡ true

record Changes {X : Type 0} (c : Change X) : Type 0 where
  is : list_all can_join c.effects ≡ true

record Comes (o : Outcome) : Type 0 where
  is : list_all can_join o.effects ≡ true

none : (es : List Effect) → es ≡ [] → list_all can_join es ≡ true
none es e = ap (list_all can_join) e

unless_same : (b : Bool) (e : Effect) → can_join e ≡ true → list_all can_join (if b then [] else e ∷ []) ≡ true
unless_same true e h = refl
unless_same false e h = true_and (can_join e) true h refl

kept_one : (t : Tree) (before : Option Entry) → Answers (kept t before)
kept_one t before = record { is = refl }

either : (b : Bool) (t u : Answered) → Answers t → Answers u → Answers (if b then t else u)
either true t u p q = p
either false t u p q = q

either_change : {X : Type 0} (b : Bool) (t u : Change X) → Changes t → Changes u → Changes (if b then t else u)
either_change true t u p q = p
either_change false t u p q = q

either_outcome : (b : Bool) (t u : Outcome) → Comes t → Comes u → Comes (if b then t else u)
either_outcome true t u p q = p
either_outcome false t u p q = q

changed_one : {X : Type 0} (kind : Kind X) (change : X → Change X) → ((x : X) → Changes (change x)) → (there : Option X) (before : Option Entry) → Answers (changed kind change there before)
changed_one kind change f None before = record { is = refl }
changed_one kind change f (Some x) before = record { is = (f x).is }

changing_one : {X : Type 0} (kind : Kind X) (change : X → Change X) → ((x : X) → Changes (change x)) → (before : Option Entry) → Answers (changing kind change before)
changing_one kind change f before = changed_one kind change f (held kind before) before

on_list_one : (absent : Tree) (change : List Bytes → Change (List Bytes)) → ((xs : List Bytes) → Changes (change xs)) → (before : Option Entry) → Answers (on_list absent change before)
on_list_one absent change f None = record { is = refl }
on_list_one absent change f (Some e) = changing_one lists change f (Some e)

-- a command on one key, and one on several
on_key_one : (k : Bytes) (answers : Option Entry → Answered) → ((there : Option Entry) → Answers (answers there)) → (now : ℤ) (m : Dataset) → Clean (own_effects (on_key k answers) now m)
on_key_one k answers f now m = record { is = (f (get (before (on_key k answers) now m) k)).is }

on_keys_one : (ks : List Bytes) (does : Dataset → Outcome) → ((m : Dataset) → Comes (does m)) → (now : ℤ) (m : Dataset) → Clean (own_effects (on_keys ks does) now m)
on_keys_one ks does f now m = record { is = (f (before (on_keys ks does) now m)).is }

-- ---- texts
set_is_none : (k t : Bytes) (new : NewDeadline) → can_join (setting.set_effect k t new) ≡ true
set_is_none k t deadline.Endless = refl
set_is_none k t deadline.Kept = refl
set_is_none k t (deadline.At d) = refl

put_one : (k t : Bytes) (new : NewDeadline) (answer : Tree) (before : Option Entry) → Answers (setting.put k t new answer before)
put_one k t new answer before = record { is = unless_same (setting.holds_until t (setting.until new before) before) (setting.set_effect k t new) (set_is_none k t new) }

set_one : (k t : Bytes) (when : Option SetCondition) (how : SetReply) (new : NewDeadline) (before : Option Entry) → Answers (setting.set_answer k t when how new before)
set_one k t when reply.Done new before = either (setting.allows when before) _ _ (put_one k t new _ before) (kept_one _ before)
set_one k t when reply.Before new before = either (setting.holds_other before) _ _ (kept_one _ before) (either (setting.allows when before) _ _ (put_one k t new _ before) (kept_one _ before))

setnx_one : (k t : Bytes) (before : Option Entry) → Answers (setting.setnx_answer k t before)
setnx_one k t before = either (is_none before) _ _ (put_one k t deadline.Endless _ before) (kept_one _ before)

getset_one : (k t : Bytes) (before : Option Entry) → Answers (setting.getset_answer k t before)
getset_one k t before = either (setting.holds_other before) _ _ (kept_one _ before) (put_one k t deadline.Endless _ before)

taken_one : (k : Bytes) (v : Value) (e : Entry) → Answers (setting.taken k v e)
taken_one k (value.Text t) e = record { is = refl }
taken_one k _ e = record { is = refl }

getdel_one : (k : Bytes) (before : Option Entry) → Answers (setting.getdel_answer k before)
getdel_one k None = record { is = refl }
getdel_one k (Some e) = taken_one k e.value e

set_all : (pairs : List (Bytes × Bytes)) → list_all can_join (setting_all.set_effects pairs) ≡ true
set_all [] = refl
set_all (p ∷ ps) = refl

put_all_one : (answer : Tree) (pairs : List (Bytes × Bytes)) (m : Dataset) → Comes (setting_all.put_all answer pairs m)
put_all_one answer pairs m = record { is = set_all (setting_all.changed pairs m) }

lengthened_one : (t : Bytes) (made : Effect) (before : Option Entry) → can_join made ≡ true → Answers (rewriting.lengthened t made before)
lengthened_one t made before h = either (fits t) _ _ (record { is = unless_same (rewriting.holds t before) made h }) (kept_one _ before)

appended_one : (k more : Bytes) (o : Option Bytes) (before : Option Entry) → Answers (rewriting.appended k more o before)
appended_one k more None before = kept_one _ before
appended_one k more (Some t) before = lengthened_one _ (effect.Append k more) before refl

put_over_one : (k : Bytes) (offset : ℕ) (part : Bytes) (o : Option Bytes) (before : Option Entry) → Answers (rewriting.put_over k offset part o before)
put_over_one k offset part None before = kept_one _ before
put_over_one k offset part (Some t) before = either (length part == 0) _ _ (kept_one _ before) (lengthened_one _ (effect.SetRange k (pos offset) part) before refl)

increase_from_one : (k : Bytes) (by : ℤ) (o : Option ℤ) (before : Option Entry) → Answers (rewriting.increase_from k by o before)
increase_from_one k by None before = kept_one _ before
increase_from_one k by (Some n) before = either (is_i64 (n +ℤ by)) _ _ (record { is = unless_same (rewriting.holds (signed_decimal (n +ℤ by)) before) (effect.Increase k by) refl }) (kept_one _ before)

increase_one : (k : Bytes) (by : ℤ) (o : Option Bytes) (before : Option Entry) → Answers (rewriting.increase_text k by o before)
increase_one k by None before = kept_one _ before
increase_one k by (Some t) before = increase_from_one k by (number_of t) before

msetnx_one : (pairs : List (Bytes × Bytes)) (m : Dataset) → Comes (setting_all.msetnx pairs m)
msetnx_one pairs m = either_outcome (setting_all.is_any_there pairs m) _ _ (record { is = refl }) (put_all_one _ pairs m)

in_texts : (command : TextAsk) (given : Given) (m : Dataset) → Clean (own_effects (command_of (ask.Texts command) given) given.now m)
in_texts (text.Set k t when how lifetime) given m = on_key_one k _ (set_one k t when how (setting.said_at given.now lifetime)) given.now m
in_texts (text.SetEx k n t) given m = on_key_one k _ (set_one k t None reply.Done (setting.said_at given.now (Until (Seconds n)))) given.now m
in_texts (text.PSetEx k n t) given m = on_key_one k _ (set_one k t None reply.Done (setting.said_at given.now (Until (Milliseconds n)))) given.now m
in_texts (text.SetNx k t) given m = on_key_one k _ (setnx_one k t) given.now m
in_texts (text.GetSet k t) given m = on_key_one k _ (getset_one k t) given.now m
in_texts (text.GetDel k) given m = on_key_one k _ (getdel_one k) given.now m
in_texts (text.MSet pairs) given m = on_keys_one _ _ (put_all_one done pairs) given.now m
in_texts (text.MSetNx pairs) given m = on_keys_one _ _ (msetnx_one pairs) given.now m
in_texts (text.Append k t) given m = on_key_one k _ (λ b. appended_one k t (held (strings []) b) b) given.now m
in_texts (text.SetRange k offset t) given m = on_key_one k _ (λ b. put_over_one k offset t (held (strings []) b) b) given.now m
in_texts (text.Increase k by) given m = on_key_one k _ (λ b. increase_one k (amount_number by) (held (strings (codes "0")) b) b) given.now m
in_texts (text.Get k) given m = record { is = refl }
in_texts (text.StrLen k) given m = record { is = refl }
in_texts (text.GetRange k first last) given m = record { is = refl }
in_texts (text.MGet ks) given m = record { is = refl }

-- ---- keys
dels_all : (ks : List Bytes) → list_all can_join (dels ks) ≡ true
dels_all ks = each_joins (λ k. effect.Del k) ks (λ k. refl)

expire_one : (k : Bytes) (when : Option ExpireCondition) (now d : ℤ) (before : Option Entry) → Answers (expiring.expire_answer k when now d before)
expire_one k when now d None = record { is = refl }
expire_one k when now d (Some e) =
    either (expiring.allows when e.deadline d) _ _ (either (int_le d now) _ _ (record { is = refl }) (record { is = unless_same (expiring.is_until d e.deadline) (effect.Expire k d) refl })) (kept_one _ (Some e))

persist_one : (k : Bytes) (before : Option Entry) → Answers (expiring.persist_answer k before)
persist_one k None = record { is = refl }
persist_one k (Some e) = either (is_some e.deadline) _ _ (record { is = refl }) (kept_one _ (Some e))

carried_one : (from to : Bytes) (answer : Tree) (o : Option Entry) (m : Dataset) → Comes (renaming.carried_if from to answer o m)
carried_one from to answer None m = record { is = refl }
carried_one from to answer (Some e) m = either_outcome (bytes_eq from to) _ _ (record { is = refl }) (record { is = refl })

renamed_nx_one : (from to : Bytes) (m : Dataset) → Comes (renaming.renamed_nx from to m)
renamed_nx_one from to m = either_outcome (is_some (get m from)) _ _ (either_outcome (is_some (get m to)) _ _ (record { is = refl }) (carried_one from to _ (get m from) m)) (record { is = refl })

in_keys : (command : KeyAsk) (given : Given) (m : Dataset) → Clean (own_effects (command_of (ask.Keys command) given) given.now m)
in_keys (key.Del ks) given m = record { is = dels_all (chosen is_some ks (before (command_of (ask.Keys (key.Del ks)) given) given.now m)) }
in_keys (key.Unlink ks) given m = record { is = dels_all (chosen is_some ks (before (command_of (ask.Keys (key.Unlink ks)) given) given.now m)) }
in_keys (key.Rename from to) given m = record { is = (carried_one from to _ _ _).is }
in_keys (key.RenameNx from to) given m = record { is = (renamed_nx_one from to _).is }
in_keys (key.Clear databases timing) given m = record { is = unless_same _ effect.Clear refl }
in_keys (key.Expire k expiry when) given m = record { is = (expire_one k when given.now _ _).is }
in_keys (key.Persist k) given m = record { is = (persist_one k _).is }
in_keys _ given m = record { is = refl }

-- ---- hashes
set_pairs_one : (k : Bytes) (answer : Tree) (pairs : List (Bytes × Bytes)) (h : Hash) → Changes (hash_changes.set_pairs k answer pairs h)
set_pairs_one k answer pairs h = record { is = each_joins (effect.SetFields k) (cut (hash_changes.changed pairs h)) (λ x. refl) }

increase_field : (k f : Bytes) (by : ℤ) (o : Option ℤ) (h : Hash) → Changes (hash_changes.increase_from k f by o h)
increase_field k f by None h = record { is = refl }
increase_field k f by (Some n) h = either_change (is_i64 (n +ℤ by)) _ _ (set_pairs_one k _ ((f, signed_decimal (n +ℤ by)) ∷ []) h) (record { is = refl })

in_hashes : (command : HashAsk) (given : Given) (m : Dataset) → Clean (own_effects (command_of (ask.Hashes command) given) given.now m)
in_hashes (hash.HSet k pairs how) given m = record { is = (changing_one hashes _ (λ h. set_pairs_one k _ pairs h) _).is }
in_hashes (hash.HSetNx k f v) given m = record { is = (changing_one hashes (hash_changes.hsetnx k f v) (λ h. either_change (contains_key h f) _ _ (record { is = refl }) (set_pairs_one k _ ((f, v) ∷ []) h)) _).is }
in_hashes (hash.HDel k fs) given m = record { is = (changing_one hashes (hash_changes.hdel k fs) (λ h. record { is = each_joins (effect.RemoveFields k) (cut (hash_changes.removed fs h)) (λ x. refl) }) _).is }
in_hashes (hash.HIncrBy k f by) given m = record { is = (changing_one hashes (hash_changes.hincrby k f by) (λ h. increase_field k f by (hash_changes.number_at (get h f)) h) _).is }
in_hashes (hash.HGet k f) given m = record { is = none _ (others_are_silent (ask.Hashes (hash.HGet k f)) given m refl) }
in_hashes (hash.HMGet k fs) given m = record { is = none _ (others_are_silent (ask.Hashes (hash.HMGet k fs)) given m refl) }
in_hashes (hash.ListHash k part) given m = record { is = none _ (others_are_silent (ask.Hashes (hash.ListHash k part)) given m refl) }
in_hashes (hash.HExists k f) given m = record { is = none _ (others_are_silent (ask.Hashes (hash.HExists k f)) given m refl) }
in_hashes (hash.HLen k) given m = record { is = none _ (others_are_silent (ask.Hashes (hash.HLen k)) given m refl) }
in_hashes (hash.HStrLen k f) given m = record { is = none _ (others_are_silent (ask.Hashes (hash.HStrLen k f)) given m refl) }

-- ---- lists
push_one : (k : Bytes) (end : End) (items xs : List Bytes) → Changes (pushes.push_change k end items xs)
push_one k end items xs = record { is = each_joins (effect.Push k end) (cut items) (λ x. refl) }

pushes_one : (k : Bytes) (end : End) (to : PushTo) (items : List Bytes) (before : Option Entry) → Answers (pushes.push_answer k end to items before)
pushes_one k end AnyKey items before = changing_one lists (pushes.push_change k end items) (push_one k end items) before
pushes_one k end ExistingKey items before = on_list_one _ (pushes.push_change k end items) (push_one k end items) before

without_item_one : (k : Bytes) (end : End) (o : Option Bytes) (xs : List Bytes) → Changes (pops.without_item k end o xs)
without_item_one k end None xs = record { is = refl }
without_item_one k end (Some item) xs = record { is = refl }

pops_one : (k : Bytes) (end : End) (count : Option ℕ) (before : Option Entry) → Answers (pops.pop_answer k end count before)
pops_one k end None before = on_list_one _ _ (λ xs. without_item_one k end (end_item end xs) xs) before
pops_one k end (Some most) before = on_list_one _ (λ xs. pops.without_items k end _ xs) (λ xs. record { is = unless_same _ (effect.Pop k end (pos _)) refl }) before

with_item_one : (k item : Bytes) (o : Option ℕ) (xs : List Bytes) → Changes (edits.with_item k item o xs)
with_item_one k item None xs = record { is = refl }
with_item_one k item (Some place) xs = record { is = unless_same _ (effect.SetItem k (pos place) item) refl }

with_inserted_one : (k : Bytes) (side : Side) (pivot item : Bytes) (o : Option ℕ) (xs : List Bytes) → Changes (edits.with_inserted k side pivot item o xs)
with_inserted_one k side pivot item None xs = record { is = refl }
with_inserted_one k side pivot item (Some place) xs = record { is = refl }

without_equal_one : (k : Bytes) (count : ℤ) (item : Bytes) (removed : ℕ) (xs : List Bytes) → Changes (edits.without_equal k count item removed xs)
without_equal_one k count item removed xs = record { is = unless_same _ (effect.RemoveItems k count item) refl }

trimmed_one : (k : Bytes) (o : Option (ℕ × ℕ)) (xs : List Bytes) → Changes (edits.trimmed k o xs)
trimmed_one k None xs = record { is = refl }
trimmed_one k (Some w) xs = record { is = unless_same _ (effect.Trim k (pos w.0) (pos w.1)) refl }

rotated_one : (k : Bytes) (taken put : End) (o : Option Bytes) (xs : List Bytes) → Changes (moves.with_rotated k taken put o xs)
rotated_one k taken put None xs = record { is = refl }
rotated_one k taken put (Some item) xs = record { is = unless_same _ (effect.MoveItem k k taken put) refl }

record Carries (c : moves.Carry) : Type 0 where
  is : list_all can_join c.effects ≡ true

carry_item_one : (from to : Bytes) (taken put : End) (o : Option Bytes) (xs ys : List Bytes) (source target : Option Entry) → Carries (moves.carry_item from to taken put o xs ys source target)
carry_item_one from to taken put None xs ys source target = record { is = refl }
carry_item_one from to taken put (Some item) xs ys source target = record { is = refl }

carry_to_one : (from to : Bytes) (taken put : End) (xs : List Bytes) (o : Option (List Bytes)) (source target : Option Entry) → Carries (moves.carry_to from to taken put xs o source target)
carry_to_one from to taken put xs None source target = record { is = refl }
carry_to_one from to taken put xs (Some ys) source target = carry_item_one from to taken put (end_item taken xs) xs ys source target

carry_from_one : (from to : Bytes) (taken put : End) (o : Option (List Bytes)) (source target : Option Entry) → Carries (moves.carry_from from to taken put o source target)
carry_from_one from to taken put None source target = record { is = refl }
carry_from_one from to taken put (Some xs) source target = carry_to_one from to taken put xs (held lists target) source target

carry_one : (from to : Bytes) (taken put : End) (source target : Option Entry) → Carries (moves.carry from to taken put source target)
carry_one from to taken put None target = record { is = refl }
carry_one from to taken put (Some e) target = carry_from_one from to taken put (lists.of e.value) (Some e) target

moved_one : (from to : Bytes) (taken put : End) (m : Dataset) → Comes (moves.moved from to taken put m)
moved_one from to taken put m = either_outcome (bytes_eq from to) _ _
    (record { is = (on_list_one _ (λ xs. moves.with_rotated from taken put (end_item taken xs) xs) (λ xs. rotated_one from taken put (end_item taken xs) xs) (get m from)).is })
    (record { is = (carry_one from to taken put (get m from) (get m to)).is })

in_lists : (command : ListAsk) (given : Given) (m : Dataset) → Clean (own_effects (command_of (ask.Lists command) given) given.now m)
in_lists (list.Push k end to items) given m = record { is = (pushes_one k end to items _).is }
in_lists (list.Pop k end count) given m = record { is = (pops_one k end count _).is }
in_lists (list.LSet k index item) given m = record { is = (on_list_one _ (λ xs. edits.with_item k item (named_place index (length xs)) xs) (λ xs. with_item_one k item (named_place index (length xs)) xs) _).is }
in_lists (list.LInsert k side pivot item) given m = record { is = (on_list_one _ (λ xs. edits.with_inserted k side pivot item (place_beside side pivot xs) xs) (λ xs. with_inserted_one k side pivot item (place_beside side pivot xs) xs) _).is }
in_lists (list.LRem k count item) given m = record { is = (on_list_one _ (λ xs. edits.without_equal k count item (removed_count count (count_of item xs)) xs) (λ xs. without_equal_one k count item (removed_count count (count_of item xs)) xs) _).is }
in_lists (list.LTrim k first last) given m = record { is = (on_list_one _ (λ xs. edits.trimmed k (window_of first last (length xs)) xs) (λ xs. trimmed_one k (window_of first last (length xs)) xs) _).is }
in_lists (list.LMove from to taken put) given m = record { is = (moved_one from to taken put _).is }
in_lists (list.RPopLPush from to) given m = record { is = (moved_one from to Right Left _).is }
in_lists (list.LLen k) given m = record { is = none _ (others_are_silent (ask.Lists (list.LLen k)) given m refl) }
in_lists (list.LRange k first last) given m = record { is = none _ (others_are_silent (ask.Lists (list.LRange k first last)) given m refl) }
in_lists (list.LIndex k index) given m = record { is = none _ (others_are_silent (ask.Lists (list.LIndex k index)) given m refl) }

-- ---- sets
member_moved : (from to x : Bytes) (m : Dataset) (s d : Option Members) → Comes (moving_members.moving from to x m s d)
member_moved from to x m None d = record { is = refl }
member_moved from to x m (Some s) None = record { is = refl }
member_moved from to x m (Some s) (Some d) = either_outcome (contains_key s x) _ _ (either_outcome (bytes_eq from to) _ _ (record { is = refl }) (record { is = refl })) (record { is = refl })

smove_one : (from to x : Bytes) (m : Dataset) → Comes (moving_members.smove from to x m)
smove_one from to x m = either_outcome (is_some (get m from)) _ _ (member_moved from to x m (held sets (get m from)) (held sets (get m to))) (record { is = refl })

in_sets : (command : SetAsk) (given : Given) (m : Dataset) → Clean (own_effects (command_of (ask.Sets command) given) given.now m)
in_sets (set.SAdd k xs) given m = record { is = (changing_one sets (set_changes.adding k xs) (λ s. record { is = each_joins (effect.AddMembers k) (cut (member_keys (set_changes.added xs s))) (λ x. refl) }) _).is }
in_sets (set.SRem k xs) given m = record { is = (changing_one sets (set_changes.removing k xs) (λ s. record { is = each_joins (effect.RemoveMembers k) (cut (member_keys (set_changes.removed xs s))) (λ x. refl) }) _).is }
in_sets (set.SPop k count) given m = record { is = (changing_one sets (set_changes.taking k count given.word) (λ s. record { is = each_joins (effect.RemoveMembers k) (cut (member_keys (as_set (set_changes.taken count given.word s)))) (λ x. refl) }) _).is }
in_sets (set.SMove from to x) given m = record { is = (smove_one from to x _).is }
in_sets (set.SIsMember k x) given m = record { is = none _ (others_are_silent (ask.Sets (set.SIsMember k x)) given m refl) }
in_sets (set.SMIsMember k xs) given m = record { is = none _ (others_are_silent (ask.Sets (set.SMIsMember k xs)) given m refl) }
in_sets (set.SMembers k) given m = record { is = none _ (others_are_silent (ask.Sets (set.SMembers k)) given m refl) }
in_sets (set.SCard k) given m = record { is = none _ (others_are_silent (ask.Sets (set.SCard k)) given m refl) }
in_sets (set.SRandMember k count) given m = record { is = none _ (others_are_silent (ask.Sets (set.SRandMember k count)) given m refl) }
in_sets (set.Combine operation ks) given m = record { is = refl }

-- ---- sorted sets
set_to_one : (k : Bytes) (answer : Tree) (old new : Scores) → Changes (scores.set_to k answer old new)
set_to_one k answer old new = record { is = each_joins (effect.SetScores k) (cut (scores.changed old new)) (λ x. refl) }

reduced_one : (k : Bytes) (answer : Tree) (old new : Scores) → Changes (scores.reduced_to k answer old new)
reduced_one k answer old new = record { is = each_joins (effect.RemoveScores k) (cut (scores.lost old new)) (λ x. refl) }

score_one : (k x : Bytes) (score : ℤ) (s : Scores) → Changes (adding.set_score k x score s)
score_one k x score s = either_change (is_score score) _ _ (set_to_one k _ s _) (record { is = refl })

in_sorted_sets : (command : ZSetAsk) (given : Given) (m : Dataset) → Clean (own_effects (command_of (ask.SortedSets command) given) given.now m)
in_sorted_sets (zset.ZAdd k only than how pairs) given m = record { is = (changing_one sorted_sets (adding.zadd only than k how pairs) (λ s. set_to_one k _ s _) _).is }
in_sorted_sets (zset.ZIncrBy k by x) given m = record { is = (changing_one sorted_sets (adding.zincrby k by x) (λ s. score_one k x (adding.score_or_0 (get s x) +ℤ by) s) _).is }
in_sorted_sets (zset.ZRem k xs) given m = record { is = (changing_one sorted_sets (removing.zrem k xs) (λ s. reduced_one k _ s _) _).is }
in_sorted_sets (zset.TakePairs k order count) given m = record { is = (changing_one sorted_sets (removing.take_pairs k order count) (λ s. reduced_one k _ s _) _).is }
in_sorted_sets (zset.ZRemRangeByRank k first last) given m = record { is = (changing_one sorted_sets (removing.zremrangebyrank k first last) (λ s. reduced_one k _ s _) _).is }
in_sorted_sets (zset.ZRemRangeByScore k min max) given m = record { is = (changing_one sorted_sets (removing.zremrangebyscore k min max) (λ s. reduced_one k _ s _) _).is }
in_sorted_sets (zset.ZCard k) given m = record { is = none _ (others_are_silent (ask.SortedSets (zset.ZCard k)) given m refl) }
in_sorted_sets (zset.ZCount k min max) given m = record { is = none _ (others_are_silent (ask.SortedSets (zset.ZCount k min max)) given m refl) }
in_sorted_sets (zset.ZScore k x) given m = record { is = none _ (others_are_silent (ask.SortedSets (zset.ZScore k x)) given m refl) }
in_sorted_sets (zset.ZMScore k xs) given m = record { is = none _ (others_are_silent (ask.SortedSets (zset.ZMScore k xs)) given m refl) }
in_sorted_sets (zset.GetRank k x order) given m = record { is = none _ (others_are_silent (ask.SortedSets (zset.GetRank k x order)) given m refl) }
in_sorted_sets (zset.RangeByRank k first last order how) given m = record { is = none _ (others_are_silent (ask.SortedSets (zset.RangeByRank k first last order how)) given m refl) }
in_sorted_sets (zset.RangeByScore k min max order limit how) given m = record { is = none _ (others_are_silent (ask.SortedSets (zset.RangeByScore k min max order limit how)) given m refl) }

-- ---- all commands, with the DELs of the expired keys that they name
in_command : (command : Ask) (given : Given) (m : Dataset) → Clean (own_effects (command_of command given) given.now m)
in_command (ask.Texts command) given m = in_texts command given m
in_command (ask.Keys command) given m = in_keys command given m
in_command (ask.Hashes command) given m = in_hashes command given m
in_command (ask.Lists command) given m = in_lists command given m
in_command (ask.Sets command) given m = in_sets command given m
in_command (ask.SortedSets command) given m = in_sorted_sets command given m
in_command (ask.Server command) given m = record { is = refl }
in_command (ask.Node command) given m = record { is = refl }

in_effects : (command : Command) (now : ℤ) (m : Dataset) → Clean (own_effects command now m) → list_all can_join (effects command now m) ≡ true
in_effects command now m own =
    let ks = expired now command.keys m in both_join (dels ks) (own_effects command now m) (dels_all ks) own.is

planned : (r : Result Ask AskFault) (replica : Bool) (given : Given) (m : Dataset) (answer : Tree) (es : List Effect) → IsPlannedAs r replica given m answer es → list_all can_join es ≡ true
planned (Ok command) false given m answer es p = ap (list_all can_join) p.effects_are ∙ in_effects (command_of command given) given.now m (in_command command given m)
planned (Ok command) true given m answer es p = none es p.1
planned (Err fault) replica given m answer es p = none es p.1

pub all_join : (replica : Bool) (m : Dataset) (words : List Bytes) (given : Given) (answer : Tree) (es : List Effect) → HasPlan replica m words given answer es → list_all can_join es ≡ true
all_join replica m words given answer es p = planned (asked words) replica given m answer es p.planned.planned
