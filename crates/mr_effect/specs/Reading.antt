-- Effects read from words. The law above it: it finds the effect that has these words.
use Rattle.std.specs.Prelude.{ℤ, List, [], ◌∷◌, if◌then◌else◌, Option, Some, None, codes}
use Rattle.std.specs.Option.{option_map, option_and_then}
use Rattle.std.specs.Str.{bytes_eq}
use Rattle.mr_map.specs.Bytes.{Bytes}
use Rattle.mr_bytes.specs.Number.{number_of}
use Rattle.mr_score.specs.Texts.{within_limit}
use Rattle.mr_effect.specs.Effects.{is_place, is_deadline}
use Rattle.mr_effect.specs.Names.{named}
use Rattle.mr_effect.specs.declared.name.EffectName.{EffectName}
use Rattle.mr_effect.specs.declared.name.EffectName.TheVariants as name
use Rattle.mr_effect.specs.declared.effect.Effect.{Effect}
use Rattle.mr_effect.specs.declared.effect.Effect.TheVariants as effect
use Rattle.mr_bytes.specs.declared.ends.End.{End}
use Rattle.mr_bytes.specs.declared.ends.End.TheVariants.{Left, Right}
use Rattle.mr_bytes.specs.declared.ends.Side.{Side}
use Rattle.mr_bytes.specs.declared.ends.Side.TheVariants.{Before, After}

abbrev pub end_of : Bytes → Option End
end_of word = if bytes_eq word (codes "LEFT") then Some Left else if bytes_eq word (codes "RIGHT") then Some Right else None

abbrev pub side_of : Bytes → Option Side
side_of word = if bytes_eq word (codes "BEFORE") then Some Before else if bytes_eq word (codes "AFTER") then Some After else None

-- a place counted from the front
abbrev pub within : ℤ → Option ℤ
within i = if is_place i then Some i else None

abbrev pub place_of : Bytes → Option ℤ
place_of word = option_and_then within (number_of word)

-- the number, if it is a deadline
abbrev pub within_deadlines : ℤ → Option ℤ
within_deadlines d = if is_deadline d then Some d else None

abbrev pub deadline_of : Bytes → Option ℤ
deadline_of word = option_and_then within_deadlines (number_of word)

-- a score without point and zeros
abbrev pub score_of : Bytes → Option ℤ
score_of word = option_and_then within_limit (number_of word)

-- keys or fields, and values, in turn
abbrev pub pairs_of : List Bytes → Option (List (Bytes × Bytes))
pairs_of [] = Some []
pairs_of (f ∷ []) = None
pairs_of (f ∷ v ∷ ws) = option_map (λ ps. (f, v) ∷ ps) (pairs_of ws)

-- scores and members in turn
abbrev pub scores_of : List Bytes → Option (List (Bytes × ℤ))
scores_of [] = Some []
scores_of (s ∷ []) = None
scores_of (s ∷ m ∷ ws) = option_and_then (λ n. option_map (λ ps. (m, n) ∷ ps) (scores_of ws)) (score_of s)

-- SET with one word behind the text
abbrev pub set_keeping_of : Bytes → Bytes → Bytes → Option Effect
set_keeping_of k text option = if bytes_eq option (codes "KEEPTTL") then Some (effect.SetKeeping k text) else None

-- SET with two words behind the text
abbrev pub set_until_of : Bytes → Bytes → Bytes → Bytes → Option Effect
set_until_of k text option deadline = if bytes_eq option (codes "PXAT") then option_map (effect.SetUntil k text) (deadline_of deadline) else None

abbrev pub set_of : List Bytes → Option Effect
set_of (k ∷ text ∷ []) = Some (effect.Set k text)
set_of (k ∷ text ∷ option ∷ []) = set_keeping_of k text option
set_of (k ∷ text ∷ option ∷ deadline ∷ []) = set_until_of k text option deadline
set_of _ = None

abbrev pub mset_of : List Bytes → Option Effect
mset_of (k ∷ ws) = option_map effect.MSet (pairs_of (k ∷ ws))
mset_of _ = None

abbrev pub append_of : List Bytes → Option Effect
append_of (k ∷ text ∷ []) = Some (effect.Append k text)
append_of _ = None

abbrev pub set_range_of : List Bytes → Option Effect
set_range_of (k ∷ offset ∷ text ∷ []) = option_map (λ i. effect.SetRange k i text) (place_of offset)
set_range_of _ = None

abbrev pub increase_of : List Bytes → Option Effect
increase_of (k ∷ by ∷ []) = option_map (effect.Increase k) (number_of by)
increase_of _ = None

abbrev pub del_of : List Bytes → Option Effect
del_of (k ∷ []) = Some (effect.Del k)
del_of _ = None

abbrev pub expire_of : List Bytes → Option Effect
expire_of (k ∷ deadline ∷ []) = option_map (effect.Expire k) (deadline_of deadline)
expire_of _ = None

abbrev pub persist_of : List Bytes → Option Effect
persist_of (k ∷ []) = Some (effect.Persist k)
persist_of _ = None

abbrev pub rename_of : List Bytes → Option Effect
rename_of (from ∷ to ∷ []) = Some (effect.Rename from to)
rename_of _ = None

abbrev pub clear_of : List Bytes → Option Effect
clear_of [] = Some effect.Clear
clear_of _ = None

abbrev pub ping_of : List Bytes → Option Effect
ping_of [] = Some effect.Ping
ping_of _ = None

abbrev pub set_fields_of : List Bytes → Option Effect
set_fields_of (k ∷ f ∷ ws) = option_map (effect.SetFields k) (pairs_of (f ∷ ws))
set_fields_of _ = None

abbrev pub remove_fields_of : List Bytes → Option Effect
remove_fields_of (k ∷ f ∷ ws) = Some (effect.RemoveFields k (f ∷ ws))
remove_fields_of _ = None

abbrev pub push_of : End → List Bytes → Option Effect
push_of end (k ∷ x ∷ ws) = Some (effect.Push k end (x ∷ ws))
push_of end _ = None

abbrev pub pop_of : End → List Bytes → Option Effect
pop_of end (k ∷ count ∷ []) = option_map (effect.Pop k end) (number_of count)
pop_of end _ = None

abbrev pub set_item_of : List Bytes → Option Effect
set_item_of (k ∷ place ∷ item ∷ []) = option_map (λ i. effect.SetItem k i item) (place_of place)
set_item_of _ = None

abbrev pub insert_item_of : List Bytes → Option Effect
insert_item_of (k ∷ side ∷ pivot ∷ item ∷ []) = option_map (λ s. effect.InsertItem k s pivot item) (side_of side)
insert_item_of _ = None

abbrev pub remove_items_of : List Bytes → Option Effect
remove_items_of (k ∷ count ∷ item ∷ []) = option_map (λ n. effect.RemoveItems k n item) (number_of count)
remove_items_of _ = None

abbrev pub trim_of : List Bytes → Option Effect
trim_of (k ∷ first ∷ last ∷ []) = option_and_then (λ a. option_map (effect.Trim k a) (number_of last)) (number_of first)
trim_of _ = None

abbrev pub move_item_of : List Bytes → Option Effect
move_item_of (from ∷ to ∷ taken ∷ put ∷ []) = option_and_then (λ t. option_map (effect.MoveItem from to t) (end_of put)) (end_of taken)
move_item_of _ = None

abbrev pub add_members_of : List Bytes → Option Effect
add_members_of (k ∷ m ∷ ws) = Some (effect.AddMembers k (m ∷ ws))
add_members_of _ = None

abbrev pub remove_members_of : List Bytes → Option Effect
remove_members_of (k ∷ m ∷ ws) = Some (effect.RemoveMembers k (m ∷ ws))
remove_members_of _ = None

abbrev pub move_member_of : List Bytes → Option Effect
move_member_of (from ∷ to ∷ member ∷ []) = Some (effect.MoveMember from to member)
move_member_of _ = None

abbrev pub set_scores_of : List Bytes → Option Effect
set_scores_of (k ∷ s ∷ ws) = option_map (effect.SetScores k) (scores_of (s ∷ ws))
set_scores_of _ = None

abbrev pub remove_scores_of : List Bytes → Option Effect
remove_scores_of (k ∷ m ∷ ws) = Some (effect.RemoveScores k (m ∷ ws))
remove_scores_of _ = None

-- the effect of this name with these arguments
unfoldable pub reading : EffectName → List Bytes → Option Effect
reading name.Set = set_of
reading name.MSet = mset_of
reading name.Append = append_of
reading name.SetRange = set_range_of
reading name.IncrBy = increase_of
reading name.Del = del_of
reading name.PExpireAt = expire_of
reading name.Persist = persist_of
reading name.Rename = rename_of
reading name.FlushAll = clear_of
reading name.Ping = ping_of
reading name.HSet = set_fields_of
reading name.HDel = remove_fields_of
reading name.LPush = push_of Left
reading name.RPush = push_of Right
reading name.LPop = pop_of Left
reading name.RPop = pop_of Right
reading name.LSet = set_item_of
reading name.LInsert = insert_item_of
reading name.LRem = remove_items_of
reading name.LTrim = trim_of
reading name.LMove = move_item_of
reading name.SAdd = add_members_of
reading name.SRem = remove_members_of
reading name.SMove = move_member_of
reading name.ZAdd = set_scores_of
reading name.ZRem = remove_scores_of

abbrev pub read_as : Option EffectName → List Bytes → Option Effect
read_as None ws = None
read_as (Some n) ws = reading n ws

unfoldable pub effect_of : List Bytes → Option Effect
effect_of [] = None
effect_of (word ∷ ws) = read_as (named word) ws
