-- The one spelling of an effect.
use Rattle.std.specs.Prelude.{◌≡◌, ◌≤◌, ℕ, ℤ, List, [], ◌∷◌, length, codes, IsTrue, Option, Some, MatchOption}
use Rattle.std.specs.List.{flat_map}
use Rattle.std.specs.Fmt.{signed_decimal}
use Rattle.mr_map.specs.Bytes.{Bytes}
use Rattle.mr_resp.specs.Spelling.{array}
use Rattle.mr_resp.specs.Usual.{commands}
use Rattle.mr_effect.specs.Effects.{has_spelling}
use Rattle.mr_effect.specs.Names.{text_of}
use Rattle.mr_effect.specs.declared.name.EffectName.{EffectName}
use Rattle.mr_effect.specs.declared.name.EffectName.TheVariants as name
use Rattle.mr_effect.specs.declared.effect.Effect.{Effect}
use Rattle.mr_effect.specs.declared.effect.Effect.TheVariants as effect
use Rattle.mr_bytes.specs.declared.ends.End.{End}
use Rattle.mr_bytes.specs.declared.ends.End.TheVariants.{Left, Right}
use Rattle.mr_bytes.specs.declared.ends.Side.{Side}
use Rattle.mr_bytes.specs.declared.ends.Side.TheVariants.{Before, After}

abbrev pub push_name : End → EffectName
push_name Left = name.LPush
push_name Right = name.RPush

abbrev pub pop_name : End → EffectName
pop_name Left = name.LPop
pop_name Right = name.RPop

abbrev pub end_word : End → Bytes
end_word Left = codes "LEFT"
end_word Right = codes "RIGHT"

abbrev pub side_word : Side → Bytes
side_word Before = codes "BEFORE"
side_word After = codes "AFTER"

-- the first word
abbrev pub name_of : Effect → EffectName
name_of (effect.Set k text) = name.Set
name_of (effect.SetUntil k text deadline) = name.Set
name_of (effect.SetKeeping k text) = name.Set
name_of (effect.MSet pairs) = name.MSet
name_of (effect.Append k text) = name.Append
name_of (effect.SetRange k offset text) = name.SetRange
name_of (effect.Increase k by) = name.IncrBy
name_of (effect.Del k) = name.Del
name_of (effect.Expire k deadline) = name.PExpireAt
name_of (effect.Persist k) = name.Persist
name_of (effect.Rename from to) = name.Rename
name_of effect.Clear = name.FlushAll
name_of effect.Ping = name.Ping
name_of (effect.SetFields k pairs) = name.HSet
name_of (effect.RemoveFields k fields) = name.HDel
name_of (effect.Push k end items) = push_name end
name_of (effect.Pop k end count) = pop_name end
name_of (effect.SetItem k place item) = name.LSet
name_of (effect.InsertItem k side pivot item) = name.LInsert
name_of (effect.RemoveItems k count item) = name.LRem
name_of (effect.Trim k first last) = name.LTrim
name_of (effect.MoveItem from to taken put) = name.LMove
name_of (effect.AddMembers k members) = name.SAdd
name_of (effect.RemoveMembers k members) = name.SRem
name_of (effect.MoveMember from to member) = name.SMove
name_of (effect.SetScores k scores) = name.ZAdd
name_of (effect.RemoveScores k members) = name.ZRem

-- a key or field, and its value behind it
abbrev pub pair_words : Bytes × Bytes → List Bytes
pair_words p = p.0 ∷ p.1 ∷ []

-- a member's score, and the member behind it
abbrev pub score_words : Bytes × ℤ → List Bytes
score_words p = signed_decimal p.1 ∷ p.0 ∷ []

-- the other words
abbrev pub arguments : Effect → List Bytes
arguments (effect.Set k text) = k ∷ text ∷ []
arguments (effect.SetUntil k text deadline) = k ∷ text ∷ codes "PXAT" ∷ signed_decimal deadline ∷ []
arguments (effect.SetKeeping k text) = k ∷ text ∷ codes "KEEPTTL" ∷ []
arguments (effect.MSet pairs) = flat_map pair_words pairs
arguments (effect.Append k text) = k ∷ text ∷ []
arguments (effect.SetRange k offset text) = k ∷ signed_decimal offset ∷ text ∷ []
arguments (effect.Increase k by) = k ∷ signed_decimal by ∷ []
arguments (effect.Del k) = k ∷ []
arguments (effect.Expire k deadline) = k ∷ signed_decimal deadline ∷ []
arguments (effect.Persist k) = k ∷ []
arguments (effect.Rename from to) = from ∷ to ∷ []
arguments effect.Clear = []
arguments effect.Ping = []
arguments (effect.SetFields k pairs) = k ∷ flat_map pair_words pairs
arguments (effect.RemoveFields k fields) = k ∷ fields
arguments (effect.Push k end items) = k ∷ items
arguments (effect.Pop k end count) = k ∷ signed_decimal count ∷ []
arguments (effect.SetItem k place item) = k ∷ signed_decimal place ∷ item ∷ []
arguments (effect.InsertItem k side pivot item) = k ∷ side_word side ∷ pivot ∷ item ∷ []
arguments (effect.RemoveItems k count item) = k ∷ signed_decimal count ∷ item ∷ []
arguments (effect.Trim k first last) = k ∷ signed_decimal first ∷ signed_decimal last ∷ []
arguments (effect.MoveItem from to taken put) = from ∷ to ∷ end_word taken ∷ end_word put ∷ []
arguments (effect.AddMembers k members) = k ∷ members
arguments (effect.RemoveMembers k members) = k ∷ members
arguments (effect.MoveMember from to member) = from ∷ to ∷ member ∷ []
arguments (effect.SetScores k scores) = k ∷ flat_map score_words scores
arguments (effect.RemoveScores k members) = k ∷ members

unfoldable pub words : Effect → List Bytes
words e = text_of (name_of e) ∷ arguments e

-- the words in array form
abbrev pub text : Effect → List ℕ
text e = array (words e)

abbrev pub texts : List Effect → List ℕ
texts es = flat_map text es

-- how many bytes of the stream an effect takes
abbrev pub size : Effect → ℕ
size e = length (text e)

-- it has no more words than a command text may have
abbrev pub IsShort : Effect → Type 0
IsShort e = length (words e) ≤ commands.words

-- an effect that has a spelling has these words
abbrev pub IsSpelled : List Bytes → Effect → Type 0
IsSpelled ws e = IsTrue (has_spelling e) × (words e ≡ ws)

-- what was found has these words, and where nothing was found no effect has them
abbrev pub Spells : List Bytes → Option Effect → Type 0
Spells ws found = MatchOption found ((e : Effect) → IsSpelled ws e → ⊥) (IsSpelled ws)

-- an effect with these words is the one that was found
abbrev pub FindsEach : List Bytes → Option Effect → Type 0
FindsEach ws found = (e : Effect) → IsSpelled ws e → found ≡ Some e
