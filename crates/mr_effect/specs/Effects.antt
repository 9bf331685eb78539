-- What an effect carries.
use Rattle.std.specs.Prelude.{ℕ, ℤ, pos, int_le, ◌^◌, List, [], ◌∷◌, Bool, true, false, ◌&&◌}
use Rattle.std.specs.List.{list_all}
use Rattle.mr_map.specs.Bytes.{Bytes}
use Rattle.mr_bytes.specs.Number.{is_i64}
use Rattle.mr_bytes.specs.Words.{fits}
use Rattle.mr_score.specs.Score.{is_score}
use Rattle.mr_effect.specs.declared.effect.Effect.{Effect}
use Rattle.mr_effect.specs.declared.effect.Effect.TheVariants as effect

abbrev pub pair_fits : Bytes × Bytes → Bool
pair_fits p = fits p.0 && fits p.1

abbrev pub member_fits : Bytes × ℤ → Bool
member_fits p = fits p.0

-- the words of an effect are within the word limit
abbrev pub words_fit : Effect → Bool
words_fit (effect.Set k text) = fits k && fits text
words_fit (effect.SetUntil k text deadline) = fits k && fits text
words_fit (effect.SetKeeping k text) = fits k && fits text
words_fit (effect.MSet pairs) = list_all pair_fits pairs
words_fit (effect.Append k text) = fits k && fits text
words_fit (effect.SetRange k offset text) = fits k && fits text
words_fit (effect.Increase k by) = fits k
words_fit (effect.Del k) = fits k
words_fit (effect.Expire k deadline) = fits k
words_fit (effect.Persist k) = fits k
words_fit (effect.Rename from to) = fits from && fits to
words_fit effect.Clear = true
words_fit effect.Ping = true
words_fit (effect.SetFields k pairs) = fits k && list_all pair_fits pairs
words_fit (effect.RemoveFields k fields) = fits k && list_all fits fields
words_fit (effect.Push k end items) = fits k && list_all fits items
words_fit (effect.Pop k end count) = fits k
words_fit (effect.SetItem k place item) = fits k && fits item
words_fit (effect.InsertItem k side pivot item) = fits k && fits pivot && fits item
words_fit (effect.RemoveItems k count item) = fits k && fits item
words_fit (effect.Trim k first last) = fits k
words_fit (effect.MoveItem from to taken put) = fits from && fits to
words_fit (effect.AddMembers k members) = fits k && list_all fits members
words_fit (effect.RemoveMembers k members) = fits k && list_all fits members
words_fit (effect.MoveMember from to member) = fits from && fits to && fits member
words_fit (effect.SetScores k scores) = fits k && list_all member_fits scores
words_fit (effect.RemoveScores k members) = fits k && list_all fits members

abbrev pub is_some_of : {X : Type 0} → List X → Bool
is_some_of [] = false
is_some_of (x ∷ xs) = true

-- a place counted from the front
abbrev pub is_place : ℤ → Bool
is_place i = is_i64 i && int_le (pos 0) i

-- no deadline is later, in milliseconds
abbrev pub last_deadline : ℕ
last_deadline = 2 ^ 62

-- a moment at which a key may expire, in milliseconds
abbrev pub is_deadline : ℤ → Bool
is_deadline d = int_le (pos 1) d && int_le d (pos last_deadline)

abbrev pub has_score : Bytes × ℤ → Bool
has_score p = is_score p.1

-- the effect has a spelling: numbers have 64 bits, a place isn't below 0, deadlines and scores are within their limits, and lists aren't empty
abbrev pub has_spelling : Effect → Bool
has_spelling (effect.Set k text) = true
has_spelling (effect.SetUntil k text deadline) = is_deadline deadline
has_spelling (effect.SetKeeping k text) = true
has_spelling (effect.MSet pairs) = is_some_of pairs
has_spelling (effect.Append k text) = true
has_spelling (effect.SetRange k offset text) = is_place offset
has_spelling (effect.Increase k by) = is_i64 by
has_spelling (effect.Del k) = true
has_spelling (effect.Expire k deadline) = is_deadline deadline
has_spelling (effect.Persist k) = true
has_spelling (effect.Rename from to) = true
has_spelling effect.Clear = true
has_spelling effect.Ping = true
has_spelling (effect.SetFields k pairs) = is_some_of pairs
has_spelling (effect.RemoveFields k fields) = is_some_of fields
has_spelling (effect.Push k end items) = is_some_of items
has_spelling (effect.Pop k end count) = is_i64 count
has_spelling (effect.SetItem k place item) = is_place place
has_spelling (effect.InsertItem k side pivot item) = true
has_spelling (effect.RemoveItems k count item) = is_i64 count
has_spelling (effect.Trim k first last) = is_i64 first && is_i64 last
has_spelling (effect.MoveItem from to taken put) = true
has_spelling (effect.AddMembers k members) = is_some_of members
has_spelling (effect.RemoveMembers k members) = is_some_of members
has_spelling (effect.MoveMember from to member) = true
has_spelling (effect.SetScores k scores) = is_some_of scores && list_all has_score scores
has_spelling (effect.RemoveScores k members) = is_some_of members
