-- Texts that change where they are. The deadline stays.
use Rattle.std.specs.Prelude.{ℕ, ℤ, pos, ◌+ℤ◌, [], ◌∷◌, ◌++◌, length, codes, Bool, false, ◌==◌, if◌then◌else◌, Option, Some, None}
use Rattle.std.specs.Fmt.{signed_decimal}
use Rattle.mr_map.specs.Bytes.{Bytes}
use Rattle.mr_bytes.specs.Number.{is_i64, number_of}
use Rattle.mr_bytes.specs.Texts.{overwritten}
use Rattle.mr_bytes.specs.Words.{fits}
use Rattle.mr_resp.specs.Replies as reply
use Rattle.mr_resp.specs.Replies.{Tree}
use Rattle.mr_effect.specs.declared.effect.Effect.{Effect}
use Rattle.mr_effect.specs.declared.effect.Effect.TheVariants as effect
use Rattle.mr_keyspace.specs.Steps.{strings, held, deadline_of}
use Rattle.mr_keyspace.specs.declared.value.Value.TheVariants as value
use Rattle.mr_keyspace.specs.declared.value.Entry.{Entry}
use Rattle.mr_cmd_shared.specs.Answered.{Answered, kept, wrong_kind, overflow}
use Rattle.mr_cmd_string.specs.Setting.{is_text}

-- the key is there and holds this text
abbrev pub holds : Bytes → Option Entry → Bool
holds text None = false
holds text (Some e) = is_text text e.value

-- The key holds this text from now on, as the effect says. Where it held it before there is no effect.
abbrev pub rewritten : Bytes → Effect → Tree → Option Entry → Answered
rewritten text made answer before = record {
  reply = answer;
  entry = Some (record { value = value.Text text; deadline = deadline_of before });
  effects = if holds text before then [] else made ∷ [];
}

abbrev pub length_of : Bytes → Tree
length_of text = reply.int (pos (length text))

abbrev pub too_long : Tree
too_long = reply.error (codes "ERR string too long")

-- its new length is answered; a text past the word limit is refused
abbrev pub lengthened : Bytes → Effect → Option Entry → Answered
lengthened text made before = if fits text then rewritten text made (length_of text) before else kept too_long before

-- ---- APPEND key value: an absent key holds an empty text
abbrev pub appended : Bytes → Bytes → Option Bytes → Option Entry → Answered
appended k more None before = kept wrong_kind before
appended k more (Some text) before = lengthened (text ++ more) (effect.Append k more) before

abbrev pub append_answer : Bytes → Bytes → Option Entry → Answered
append_answer k more before = appended k more (held (strings []) before) before

-- ---- SETRANGE key offset value: an absent key holds an empty text, and an empty value changes nothing
abbrev pub put_over : Bytes → ℕ → Bytes → Option Bytes → Option Entry → Answered
put_over k offset part None before = kept wrong_kind before
put_over k offset part (Some text) before =
    if length part == 0 then kept (length_of text) before
    else lengthened (overwritten offset part text) (effect.SetRange k (pos offset) part) before

abbrev pub setrange_answer : Bytes → ℕ → Bytes → Option Entry → Answered
setrange_answer k offset part before = put_over k offset part (held (strings []) before) before

-- ---- INCR key, DECR key, INCRBY key number, DECRBY key number: an absent key holds 0
abbrev pub no_integer : Tree
no_integer = reply.error (codes "ERR value is not an integer or out of range")

abbrev pub set_number : Bytes → ℤ → ℤ → Option Entry → Answered
set_number k by sum before = if is_i64 sum then rewritten (signed_decimal sum) (effect.Increase k by) (reply.int sum) before else kept overflow before

abbrev pub increase_from : Bytes → ℤ → Option ℤ → Option Entry → Answered
increase_from k by None before = kept no_integer before
increase_from k by (Some n) before = set_number k by (n +ℤ by) before

abbrev pub increase_text : Bytes → ℤ → Option Bytes → Option Entry → Answered
increase_text k by None before = kept wrong_kind before
increase_text k by (Some text) before = increase_from k by (number_of text) before

abbrev pub increase_answer : Bytes → ℤ → Option Entry → Answered
increase_answer k by before = increase_text k by (held (strings (codes "0")) before) before
