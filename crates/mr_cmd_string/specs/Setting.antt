-- Texts that keys get, and texts that are taken away.
use Rattle.std.specs.Prelude.{ℤ, pos, [], ◌∷◌, Bool, true, false, ◌&&◌, if◌then◌else◌, Option, Some, None, is_none, is_some}
use Rattle.std.specs.Str.{bytes_eq}
use Rattle.mr_map.specs.Bytes.{Bytes}
use Rattle.mr_resp.specs.Replies as reply
use Rattle.mr_resp.specs.Replies.{Tree}
use Rattle.mr_keyspace.specs.Steps.{deadline_of}
use Rattle.mr_keyspace.specs.declared.value.Value.{Value}
use Rattle.mr_keyspace.specs.declared.value.Value.TheVariants as value
use Rattle.mr_keyspace.specs.declared.value.Entry.{Entry}
use Rattle.mr_cmd_shared.specs.Answered.{Answered, kept, wrong_kind, done}
pub use Rattle.mr_cmd_shared.specs.Numbers.{is_same}
use Rattle.mr_effect.specs.declared.effect.Effect.{Effect}
use Rattle.mr_effect.specs.declared.effect.Effect.TheVariants as effect
use Rattle.mr_arguments.specs.Expiry.{deadline_at}
use Rattle.mr_cmd_string.specs.declared.text_ask.Lifetime.{Lifetime}
use Rattle.mr_cmd_string.specs.declared.text_ask.Lifetime.TheVariants.{Endless, Kept, Until}
use Rattle.mr_cmd_string.specs.declared.text_ask.SetCondition.{SetCondition}
use Rattle.mr_cmd_string.specs.declared.text_ask.SetCondition.TheVariants as condition
use Rattle.mr_cmd_string.specs.declared.text_ask.SetReply.{SetReply}
use Rattle.mr_cmd_string.specs.declared.text_ask.SetReply.TheVariants as asked
use Rattle.mr_cmd_string.specs.Texts.{get_reply}
use Rattle.mr_cmd_string.specs.declared.deadlines.NewDeadline.{NewDeadline}
use Rattle.mr_cmd_string.specs.declared.deadlines.NewDeadline.TheVariants as deadline

-- ---- A key gets a text. Its value before may be of any kind.

-- what becomes of its deadline, where a lifetime was said at the moment `now`
abbrev pub said_at : ℤ → Lifetime → NewDeadline
said_at now Endless = deadline.Endless
said_at now Kept = deadline.Kept
said_at now (Until expiry) = deadline.At (deadline_at now expiry)

-- the deadline that it gets: none, the one that it has, or this one
abbrev pub until : NewDeadline → Option Entry → Option ℤ
until deadline.Endless before = None
until deadline.Kept before = deadline_of before
until (deadline.At d) before = Some d

-- the effect that says so
abbrev pub set_effect : Bytes → Bytes → NewDeadline → Effect
set_effect k text deadline.Endless = effect.Set k text
set_effect k text deadline.Kept = effect.SetKeeping k text
set_effect k text (deadline.At d) = effect.SetUntil k text d

abbrev pub text_until : Bytes → Option ℤ → Entry
text_until text d = record { value = value.Text text; deadline = d }

abbrev pub is_text : Bytes → Value → Bool
is_text text (value.Text t) = bytes_eq t text
is_text text _ = false

-- the key holds this text already, with this deadline
abbrev pub holds_until : Bytes → Option ℤ → Option Entry → Bool
holds_until text d None = false
holds_until text d (Some e) = is_same e.deadline d && is_text text e.value

abbrev pub put : Bytes → Bytes → NewDeadline → Tree → Option Entry → Answered
put k text new answer before = record {
  reply = answer;
  entry = Some (text_until text (until new before));
  effects = if holds_until text (until new before) before then [] else set_effect k text new ∷ [];
}

-- .. without a deadline
abbrev pub plain : Bytes → Entry
plain text = text_until text None

abbrev pub is_plain : Bytes → Option Entry → Bool
is_plain text before = holds_until text None before

-- SET key value [NX|XX] [GET] [EX seconds|PX milliseconds|EXAT second|PXAT millisecond|KEEPTTL]: NX is for a key that isn't there, XX for one that is
abbrev pub allows : Option SetCondition → Option Entry → Bool
allows None before = true
allows (Some condition.Absent) before = is_none before
allows (Some condition.Present) before = is_some before

-- the value is no text
abbrev pub is_other : Value → Bool
is_other (value.Text text) = false
is_other _ = true

abbrev pub holds_other : Option Entry → Bool
holds_other None = false
holds_other (Some e) = is_other e.value

-- With GET the text before is answered in every case, and a value of another kind stays.
abbrev pub set_answer : Bytes → Bytes → Option SetCondition → SetReply → NewDeadline → Option Entry → Answered
set_answer k text when asked.Done new before = if allows when before then put k text new done before else kept reply.null_bulk before
set_answer k text when asked.Before new before =
    if holds_other before then kept wrong_kind before
    else (if allows when before then put k text new (get_reply before) before else kept (get_reply before) before)

-- SETEX key seconds value, PSETEX key milliseconds value: as SET with this option alone
abbrev pub set_for_answer : Bytes → Bytes → NewDeadline → Option Entry → Answered
set_for_answer k text new before = set_answer k text None asked.Done new before

-- SETNX key value: whether it was set
abbrev pub setnx_answer : Bytes → Bytes → Option Entry → Answered
setnx_answer k text before = if is_none before then put k text deadline.Endless (reply.int (pos 1)) before else kept (reply.int (pos 0)) before

-- GETSET key value: the text before
abbrev pub getset_answer : Bytes → Bytes → Option Entry → Answered
getset_answer k text before = if holds_other before then kept wrong_kind before else put k text deadline.Endless (get_reply before) before

-- ---- GETDEL key: the text, and the key goes
abbrev pub taken : Bytes → Value → Entry → Answered
taken k (value.Text text) e = record { reply = reply.bytes text; entry = None; effects = effect.Del k ∷ [] }
taken k _ e = kept wrong_kind (Some e)

abbrev pub getdel_answer : Bytes → Option Entry → Answered
getdel_answer k None = kept reply.null_bulk None
getdel_answer k (Some e) = taken k e.value e
