-- Deadlines that keys get and lose, and what is answered of them.
use Rattle.std.specs.Prelude.{◌≡◌, ℤ, pos, negsuc, ◌+ℤ◌, ◌-ℤ◌, int_le, int_lt, [], ◌∷◌, Bool, true, false, IsTrue, if◌then◌else◌, Option, Some, None, is_none, is_some}
use Rattle.std.specs.Int.{int_div_euclid}
use Rattle.std.specs.Ordering.{int_eq}
use Rattle.mr_map.specs.Bytes.{Bytes}
use Rattle.mr_resp.specs.Replies as reply
use Rattle.mr_effect.specs.Effects.{is_deadline}
use Rattle.mr_effect.specs.declared.effect.Effect.TheVariants as effect
use Rattle.mr_keyspace.specs.declared.value.Entry.{Entry}
use Rattle.mr_cmd_shared.specs.Answered.{Answered, kept}
use Rattle.mr_cmd_key.specs.declared.key_ask.ExpireCondition.{ExpireCondition}
use Rattle.mr_cmd_key.specs.declared.key_ask.ExpireCondition.TheVariants as condition
use Rattle.mr_cmd_key.specs.declared.expiring.DeadlineForm.{DeadlineForm}
use Rattle.mr_cmd_key.specs.declared.expiring.DeadlineForm.TheVariants as form

-- ---- EXPIRE key deadline [NX|XX|GT|LT] and its kin: whether the key got the deadline

-- Whether the condition lets a key with this deadline get another: NX one without a deadline, XX one with a deadline, GT one with an
-- earlier deadline, LT one with a later deadline or without one.
abbrev pub allows : Option ExpireCondition → Option ℤ → ℤ → Bool
allows None held d = true
allows (Some condition.Endless) held d = is_none held
allows (Some condition.Expiring) held d = is_some held
allows (Some condition.Later) None d = false
allows (Some condition.Later) (Some h) d = int_lt h d
allows (Some condition.Earlier) None d = true
allows (Some condition.Earlier) (Some h) d = int_lt d h

abbrev pub with_deadline : Option ℤ → Entry → Entry
with_deadline d e = record { value = e.value; deadline = d }

-- this is the deadline
abbrev pub is_until : ℤ → Option ℤ → Bool
is_until d None = false
is_until d (Some h) = int_eq h d

-- the key is expired from a moment on that lies ahead
abbrev pub lasting : Bytes → ℤ → Entry → Answered
lasting k d e = record {
  reply = reply.int (pos 1);
  entry = Some (with_deadline (Some d) e);
  effects = if is_until d e.deadline then [] else effect.Expire k d ∷ [];
}

-- the key is expired by now, so it goes
abbrev pub ended : Bytes → Answered
ended k = record { reply = reply.int (pos 1); entry = None; effects = effect.Del k ∷ [] }

abbrev pub expire_answer : Bytes → Option ExpireCondition → ℤ → ℤ → Option Entry → Answered
expire_answer k when now d None = kept (reply.int (pos 0)) None
expire_answer k when now d (Some e) =
    if allows when e.deadline d then (if int_le d now then ended k else lasting k d e) else kept (reply.int (pos 0)) (Some e)

-- an effect can name the deadline, where this lies ahead
abbrev pub CanBeNamed : ℤ → ℤ → Type 0
CanBeNamed now d = int_le d now ≡ false → IsTrue (is_deadline d)

-- ---- PERSIST key: whether a deadline was taken off
abbrev pub endless : Bytes → Entry → Answered
endless k e = record { reply = reply.int (pos 1); entry = Some (with_deadline None e); effects = effect.Persist k ∷ [] }

abbrev pub persist_answer : Bytes → Option Entry → Answered
persist_answer k None = kept (reply.int (pos 0)) None
persist_answer k (Some e) = if is_some e.deadline then endless k e else kept (reply.int (pos 0)) (Some e)

-- ---- TTL key, PTTL key, EXPIRETIME key, PEXPIRETIME key

-- milliseconds in seconds, rounded to the nearest number, and half a second up (the quotient is rounded down)
abbrev pub in_seconds : ℤ → ℤ
in_seconds n = int_div_euclid (n +ℤ pos 500) (pos 1000)

-- what is answered at the moment `now` of the deadline d
abbrev pub deadline_in : DeadlineForm → ℤ → ℤ → ℤ
deadline_in form.SecondsLeft now d = in_seconds (d -ℤ now)
deadline_in form.MillisecondsLeft now d = d -ℤ now
deadline_in form.Second now d = in_seconds d
deadline_in form.Millisecond now d = d

-- -1 for a key without a deadline
abbrev pub lifetime_in : DeadlineForm → ℤ → Option ℤ → ℤ
lifetime_in form now None = negsuc 0
lifetime_in form now (Some d) = deadline_in form now d

-- -2 for no key
abbrev pub answered_in : DeadlineForm → ℤ → Option Entry → ℤ
answered_in form now None = negsuc 1
answered_in form now (Some e) = lifetime_in form now e.deadline

abbrev pub deadline_answer : DeadlineForm → ℤ → Option Entry → Answered
deadline_answer form now before = kept (reply.int (answered_in form now before)) before
