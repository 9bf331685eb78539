-- The commands on strings that are on one key, by what is there.
use Rattle.std.specs.Prelude.{ℤ, Bool, true, false, Option}
use Rattle.mr_keyspace.specs.declared.value.Entry.{Entry}
use Rattle.mr_arguments.specs.declared.expiry.Expiry.TheVariants.{Seconds, Milliseconds}
use Rattle.mr_cmd_shared.specs.Answered.{Answered, kept, done}
use Rattle.mr_cmd_string.specs.declared.text_ask.TextAsk.{TextAsk}
use Rattle.mr_cmd_string.specs.declared.text_ask.TextAsk.TheVariants as ask
use Rattle.mr_cmd_string.specs.declared.text_ask.Lifetime.{Lifetime}
use Rattle.mr_cmd_string.specs.declared.text_ask.Lifetime.TheVariants.{Endless, Until}
use Rattle.mr_cmd_string.specs.Parts.{amount_number}
use Rattle.mr_cmd_string.specs.Texts.{get_answer, strlen_answer, getrange_answer}
use Rattle.mr_cmd_string.specs.Setting.{said_at, set_answer, set_for_answer, setnx_answer, getset_answer, getdel_answer}
use Rattle.mr_cmd_string.specs.Changing.{append_answer, setrange_answer, increase_answer}

-- a command on one key
abbrev pub is_on_one_key : TextAsk → Bool
is_on_one_key (ask.MGet ks) = false
is_on_one_key (ask.MSet pairs) = false
is_on_one_key (ask.MSetNx pairs) = false
is_on_one_key _ = true

-- how long a text stays that a command sets
abbrev pub lifetime_of : TextAsk → Lifetime
lifetime_of (ask.Set k text condition reply lifetime) = lifetime
lifetime_of (ask.SetEx k n text) = Until (Seconds n)
lifetime_of (ask.PSetEx k n text) = Until (Milliseconds n)
lifetime_of _ = Endless

-- what a command does at its key, at the moment `now`; of one on several keys nothing is asked
abbrev pub answer_of : TextAsk → ℤ → Option Entry → Answered
answer_of (ask.Get k) now = get_answer
answer_of (ask.Set k text condition reply lifetime) now = set_answer k text condition reply (said_at now lifetime)
answer_of (ask.SetEx k n text) now = set_for_answer k text (said_at now (Until (Seconds n)))
answer_of (ask.PSetEx k n text) now = set_for_answer k text (said_at now (Until (Milliseconds n)))
answer_of (ask.StrLen k) now = strlen_answer
answer_of (ask.GetRange k first last) now = getrange_answer first last
answer_of (ask.SetNx k text) now = setnx_answer k text
answer_of (ask.GetSet k text) now = getset_answer k text
answer_of (ask.GetDel k) now = getdel_answer k
answer_of (ask.Append k text) now = append_answer k text
answer_of (ask.SetRange k offset text) now = setrange_answer k offset text
answer_of (ask.Increase k by) now = increase_answer k (amount_number by)
answer_of _ now = kept done
