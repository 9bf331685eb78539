-- The commands on strings.
use Rattle.std.specs.Prelude.{ℤ, IsTrue}
use Rattle.mr_bytes.specs.Number.{is_i64}
use Rattle.mr_cmd_shared.specs.Commands.{Command, on_key, on_keys}
use Rattle.mr_cmd_string.specs.declared.text_ask.TextAsk.{TextAsk}
use Rattle.mr_cmd_string.specs.declared.text_ask.TextAsk.TheVariants as ask
use Rattle.mr_cmd_string.specs.Parts.{amount_number}
use Rattle.mr_arguments.specs.Amounts.{is_amount}
use Rattle.mr_arguments.specs.Expiry.{milliseconds}
use Rattle.mr_arguments.specs.declared.expiry.Expiry.{Expiry}
use Rattle.mr_arguments.specs.declared.expiry.Expiry.TheVariants.{Seconds, Milliseconds}
use Rattle.mr_cmd_string.specs.declared.text_ask.Lifetime.TheVariants.{Until}
use Rattle.mr_cmd_string.specs.Texts.{get_answer, strlen_answer, getrange_answer, told_texts}
use Rattle.mr_cmd_string.specs.Setting.{said_at, set_answer, set_for_answer, setnx_answer, getset_answer, getdel_answer}
use Rattle.mr_cmd_string.specs.SettingAll.{names, mset, msetnx}
use Rattle.mr_cmd_string.specs.Changing.{append_answer, setrange_answer, increase_answer}

-- at the moment `now`
abbrev pub command : TextAsk → ℤ → Command
command (ask.Get k) now = on_key k get_answer
command (ask.Set k text condition reply lifetime) now = on_key k (set_answer k text condition reply (said_at now lifetime))
command (ask.SetEx k n text) now = on_key k (set_for_answer k text (said_at now (Until (Seconds n))))
command (ask.PSetEx k n text) now = on_key k (set_for_answer k text (said_at now (Until (Milliseconds n))))
command (ask.StrLen k) now = on_key k strlen_answer
command (ask.GetRange k first last) now = on_key k (getrange_answer first last)
command (ask.MGet ks) now = on_keys ks (told_texts ks)
command (ask.SetNx k text) now = on_key k (setnx_answer k text)
command (ask.GetSet k text) now = on_key k (getset_answer k text)
command (ask.GetDel k) now = on_key k (getdel_answer k)
command (ask.MSet pairs) now = on_keys (names pairs) (mset pairs)
command (ask.MSetNx pairs) now = on_keys (names pairs) (msetnx pairs)
command (ask.Append k text) now = on_key k (append_answer k text)
command (ask.SetRange k offset text) now = on_key k (setrange_answer k offset text)
command (ask.Increase k by) now = on_key k (increase_answer k (amount_number by))

-- the number in a command's effect has 64 bits
abbrev pub HasNumber : TextAsk → Type 0
HasNumber (ask.Increase k by) = IsTrue (is_i64 (amount_number by))
HasNumber _ = Unit {0}

-- an amount of time within the limit
abbrev pub IsLimited : Expiry → Type 0
IsLimited expiry = IsTrue (is_amount (milliseconds expiry))

-- the time that a text is set for is within the limit
abbrev pub HasLimit : TextAsk → Type 0
HasLimit (ask.Set k text condition reply (Until expiry)) = IsLimited expiry
HasLimit (ask.SetEx k n text) = IsLimited (Seconds n)
HasLimit (ask.PSetEx k n text) = IsLimited (Milliseconds n)
HasLimit _ = Unit {0}
