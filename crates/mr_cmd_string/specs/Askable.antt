-- Which commands on strings words can ask for.
use Rattle.std.specs.Prelude.{◌≢◌, pos, neg_ℤ, [], int_le, IsTrue}
use Rattle.mr_arguments.specs.Askable.{IsI64}
use Rattle.mr_arguments.specs.Expiry.{number_said}
use Rattle.mr_arguments.specs.declared.expiry.Expiry.{Expiry}
use Rattle.mr_arguments.specs.declared.expiry.Expiry.TheVariants.{Seconds, Milliseconds}
use Rattle.mr_cmd_string.specs.declared.text_ask.Amount.TheVariants as amount
use Rattle.mr_cmd_string.specs.declared.text_ask.Lifetime.TheVariants.{Until}
use Rattle.mr_cmd_string.specs.declared.text_ask.TextAsk.{TextAsk}
use Rattle.mr_cmd_string.specs.declared.text_ask.TextAsk.TheVariants as text
use Rattle.mr_arguments.specs.AskableAmounts.{IsAmount}

-- .. from 1 on
abbrev pub IsLifetime : Expiry → Type 0
IsLifetime expiry = IsAmount expiry × IsTrue (int_le (pos 1) (number_said expiry))

-- lists have an item, numbers have 64 bits, amounts of time are within their limits
abbrev pub TextIsAskable : TextAsk → Type 0
TextIsAskable (text.Set key value condition reply (Until expiry)) = IsLifetime expiry
TextIsAskable (text.SetEx key amount value) = IsLifetime (Seconds amount)
TextIsAskable (text.PSetEx key amount value) = IsLifetime (Milliseconds amount)
TextIsAskable (text.GetRange key first last) = IsI64 first × IsI64 last
TextIsAskable (text.MGet keys) = keys ≢ []
TextIsAskable (text.MSet pairs) = pairs ≢ []
TextIsAskable (text.MSetNx pairs) = pairs ≢ []
TextIsAskable (text.SetRange key offset value) = IsI64 (pos offset)
TextIsAskable (text.Increase key (amount.Number n)) = IsI64 n
TextIsAskable (text.Increase key (amount.Opposite n)) = IsI64 n × IsI64 (neg_ℤ n)
TextIsAskable _ = Unit {0}
