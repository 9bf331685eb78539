-- Which commands on keys words can ask for.
use Rattle.std.specs.Prelude.{◌≢◌, []}
use Rattle.mr_cmd_key.specs.declared.key_ask.KeyAsk.{KeyAsk}
use Rattle.mr_cmd_key.specs.declared.key_ask.KeyAsk.TheVariants as key
use Rattle.mr_arguments.specs.AskableAmounts.{IsAmount}

abbrev pub KeyIsAskable : KeyAsk → Type 0
KeyIsAskable (key.Del keys) = keys ≢ []
KeyIsAskable (key.Unlink keys) = keys ≢ []
KeyIsAskable (key.Exists keys) = keys ≢ []
KeyIsAskable (key.Expire name expiry condition) = IsAmount expiry
KeyIsAskable _ = Unit {0}
