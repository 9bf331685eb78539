-- The words that a command on strings carries.
use Rattle.std.specs.Prelude.{ℕ, pos, List, [], ◌∷◌, int_le, IsTrue}
use Rattle.mr_arguments.specs.Pairing.{unpaired}
use Rattle.mr_arguments.specs.Expiry.{milliseconds}
use Rattle.mr_arguments.specs.declared.expiry.Expiry.{Expiry}
use Rattle.mr_arguments.specs.declared.expiry.Expiry.TheVariants.{Seconds, Milliseconds}
use Rattle.mr_cmd_string.specs.declared.text_ask.Lifetime.TheVariants.{Until}
use Rattle.mr_cmd_string.specs.declared.text_ask.TextAsk.{TextAsk}
use Rattle.mr_cmd_string.specs.declared.text_ask.TextAsk.TheVariants as text

-- of a command on strings
abbrev pub text_words : TextAsk → List (List ℕ)
text_words (text.Get key) = key ∷ []
text_words (text.Set key value condition reply lifetime) = key ∷ value ∷ []
text_words (text.SetEx key seconds value) = key ∷ value ∷ []
text_words (text.PSetEx key milliseconds value) = key ∷ value ∷ []
text_words (text.StrLen key) = key ∷ []
text_words (text.GetRange key first last) = key ∷ []
text_words (text.MGet keys) = keys
text_words (text.SetNx key value) = key ∷ value ∷ []
text_words (text.GetSet key value) = key ∷ value ∷ []
text_words (text.GetDel key) = key ∷ []
text_words (text.MSet pairs) = unpaired pairs
text_words (text.MSetNx pairs) = unpaired pairs
text_words (text.Append key value) = key ∷ value ∷ []
text_words (text.SetRange key offset value) = key ∷ value ∷ []
text_words (text.Increase key by) = key ∷ []

-- an amount of time that is at least a millisecond
abbrev pub IsTime : Expiry → Type 0
IsTime expiry = IsTrue (int_le (pos 1) (milliseconds expiry))

-- a time that a text is set for is at least a millisecond
abbrev pub IsTimed : TextAsk → Type 0
IsTimed (text.Set key value condition reply (Until expiry)) = IsTime expiry
IsTimed (text.SetEx key seconds value) = IsTime (Seconds seconds)
IsTimed (text.PSetEx key milliseconds value) = IsTime (Milliseconds milliseconds)
IsTimed _ = Unit {0}
