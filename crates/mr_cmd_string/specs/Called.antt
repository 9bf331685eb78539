-- The names of commands on strings.
use Rattle.mr_arguments.specs.declared.name.Name.{Name}
use Rattle.mr_arguments.specs.declared.name.Name.TheVariants as name
use Rattle.mr_cmd_string.specs.declared.text_ask.Amount.TheVariants as amount
use Rattle.mr_cmd_string.specs.declared.text_ask.TextAsk.{TextAsk}
use Rattle.mr_cmd_string.specs.declared.text_ask.TextAsk.TheVariants as text

-- of a command on strings
abbrev pub text_name : TextAsk → Name
text_name (text.Get key) = name.Get
text_name (text.Set key value condition reply lifetime) = name.Set
text_name (text.SetEx key seconds value) = name.SetEx
text_name (text.PSetEx key milliseconds value) = name.PSetEx
text_name (text.StrLen key) = name.StrLen
text_name (text.GetRange key first last) = name.GetRange
text_name (text.MGet keys) = name.MGet
text_name (text.SetNx key value) = name.SetNx
text_name (text.GetSet key value) = name.GetSet
text_name (text.GetDel key) = name.GetDel
text_name (text.MSet pairs) = name.MSet
text_name (text.MSetNx pairs) = name.MSetNx
text_name (text.Append key value) = name.Append
text_name (text.SetRange key offset value) = name.SetRange
text_name (text.Increase key amount.One) = name.Incr
text_name (text.Increase key amount.MinusOne) = name.Decr
text_name (text.Increase key (amount.Number n)) = name.IncrBy
text_name (text.Increase key (amount.Opposite n)) = name.DecrBy
