-- Commands on strings.
use Rattle.std.specs.Prelude.{ℕ, List, [], ◌∷◌, Result, Ok, Err}
use Rattle.std.specs.Option.{ok_or}
use Rattle.mr_arguments.specs.Pairing.{pairs_of}
use Rattle.mr_arguments.specs.Parts.{with, integer, offset}
use Rattle.mr_cmd_string.specs.Parts.{opposite, lifetime_if_any, seconds, milliseconds}
use Rattle.mr_cmd_string.specs.Options.{no_set_options, set_options}
use Rattle.mr_arguments.specs.declared.name.Name.{Name}
use Rattle.mr_arguments.specs.declared.name.Name.TheVariants as name
use Rattle.mr_arguments.specs.declared.fault.AskFault.{AskFault}
use Rattle.mr_arguments.specs.declared.fault.AskFault.TheVariants.{Arity}
use Rattle.mr_cmd_string.specs.declared.text_ask.TextAsk.{TextAsk}
use Rattle.mr_cmd_string.specs.declared.text_ask.TextAsk.TheVariants as ask
use Rattle.mr_cmd_string.specs.declared.text_ask.Amount.{Amount}
use Rattle.mr_cmd_string.specs.declared.text_ask.Amount.TheVariants as amount

-- GET key
abbrev pub get : List (List ℕ) → Result TextAsk AskFault
get (key ∷ []) = Ok (ask.Get key)
get _ = Err (Arity name.Get)

-- SET key value [NX|XX] [GET] [EX seconds|PX milliseconds|EXAT second|PXAT millisecond|KEEPTTL]
abbrev pub set : List (List ℕ) → Result TextAsk AskFault
set [] = Err (Arity name.Set)
set (key ∷ []) = Err (Arity name.Set)
set (key ∷ value ∷ words) = with (set_options no_set_options words) (λ options.
    with (lifetime_if_any options.lifetime) (λ lifetime. Ok (ask.Set key value options.condition options.reply lifetime)))

-- SETEX key seconds value
abbrev pub setex : List (List ℕ) → Result TextAsk AskFault
setex (key ∷ amount ∷ value ∷ []) = with (integer amount) (λ n. with (seconds n) (λ s. Ok (ask.SetEx key s value)))
setex _ = Err (Arity name.SetEx)

-- PSETEX key milliseconds value
abbrev pub psetex : List (List ℕ) → Result TextAsk AskFault
psetex (key ∷ amount ∷ value ∷ []) = with (integer amount) (λ n. with (milliseconds n) (λ m. Ok (ask.PSetEx key m value)))
psetex _ = Err (Arity name.PSetEx)

-- STRLEN key
abbrev pub strlen : List (List ℕ) → Result TextAsk AskFault
strlen (key ∷ []) = Ok (ask.StrLen key)
strlen _ = Err (Arity name.StrLen)

-- GETRANGE key first last
abbrev pub getrange : List (List ℕ) → Result TextAsk AskFault
getrange (key ∷ first ∷ last ∷ []) = with (integer first) (λ m. with (integer last) (λ n. Ok (ask.GetRange key m n)))
getrange _ = Err (Arity name.GetRange)

-- MGET key [key ..]
abbrev pub mget : List (List ℕ) → Result TextAsk AskFault
mget [] = Err (Arity name.MGet)
mget keys = Ok (ask.MGet keys)

-- SETNX key value
abbrev pub setnx : List (List ℕ) → Result TextAsk AskFault
setnx (key ∷ value ∷ []) = Ok (ask.SetNx key value)
setnx _ = Err (Arity name.SetNx)

-- GETSET key value
abbrev pub getset : List (List ℕ) → Result TextAsk AskFault
getset (key ∷ value ∷ []) = Ok (ask.GetSet key value)
getset _ = Err (Arity name.GetSet)

-- GETDEL key
abbrev pub getdel : List (List ℕ) → Result TextAsk AskFault
getdel (key ∷ []) = Ok (ask.GetDel key)
getdel _ = Err (Arity name.GetDel)

-- MSET key value [key value ..]; no pair is cut
abbrev pub mset : List (List ℕ) → Result TextAsk AskFault
mset [] = Err (Arity name.MSet)
mset words = with (ok_or (pairs_of words) (Arity name.MSet)) (λ pairs. Ok (ask.MSet pairs))

-- MSETNX key value [key value ..]; no pair is cut
abbrev pub msetnx : List (List ℕ) → Result TextAsk AskFault
msetnx [] = Err (Arity name.MSetNx)
msetnx words = with (ok_or (pairs_of words) (Arity name.MSetNx)) (λ pairs. Ok (ask.MSetNx pairs))

-- APPEND key value
abbrev pub append : List (List ℕ) → Result TextAsk AskFault
append (key ∷ value ∷ []) = Ok (ask.Append key value)
append _ = Err (Arity name.Append)

-- SETRANGE key offset value
abbrev pub setrange : List (List ℕ) → Result TextAsk AskFault
setrange (key ∷ place ∷ value ∷ []) = with (offset place) (λ n. Ok (ask.SetRange key n value))
setrange _ = Err (Arity name.SetRange)

-- INCR key, DECR key
abbrev pub step : Name → Amount → List (List ℕ) → Result TextAsk AskFault
step name by (key ∷ []) = Ok (ask.Increase key by)
step name by _ = Err (Arity name)

-- INCRBY key number
abbrev pub incrby : List (List ℕ) → Result TextAsk AskFault
incrby (key ∷ by ∷ []) = with (integer by) (λ n. Ok (ask.Increase key (amount.Number n)))
incrby _ = Err (Arity name.IncrBy)

-- DECRBY key number
abbrev pub decrby : List (List ℕ) → Result TextAsk AskFault
decrby (key ∷ by ∷ []) = with (integer by) (λ n. with (opposite n) (λ m. Ok (ask.Increase key (amount.Opposite m))))
decrby _ = Err (Arity name.DecrBy)
