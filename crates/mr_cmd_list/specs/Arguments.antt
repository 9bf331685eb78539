-- Commands on lists.
use Rattle.std.specs.Prelude.{ℕ, List, [], ◌∷◌, Some, None, Result, Ok, Err}
use Rattle.mr_arguments.specs.declared.name.Name.{Name}
use Rattle.mr_arguments.specs.declared.name.Name.TheVariants as name
use Rattle.mr_arguments.specs.declared.fault.AskFault.{AskFault}
use Rattle.mr_arguments.specs.declared.fault.AskFault.TheVariants.{Arity}
use Rattle.mr_cmd_list.specs.declared.list_ask.ListAsk.{ListAsk}
use Rattle.mr_cmd_list.specs.declared.list_ask.ListAsk.TheVariants as ask
use Rattle.mr_bytes.specs.declared.ends.End.{End}
use Rattle.mr_arguments.specs.Parts.{with, integer, count}
use Rattle.mr_cmd_list.specs.Parts.{end_of, side_of}
use Rattle.mr_cmd_list.specs.declared.list_ask.PushTo.{PushTo}

-- LPUSH key item [item ..], RPUSH, LPUSHX, RPUSHX the same
abbrev pub push : Name → End → PushTo → List (List ℕ) → Result ListAsk AskFault
push name end to [] = Err (Arity name)
push name end to (key ∷ []) = Err (Arity name)
push name end to (key ∷ items) = Ok (ask.Push key end to items)

-- LPOP key [count], RPOP the same
abbrev pub pop : Name → End → List (List ℕ) → Result ListAsk AskFault
pop name end (key ∷ []) = Ok (ask.Pop key end None)
pop name end (key ∷ most ∷ []) = with (count most) (λ n. Ok (ask.Pop key end (Some n)))
pop name end _ = Err (Arity name)

-- LLEN key
abbrev pub llen : List (List ℕ) → Result ListAsk AskFault
llen (key ∷ []) = Ok (ask.LLen key)
llen _ = Err (Arity name.LLen)

-- LRANGE key first last
abbrev pub lrange : List (List ℕ) → Result ListAsk AskFault
lrange (key ∷ first ∷ last ∷ []) = with (integer first) (λ a. with (integer last) (λ b. Ok (ask.LRange key a b)))
lrange _ = Err (Arity name.LRange)

-- LINDEX key index
abbrev pub lindex : List (List ℕ) → Result ListAsk AskFault
lindex (key ∷ index ∷ []) = with (integer index) (λ i. Ok (ask.LIndex key i))
lindex _ = Err (Arity name.LIndex)

-- LSET key index item
abbrev pub lset : List (List ℕ) → Result ListAsk AskFault
lset (key ∷ index ∷ item ∷ []) = with (integer index) (λ i. Ok (ask.LSet key i item))
lset _ = Err (Arity name.LSet)

-- LINSERT key BEFORE|AFTER pivot item
abbrev pub linsert : List (List ℕ) → Result ListAsk AskFault
linsert (key ∷ side ∷ pivot ∷ item ∷ []) = with (side_of side) (λ s. Ok (ask.LInsert key s pivot item))
linsert _ = Err (Arity name.LInsert)

-- LREM key count item
abbrev pub lrem : List (List ℕ) → Result ListAsk AskFault
lrem (key ∷ most ∷ item ∷ []) = with (integer most) (λ n. Ok (ask.LRem key n item))
lrem _ = Err (Arity name.LRem)

-- LTRIM key first last
abbrev pub ltrim : List (List ℕ) → Result ListAsk AskFault
ltrim (key ∷ first ∷ last ∷ []) = with (integer first) (λ a. with (integer last) (λ b. Ok (ask.LTrim key a b)))
ltrim _ = Err (Arity name.LTrim)

-- LMOVE from to LEFT|RIGHT LEFT|RIGHT
abbrev pub lmove : List (List ℕ) → Result ListAsk AskFault
lmove (from ∷ to ∷ taken ∷ put ∷ []) = with (end_of taken) (λ a. with (end_of put) (λ b. Ok (ask.LMove from to a b)))
lmove _ = Err (Arity name.LMove)

-- RPOPLPUSH from to
abbrev pub rpoplpush : List (List ℕ) → Result ListAsk AskFault
rpoplpush (from ∷ to ∷ []) = Ok (ask.RPopLPush from to)
rpoplpush _ = Err (Arity name.RPopLPush)
