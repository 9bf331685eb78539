-- Commands on sets.
use Rattle.std.specs.Prelude.{ℕ, List, [], ◌∷◌, Some, None, Result, Ok, Err}
use Rattle.mr_arguments.specs.declared.name.Name.{Name}
use Rattle.mr_arguments.specs.declared.name.Name.TheVariants as name
use Rattle.mr_arguments.specs.declared.fault.AskFault.{AskFault}
use Rattle.mr_arguments.specs.declared.fault.AskFault.TheVariants.{Arity}
use Rattle.mr_cmd_set.specs.declared.set_ask.SetAsk.{SetAsk}
use Rattle.mr_cmd_set.specs.declared.set_ask.SetAsk.TheVariants as ask
use Rattle.mr_arguments.specs.Parts.{with, count}
use Rattle.mr_cmd_set.specs.declared.set_ask.SetOperation.{SetOperation}

-- SADD key member [member ..]
abbrev pub sadd : List (List ℕ) → Result SetAsk AskFault
sadd [] = Err (Arity name.SAdd)
sadd (key ∷ []) = Err (Arity name.SAdd)
sadd (key ∷ members) = Ok (ask.SAdd key members)

-- SREM key member [member ..]
abbrev pub srem : List (List ℕ) → Result SetAsk AskFault
srem [] = Err (Arity name.SRem)
srem (key ∷ []) = Err (Arity name.SRem)
srem (key ∷ members) = Ok (ask.SRem key members)

-- SISMEMBER key member
abbrev pub sismember : List (List ℕ) → Result SetAsk AskFault
sismember (key ∷ member ∷ []) = Ok (ask.SIsMember key member)
sismember _ = Err (Arity name.SIsMember)

-- SMISMEMBER key member [member ..]
abbrev pub smismember : List (List ℕ) → Result SetAsk AskFault
smismember [] = Err (Arity name.SMIsMember)
smismember (key ∷ []) = Err (Arity name.SMIsMember)
smismember (key ∷ members) = Ok (ask.SMIsMember key members)

-- SMEMBERS key
abbrev pub smembers : List (List ℕ) → Result SetAsk AskFault
smembers (key ∷ []) = Ok (ask.SMembers key)
smembers _ = Err (Arity name.SMembers)

-- SCARD key
abbrev pub scard : List (List ℕ) → Result SetAsk AskFault
scard (key ∷ []) = Ok (ask.SCard key)
scard _ = Err (Arity name.SCard)

-- SPOP key [count]
abbrev pub spop : List (List ℕ) → Result SetAsk AskFault
spop (key ∷ []) = Ok (ask.SPop key None)
spop (key ∷ most ∷ []) = with (count most) (λ n. Ok (ask.SPop key (Some n)))
spop _ = Err (Arity name.SPop)

-- SRANDMEMBER key [count]
abbrev pub srandmember : List (List ℕ) → Result SetAsk AskFault
srandmember (key ∷ []) = Ok (ask.SRandMember key None)
srandmember (key ∷ most ∷ []) = with (count most) (λ n. Ok (ask.SRandMember key (Some n)))
srandmember _ = Err (Arity name.SRandMember)

-- SMOVE from to member
abbrev pub smove : List (List ℕ) → Result SetAsk AskFault
smove (from ∷ to ∷ member ∷ []) = Ok (ask.SMove from to member)
smove _ = Err (Arity name.SMove)

-- SINTER key [key ..], SUNION, SDIFF the same
abbrev pub combine : Name → SetOperation → List (List ℕ) → Result SetAsk AskFault
combine name operation [] = Err (Arity name)
combine name operation keys = Ok (ask.Combine operation keys)
