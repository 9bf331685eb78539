-- Commands on keys of any kind.
use Rattle.std.specs.Prelude.{ℕ, List, [], ◌∷◌, Some, None, Result, Ok, Err}
use Rattle.std.specs.Option.{option_map}
use Rattle.mr_arguments.specs.Parts.{with}
use Rattle.mr_cmd_key.specs.Parts.{positive_if_any, cursor_of, kind_of, timing_of, key_expiry}
use Rattle.mr_cmd_key.specs.Options.{scan_options, condition_if_any}
use Rattle.mr_arguments.specs.declared.name.Name.{Name}
use Rattle.mr_arguments.specs.declared.name.Name.TheVariants as name
use Rattle.mr_arguments.specs.declared.fault.AskFault.{AskFault}
use Rattle.mr_arguments.specs.declared.fault.AskFault.TheVariants.{Arity, Syntax}
use Rattle.mr_arguments.specs.declared.expiry.ExpiryUnit.{ExpiryUnit}
use Rattle.mr_cmd_key.specs.declared.key_ask.KeyAsk.{KeyAsk}
use Rattle.mr_cmd_key.specs.declared.key_ask.KeyAsk.TheVariants as ask
use Rattle.mr_cmd_key.specs.declared.key_ask.Databases.{Databases}

-- DEL key [key ..]
abbrev pub del : List (List ℕ) → Result KeyAsk AskFault
del [] = Err (Arity name.Del)
del keys = Ok (ask.Del keys)

-- UNLINK key [key ..]
abbrev pub unlink : List (List ℕ) → Result KeyAsk AskFault
unlink [] = Err (Arity name.Unlink)
unlink keys = Ok (ask.Unlink keys)

-- EXISTS key [key ..]
abbrev pub exists : List (List ℕ) → Result KeyAsk AskFault
exists [] = Err (Arity name.Exists)
exists keys = Ok (ask.Exists keys)

-- TYPE key
abbrev pub key_type : List (List ℕ) → Result KeyAsk AskFault
key_type (key ∷ []) = Ok (ask.KeyType key)
key_type _ = Err (Arity name.KeyType)

-- KEYS pattern
abbrev pub keys : List (List ℕ) → Result KeyAsk AskFault
keys (pattern ∷ []) = Ok (ask.Keys pattern)
keys _ = Err (Arity name.Keys)

-- SCAN cursor [MATCH pattern] [COUNT number] [TYPE kind]
abbrev pub scan : List (List ℕ) → Result KeyAsk AskFault
scan [] = Err (Arity name.Scan)
scan (cursor ∷ words) = with (scan_options words) (λ options.
    with (positive_if_any options.count) (λ count.
    with (cursor_of cursor) (λ place. Ok (ask.Scan place options.pattern (option_map kind_of options.kind)))))

-- DBSIZE
abbrev pub dbsize : List (List ℕ) → Result KeyAsk AskFault
dbsize [] = Ok ask.DbSize
dbsize _ = Err (Arity name.DbSize)

-- RENAME key key
abbrev pub rename : List (List ℕ) → Result KeyAsk AskFault
rename (from ∷ to ∷ []) = Ok (ask.Rename from to)
rename _ = Err (Arity name.Rename)

-- RENAMENX key key
abbrev pub renamenx : List (List ℕ) → Result KeyAsk AskFault
renamenx (from ∷ to ∷ []) = Ok (ask.RenameNx from to)
renamenx _ = Err (Arity name.RenameNx)

-- FLUSHALL [ASYNC|SYNC], FLUSHDB the same
abbrev pub clear : Databases → List (List ℕ) → Result KeyAsk AskFault
clear databases [] = Ok (ask.Clear databases None)
clear databases (timing ∷ []) = with (timing_of timing) (λ t. Ok (ask.Clear databases (Some t)))
clear databases _ = Err Syntax

-- EXPIRE key seconds [NX|XX|GT|LT], PEXPIRE key milliseconds .., EXPIREAT key second .., PEXPIREAT key millisecond ..
abbrev pub expire : Name → ExpiryUnit → List (List ℕ) → Result KeyAsk AskFault
expire name unit [] = Err (Arity name)
expire name unit (key ∷ []) = Err (Arity name)
expire name unit (key ∷ number ∷ words) = with (condition_if_any words) (λ condition. with (key_expiry unit number) (λ expiry. Ok (ask.Expire key expiry condition)))

-- TTL key
abbrev pub ttl : List (List ℕ) → Result KeyAsk AskFault
ttl (key ∷ []) = Ok (ask.Ttl key)
ttl _ = Err (Arity name.Ttl)

-- PTTL key
abbrev pub pttl : List (List ℕ) → Result KeyAsk AskFault
pttl (key ∷ []) = Ok (ask.PTtl key)
pttl _ = Err (Arity name.PTtl)

-- EXPIRETIME key
abbrev pub expiretime : List (List ℕ) → Result KeyAsk AskFault
expiretime (key ∷ []) = Ok (ask.ExpireTime key)
expiretime _ = Err (Arity name.ExpireTime)

-- PEXPIRETIME key
abbrev pub pexpiretime : List (List ℕ) → Result KeyAsk AskFault
pexpiretime (key ∷ []) = Ok (ask.PExpireTime key)
pexpiretime _ = Err (Arity name.PExpireTime)

-- PERSIST key
abbrev pub persist : List (List ℕ) → Result KeyAsk AskFault
persist (key ∷ []) = Ok (ask.Persist key)
persist _ = Err (Arity name.Persist)
