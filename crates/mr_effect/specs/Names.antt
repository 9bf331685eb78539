-- The names of effects.
use Rattle.std.specs.Prelude.{List, [], ◌∷◌, Bool, true, false, Option, Some, None, find, codes}
use Rattle.std.specs.Str.{bytes_eq}
use Rattle.mr_map.specs.Bytes.{Bytes}
use Rattle.mr_effect.specs.declared.name.EffectName.{EffectName}
use Rattle.mr_effect.specs.declared.name.EffectName.TheVariants as name

abbrev pub text_of : EffectName → Bytes
text_of name.Set = codes "SET"
text_of name.MSet = codes "MSET"
text_of name.Append = codes "APPEND"
text_of name.SetRange = codes "SETRANGE"
text_of name.IncrBy = codes "INCRBY"
text_of name.Del = codes "DEL"
text_of name.PExpireAt = codes "PEXPIREAT"
text_of name.Persist = codes "PERSIST"
text_of name.Rename = codes "RENAME"
text_of name.FlushAll = codes "FLUSHALL"
text_of name.Ping = codes "PING"
text_of name.HSet = codes "HSET"
text_of name.HDel = codes "HDEL"
text_of name.LPush = codes "LPUSH"
text_of name.RPush = codes "RPUSH"
text_of name.LPop = codes "LPOP"
text_of name.RPop = codes "RPOP"
text_of name.LSet = codes "LSET"
text_of name.LInsert = codes "LINSERT"
text_of name.LRem = codes "LREM"
text_of name.LTrim = codes "LTRIM"
text_of name.LMove = codes "LMOVE"
text_of name.SAdd = codes "SADD"
text_of name.SRem = codes "SREM"
text_of name.SMove = codes "SMOVE"
text_of name.ZAdd = codes "ZADD"
text_of name.ZRem = codes "ZREM"

-- all of them
abbrev pub names : List EffectName
names = name.Set ∷ name.MSet ∷ name.Append ∷ name.SetRange ∷ name.IncrBy ∷ name.Del ∷ name.PExpireAt ∷ name.Persist ∷ name.Rename ∷ name.FlushAll ∷ name.Ping ∷ name.HSet ∷ name.HDel ∷ name.LPush ∷ name.RPush ∷ name.LPop ∷ name.RPop ∷ name.LSet ∷ name.LInsert ∷ name.LRem ∷ name.LTrim ∷ name.LMove ∷ name.SAdd ∷ name.SRem ∷ name.SMove ∷ name.ZAdd ∷ name.ZRem ∷ []

abbrev pub is_named : Bytes → EffectName → Bool
is_named word n = bytes_eq (text_of n) word

-- the name that a word is
unfoldable pub named : Bytes → Option EffectName
named word = find (is_named word) names

-- the effects of this name hold lists: of words, of pairs, or of members with scores
abbrev pub holds_lists : EffectName → Bool
holds_lists name.MSet = true
holds_lists name.HSet = true
holds_lists name.HDel = true
holds_lists name.LPush = true
holds_lists name.RPush = true
holds_lists name.SAdd = true
holds_lists name.SRem = true
holds_lists name.ZAdd = true
holds_lists name.ZRem = true
holds_lists _ = false

abbrev pub some_holds_lists : Option EffectName → Bool
some_holds_lists None = false
some_holds_lists (Some n) = holds_lists n

-- the first of these words is such a name
abbrev pub names_lists : List Bytes → Bool
names_lists [] = false
names_lists (word ∷ ws) = some_holds_lists (named word)
