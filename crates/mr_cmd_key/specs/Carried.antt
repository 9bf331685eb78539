-- The words that a command on keys carries.
use Rattle.std.specs.Prelude.{ℕ, List, [], ◌∷◌, Some, None}
use Rattle.mr_cmd_key.specs.declared.key_ask.KeyAsk.{KeyAsk}
use Rattle.mr_cmd_key.specs.declared.key_ask.KeyAsk.TheVariants as key

-- of a command on keys of any kind
abbrev pub key_words : KeyAsk → List (List ℕ)
key_words (key.Del keys) = keys
key_words (key.Unlink keys) = keys
key_words (key.Exists keys) = keys
key_words (key.KeyType key) = key ∷ []
key_words (key.Keys pattern) = pattern ∷ []
key_words (key.Scan cursor None kind) = []
key_words (key.Scan cursor (Some pattern) kind) = pattern ∷ []
key_words key.DbSize = []
key_words (key.Rename from to) = from ∷ to ∷ []
key_words (key.RenameNx from to) = from ∷ to ∷ []
key_words (key.Clear databases timing) = []
key_words (key.Expire key expiry condition) = key ∷ []
key_words (key.Ttl key) = key ∷ []
key_words (key.PTtl key) = key ∷ []
key_words (key.ExpireTime key) = key ∷ []
key_words (key.PExpireTime key) = key ∷ []
key_words (key.Persist key) = key ∷ []
