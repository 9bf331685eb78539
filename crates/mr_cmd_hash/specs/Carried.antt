-- The words that a command on hashes carries.
use Rattle.std.specs.Prelude.{ℕ, List, [], ◌∷◌}
use Rattle.mr_arguments.specs.Pairing.{unpaired}
use Rattle.mr_cmd_hash.specs.declared.hash_ask.HashAsk.{HashAsk}
use Rattle.mr_cmd_hash.specs.declared.hash_ask.HashAsk.TheVariants as hash

-- of a command on hashes
abbrev pub hash_words : HashAsk → List (List ℕ)
hash_words (hash.HSet key pairs reply) = key ∷ unpaired pairs
hash_words (hash.HSetNx key field value) = key ∷ field ∷ value ∷ []
hash_words (hash.HGet key field) = key ∷ field ∷ []
hash_words (hash.HMGet key fields) = key ∷ fields
hash_words (hash.ListHash key part) = key ∷ []
hash_words (hash.HDel key fields) = key ∷ fields
hash_words (hash.HExists key field) = key ∷ field ∷ []
hash_words (hash.HLen key) = key ∷ []
hash_words (hash.HStrLen key field) = key ∷ field ∷ []
hash_words (hash.HIncrBy key field by) = key ∷ field ∷ []
