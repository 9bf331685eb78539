-- Which commands on hashes words can ask for.
use Rattle.std.specs.Prelude.{◌≢◌, []}
use Rattle.mr_arguments.specs.Askable.{IsI64}
use Rattle.mr_cmd_hash.specs.declared.hash_ask.HashAsk.{HashAsk}
use Rattle.mr_cmd_hash.specs.declared.hash_ask.HashAsk.TheVariants as hash

abbrev pub HashIsAskable : HashAsk → Type 0
HashIsAskable (hash.HSet key pairs reply) = pairs ≢ []
HashIsAskable (hash.HMGet key fields) = fields ≢ []
HashIsAskable (hash.HDel key fields) = fields ≢ []
HashIsAskable (hash.HIncrBy key field by) = IsI64 by
HashIsAskable _ = Unit {0}
