-- The names of commands on hashes.
use Rattle.mr_arguments.specs.declared.name.Name.{Name}
use Rattle.mr_arguments.specs.declared.name.Name.TheVariants as name
use Rattle.mr_cmd_hash.specs.declared.hash_ask.FieldsReply.TheVariants.{Added, Done}
use Rattle.mr_cmd_hash.specs.declared.hash_ask.HashPart.TheVariants.{Pairs, Fields, Values}
use Rattle.mr_cmd_hash.specs.declared.hash_ask.HashAsk.{HashAsk}
use Rattle.mr_cmd_hash.specs.declared.hash_ask.HashAsk.TheVariants as hash

-- of a command on hashes
abbrev pub hash_name : HashAsk → Name
hash_name (hash.HSet key pairs Added) = name.HSet
hash_name (hash.HSet key pairs Done) = name.HMSet
hash_name (hash.HSetNx key field value) = name.HSetNx
hash_name (hash.HGet key field) = name.HGet
hash_name (hash.HMGet key fields) = name.HMGet
hash_name (hash.ListHash key Pairs) = name.HGetAll
hash_name (hash.ListHash key Fields) = name.HKeys
hash_name (hash.ListHash key Values) = name.HVals
hash_name (hash.HDel key fields) = name.HDel
hash_name (hash.HExists key field) = name.HExists
hash_name (hash.HLen key) = name.HLen
hash_name (hash.HStrLen key field) = name.HStrLen
hash_name (hash.HIncrBy key field by) = name.HIncrBy
