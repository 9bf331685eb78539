-- The names of commands on keys.
use Rattle.mr_arguments.specs.declared.name.Name.{Name}
use Rattle.mr_arguments.specs.declared.name.Name.TheVariants as name
use Rattle.mr_arguments.specs.declared.expiry.Expiry.TheVariants as expiry
use Rattle.mr_cmd_key.specs.declared.key_ask.Databases.TheVariants as databases
use Rattle.mr_cmd_key.specs.declared.key_ask.KeyAsk.{KeyAsk}
use Rattle.mr_cmd_key.specs.declared.key_ask.KeyAsk.TheVariants as key

-- of a command on keys of any kind
abbrev pub key_name : KeyAsk → Name
key_name (key.Del keys) = name.Del
key_name (key.Unlink keys) = name.Unlink
key_name (key.Exists keys) = name.Exists
key_name (key.KeyType key) = name.KeyType
key_name (key.Keys pattern) = name.Keys
key_name (key.Scan cursor pattern kind) = name.Scan
key_name key.DbSize = name.DbSize
key_name (key.Rename from to) = name.Rename
key_name (key.RenameNx from to) = name.RenameNx
key_name (key.Clear databases.All timing) = name.FlushAll
key_name (key.Clear databases.Selected timing) = name.FlushDb
key_name (key.Expire key (expiry.Seconds n) condition) = name.Expire
key_name (key.Expire key (expiry.Milliseconds n) condition) = name.PExpire
key_name (key.Expire key (expiry.AtSecond n) condition) = name.ExpireAt
key_name (key.Expire key (expiry.AtMillisecond n) condition) = name.PExpireAt
key_name (key.Ttl key) = name.Ttl
key_name (key.PTtl key) = name.PTtl
key_name (key.ExpireTime key) = name.ExpireTime
key_name (key.PExpireTime key) = name.PExpireTime
key_name (key.Persist key) = name.Persist
