-- What kind of value a key holds, as TYPE answers it.
use Rattle.std.specs.Prelude.{codes, Option, Some, None}
use Rattle.mr_resp.specs.Replies as reply
use Rattle.mr_resp.specs.Replies.{Tree}
use Rattle.mr_keyspace.specs.declared.value.Value.{Value}
use Rattle.mr_keyspace.specs.declared.value.Value.TheVariants as value
use Rattle.mr_keyspace.specs.declared.value.Entry.{Entry}
use Rattle.mr_cmd_shared.specs.Answered.{Answered, kept}

-- TYPE key: the kind of its value
abbrev pub kind_name : Value → Tree
kind_name (value.Text text) = reply.simple (codes "string")
kind_name (value.Hash fields) = reply.simple (codes "hash")
kind_name (value.List items) = reply.simple (codes "list")
kind_name (value.Set members) = reply.simple (codes "set")
kind_name (value.SortedSet scores) = reply.simple (codes "zset")

abbrev pub type_reply : Option Entry → Tree
type_reply None = reply.simple (codes "none")
type_reply (Some e) = kind_name e.value

abbrev pub type_answer : Option Entry → Answered
type_answer before = kept (type_reply before) before
