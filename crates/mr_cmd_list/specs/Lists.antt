-- Commands on the list at a key, which have an answer of their own where the key is absent.
use Rattle.std.specs.Prelude.{List, [], ◌∷◌, map, codes, Bool, if◌then◌else◌, Option, Some, None}
use Rattle.std.specs.Option.{option_map}
use Rattle.mr_map.specs.Bytes.{Bytes}
use Rattle.mr_resp.specs.Replies as reply
use Rattle.mr_resp.specs.Replies.{Tree}
use Rattle.mr_resp.specs.ReplyView.{trees_of}
use Rattle.mr_keyspace.specs.Steps.{lists}
use Rattle.mr_keyspace.specs.declared.value.Value.TheVariants as value
use Rattle.mr_keyspace.specs.declared.value.Entry.{Entry}
use Rattle.mr_effect.specs.declared.effect.Effect.{Effect}
use Rattle.mr_cmd_shared.specs.Answered.{Answered, kept}
use Rattle.mr_cmd_shared.specs.Collections.{Change, telling, changing}

-- a command that only tells of the list
abbrev pub of_list : Tree → (List Bytes → Tree) → Option Entry → Answered
of_list absent answer None = kept absent None
of_list absent answer (Some e) = telling lists answer (Some e)

-- a command that changes the list, and leaves an absent key absent
abbrev pub on_list : Tree → (List Bytes → Change (List Bytes)) → Option Entry → Answered
on_list absent change None = kept absent None
on_list absent change (Some e) = changing lists change (Some e)

-- the list at a key, which is none where the key is absent, unless the key holds another kind
abbrev pub found : Option Entry → Option (Option (List Bytes))
found None = Some None
found (Some e) = option_map Some (lists.of e.value)

-- the entry of a list that has no deadline
abbrev pub entry_with : Option (List Bytes) → Option Entry
entry_with None = None
entry_with (Some xs) = Some (record { value = value.List xs; deadline = None })

-- the list stays as it is
abbrev pub unchanged : Tree → List Bytes → Change (List Bytes)
unchanged answer xs = record { reply = answer; value = xs; effects = [] }

-- the effect, unless the list is the same after it
abbrev pub unless : Bool → Effect → List Effect
unless same effect = if same then [] else effect ∷ []

-- ---- answers

-- an item, or nil
abbrev pub item_reply : Option Bytes → Tree
item_reply None = reply.null_bulk
item_reply (Some item) = reply.bytes item

abbrev pub items_reply : List Bytes → Tree
items_reply items = reply.array (trees_of (map reply.bytes items))

abbrev pub no_such_key : Tree
no_such_key = reply.error (codes "ERR no such key")

abbrev pub out_of_range : Tree
out_of_range = reply.error (codes "ERR index out of range")
