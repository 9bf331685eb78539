-- Commands that tell of a list.
use Rattle.std.specs.Prelude.{ℤ, pos, List, [], length, slice_get, Option}
use Rattle.std.specs.Option.{option_and_then}
use Rattle.mr_map.specs.Bytes.{Bytes}
use Rattle.mr_resp.specs.Replies as reply
use Rattle.mr_resp.specs.Replies.{Tree}
use Rattle.mr_bytes.specs.Window.{named_place, window_of, windowed}
use Rattle.mr_keyspace.specs.declared.value.Entry.{Entry}
use Rattle.mr_cmd_shared.specs.Answered.{Answered}
use Rattle.mr_cmd_list.specs.Lists.{of_list, item_reply, items_reply}

-- LLEN key: how many items there are, 0 where the key is absent
abbrev pub llen_answer : Option Entry → Answered
llen_answer = of_list (reply.int (pos 0)) (λ xs. reply.int (pos (length xs)))

-- LRANGE key first last: the items in the window, none where the key is absent
abbrev pub lrange_answer : ℤ → ℤ → Option Entry → Answered
lrange_answer first last = of_list (items_reply []) (λ xs. items_reply (windowed (window_of first last (length xs)) xs))

-- the item at the place that an index names
abbrev pub named_item : ℤ → List Bytes → Option Bytes
named_item index xs = option_and_then (slice_get xs) (named_place index (length xs))

-- LINDEX key index: that item, nil where there is none
abbrev pub lindex_answer : ℤ → Option Entry → Answered
lindex_answer index = of_list reply.null_bulk (λ xs. item_reply (named_item index xs))
