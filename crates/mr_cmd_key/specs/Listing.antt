-- What is answered of all keys of a dataset.
use Rattle.std.specs.Prelude.{ℤ, pos, List, [], ◌∷◌, map, filter, codes, Bool, true, false, ◌&&◌, Option, Some, None}
use Rattle.std.specs.FinMap.{get, keys, len}
use Rattle.mr_map.specs.Bytes.{Bytes}
use Rattle.mr_resp.specs.Replies as reply
use Rattle.mr_resp.specs.Replies.{Tree}
use Rattle.mr_resp.specs.ReplyView.{trees_of}
use Rattle.mr_keyspace.specs.Dataset.{Dataset}
use Rattle.mr_data.specs.Dataset.{live}
use Rattle.mr_keyspace.specs.declared.value.Value.{Value}
use Rattle.mr_keyspace.specs.declared.value.Value.TheVariants as value
use Rattle.mr_keyspace.specs.declared.value.Entry.{Entry}
use Rattle.mr_cmd_shared.specs.Outcomes.{Outcome, answered}
use Rattle.mr_glob.specs.Glob.{glob_matches}
use Rattle.mr_cmd_key.specs.declared.key_ask.Cursor.{Cursor}
use Rattle.mr_cmd_key.specs.declared.key_ask.Cursor.TheVariants as cursor
use Rattle.mr_cmd_key.specs.declared.key_ask.KindName.{KindName}
use Rattle.mr_cmd_key.specs.declared.key_ask.KindName.TheVariants as kind

-- the pattern matches the key, or there is none
abbrev pub is_matched : Option Bytes → Bytes → Bool
is_matched None k = true
is_matched (Some pattern) k = glob_matches pattern k

abbrev pub has_kind : KindName → Value → Bool
has_kind kind.Text (value.Text text) = true
has_kind kind.Hash (value.Hash fields) = true
has_kind kind.List (value.List items) = true
has_kind kind.Set (value.Set members) = true
has_kind kind.SortedSet (value.SortedSet scores) = true
has_kind _ _ = false

-- there is a value, of this kind if one is asked for
abbrev pub is_of_kind : Option KindName → Option Entry → Bool
is_of_kind k None = false
is_of_kind None (Some e) = true
is_of_kind (Some k) (Some e) = has_kind k e.value

-- the keys that match and are of the kind, in byte order
abbrev pub listed : Option Bytes → Option KindName → Dataset → List Bytes
listed pattern k m = filter (λ q. is_matched pattern q && is_of_kind k (get m q)) (keys m)

-- .. at a moment, expired ones left out
abbrev pub is_listed_at : ℤ → Option Bytes → Option KindName → Dataset → Bytes → Bool
is_listed_at now pattern k m q = is_matched pattern q && is_of_kind k (live now (get m q))

abbrev pub listed_at : ℤ → Option Bytes → Option KindName → Dataset → List Bytes
listed_at now pattern k m = filter (is_listed_at now pattern k m) (keys m)

abbrev pub bulks : List Bytes → Tree
bulks ks = reply.array (trees_of (map reply.bytes ks))

-- KEYS pattern
abbrev pub matching : Bytes → Dataset → Outcome
matching pattern m = answered (bulks (listed (Some pattern) None m)) m

-- SCAN cursor [MATCH pattern] [TYPE kind]: all keys at once from the start, and none from behind it. The next cursor is always the start.
abbrev pub scan_reply : List Bytes → Tree
scan_reply ks = reply.array (trees_of (reply.bytes (codes "0") ∷ bulks ks ∷ []))

abbrev pub from_cursor : Cursor → List Bytes → List Bytes
from_cursor cursor.Start ks = ks
from_cursor cursor.Behind ks = []

abbrev pub scanned : Cursor → Option Bytes → Option KindName → Dataset → Outcome
scanned c pattern k m = answered (scan_reply (from_cursor c (listed pattern k m))) m

-- DBSIZE: how many keys there are
abbrev pub sized : Dataset → Outcome
sized m = answered (reply.int (pos (len m))) m
