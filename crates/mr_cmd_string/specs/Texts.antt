-- What commands tell of the texts at keys.
use Rattle.std.specs.Prelude.{ℤ, pos, List, [], map, length, Option, Some, None}
use Rattle.std.specs.FinMap.{get}
use Rattle.mr_map.specs.Bytes.{Bytes}
use Rattle.mr_bytes.specs.Window.{window_of, windowed}
use Rattle.mr_resp.specs.Replies as reply
use Rattle.mr_resp.specs.Replies.{Tree}
use Rattle.mr_resp.specs.ReplyView.{trees_of}
use Rattle.mr_keyspace.specs.Dataset.{Dataset}
use Rattle.mr_data.specs.Dataset.{live}
use Rattle.mr_keyspace.specs.declared.value.Value.{Value}
use Rattle.mr_keyspace.specs.declared.value.Value.TheVariants as value
use Rattle.mr_keyspace.specs.declared.value.Entry.{Entry}
use Rattle.mr_cmd_shared.specs.Answered.{Answered, kept, wrong_kind}
use Rattle.mr_cmd_shared.specs.Outcomes.{Outcome, answered}

-- ---- What a command tells of the text at a key. A value of another kind is refused.
abbrev pub of_value : (Bytes → Tree) → Value → Tree
of_value answer (value.Text text) = answer text
of_value answer _ = wrong_kind

abbrev pub of_text : Tree → (Bytes → Tree) → Option Entry → Tree
of_text absent answer None = absent
of_text absent answer (Some e) = of_value answer e.value

-- GET key: the text
abbrev pub get_reply : Option Entry → Tree
get_reply = of_text reply.null_bulk reply.bytes

abbrev pub get_answer : Option Entry → Answered
get_answer before = kept (get_reply before) before

-- STRLEN key: how many bytes it has
abbrev pub strlen_reply : Option Entry → Tree
strlen_reply = of_text (reply.int (pos 0)) (λ text. reply.int (pos (length text)))

abbrev pub strlen_answer : Option Entry → Answered
strlen_answer before = kept (strlen_reply before) before

-- GETRANGE key first last: its bytes from one place to another
abbrev pub part : ℤ → ℤ → Bytes → Bytes
part first last text = windowed (window_of first last (length text)) text

abbrev pub getrange_reply : ℤ → ℤ → Option Entry → Tree
getrange_reply first last = of_text (reply.bytes []) (λ text. reply.bytes (part first last text))

abbrev pub getrange_answer : ℤ → ℤ → Option Entry → Answered
getrange_answer first last before = kept (getrange_reply first last before) before

-- ---- MGET key [key ..]: the text of each. A key of another kind is answered as an absent one.
abbrev pub text_or_null : Value → Tree
text_or_null (value.Text text) = reply.bytes text
text_or_null _ = reply.null_bulk

abbrev pub found : Option Entry → Tree
found None = reply.null_bulk
found (Some e) = text_or_null e.value

abbrev pub told_texts : List Bytes → Dataset → Outcome
told_texts ks m = answered (reply.array (trees_of (map (λ k. found (get m k)) ks))) m

-- .. at a moment, expired ones left out
abbrev pub texts_at : ℤ → List Bytes → Dataset → List Tree
texts_at now ks m = map (λ k. found (live now (get m k))) ks
