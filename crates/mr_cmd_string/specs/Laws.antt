-- What commands on strings tell of what others left.
use Rattle.std.specs.Prelude.{◌≡◌, ◌≢◌, ◌<◌, ◌≤◌, ◌+◌, All, ℕ, ℤ, pos, ◌+ℤ◌, List, [], ◌++◌, length, codes, map, IsTrue, if◌then◌else◌, Option, Some}
use Rattle.std.specs.Fmt.{signed_decimal}
use Rattle.std.specs.FinMap.{get}
use Rattle.mr_map.specs.Bytes.{Bytes}
use Rattle.mr_bytes.specs.Number.{is_i64, number_of}
use Rattle.mr_bytes.specs.Texts.{overwritten}
use Rattle.mr_bytes.specs.Words.{fits}
use Rattle.mr_resp.specs.Replies as reply
use Rattle.mr_resp.specs.ReplyView.{trees_of}
use Rattle.mr_effect.specs.Spelling.{arguments}
use Rattle.mr_keyspace.specs.Dataset.{Dataset}
use Rattle.mr_keyspace.specs.Steps.{strings, held}
use Rattle.mr_keyspace.specs.declared.value.Entry.{Entry}
use Rattle.mr_cmd_string.specs.Carried.{text_words}
use Rattle.mr_cmd_string.specs.declared.text_ask.TextAsk.TheVariants as ask
use Rattle.mr_cmd_string.specs.SettingAll.{mset, msetnx}
use Rattle.mr_cmd_string.specs.Texts.{get_reply, strlen_reply, getrange_reply, told_texts}
use Rattle.mr_cmd_string.specs.Setting.{holds_other}
use Rattle.mr_cmd_string.specs.Changing.{append_answer, setrange_answer, increase_answer, too_long}

-- the key holds this text; an absent one holds an empty text
abbrev pub HoldsText : Option Entry → Bytes → Type 0
HoldsText before text = held (strings []) before ≡ Some text

-- .. or it holds the spelling of this number; an absent one holds 0
pub record HoldsNumber (before : Option Entry) (n : ℤ) : Type 0 where
  pub text : Bytes
  pub held_is : held (strings (codes "0")) before ≡ Some text
  pub number : number_of text ≡ Some n

-- APPEND answers what STRLEN then answers, unless the text would be too long
abbrev pub AppendAnswersLength : Type 0
AppendAnswersLength = (k more : Bytes) (before : Option Entry) → (append_answer k more before).reply ≢ too_long
    → (append_answer k more before).reply ≡ strlen_reply (append_answer k more before).entry

-- GET then reads the text that was there, and what was appended behind it
abbrev pub AppendIsRead : Type 0
AppendIsRead = (k text more : Bytes) (before : Option Entry) → HoldsText before text → IsTrue (fits (text ++ more))
    → get_reply (append_answer k more before).entry ≡ reply.bytes (text ++ more)

-- what SETRANGE put at an offset, GETRANGE reads from its first place to its last
abbrev pub SetRangeIsRead : Type 0
SetRangeIsRead = (k text part : Bytes) (offset last : ℕ) (before : Option Entry) → HoldsText before text → IsTrue (fits (overwritten offset part text))
    → 0 < length part → offset + length part ≡ last + 1
    → getrange_reply (pos offset) (pos last) (setrange_answer k offset part before).entry ≡ reply.bytes part

-- INCR and its kin answer a number, and GET then reads its digits
abbrev pub IncreaseIsRead : Type 0
IncreaseIsRead = (k : Bytes) (by n : ℤ) (before : Option Entry) → (increase_answer k by before).reply ≡ reply.int n
    → get_reply (increase_answer k by before).entry ≡ reply.bytes (signed_decimal n)

-- .. which is the sum, where it has 64 bits
abbrev pub IncreaseAdds : Type 0
IncreaseAdds = (k : Bytes) (by n : ℤ) (before : Option Entry) → HoldsNumber before n → IsTrue (is_i64 (n +ℤ by)) → (increase_answer k by before).reply ≡ reply.int (n +ℤ by)

-- MGET answers what GET answers for each key, and nil where GET refuses a value of another kind
abbrev pub MGetIsGetOfEach : Type 0
MGetIsGetOfEach = (ks : List Bytes) (m : Dataset) → (told_texts ks m).reply ≡ reply.array (trees_of (map (λ k. if holds_other (get m k) then reply.null_bulk else get_reply (get m k)) ks))

-- MSET and MSETNX have one effect, which isn't cut: behind its name it has at most as many words as the command
abbrev pub MSetIsNoLonger : Type 0
MSetIsNoLonger = (pairs : List (Bytes × Bytes)) (m : Dataset) → All (λ e. length (arguments e) ≤ length (text_words (ask.MSet pairs))) (mset pairs m).effects

abbrev pub MSetNxIsNoLonger : Type 0
MSetNxIsNoLonger = (pairs : List (Bytes × Bytes)) (m : Dataset) → All (λ e. length (arguments e) ≤ length (text_words (ask.MSetNx pairs))) (msetnx pairs m).effects
