-- What a master answers to PSYNC, behind the mark of its line.
use Rattle.std.specs.Prelude.{◌≡◌, ℕ, ◌≤◌, List, ◌∷◌, ◌++◌, codes, Option, MatchOption}
use Rattle.std.specs.Fmt.{decimal}
use Rattle.mr_repl.specs.ReplId.{IsId, digits_of}
use Rattle.mr_repl.specs.Backlog.{offset_limit}
use Rattle.mr_peer_lines.specs.Bytes.{space}
use Rattle.mr_peer_lines.specs.declared.psync.PsyncReply.{PsyncReply}
use Rattle.mr_peer_lines.specs.declared.psync.PsyncReply.TheVariants.{FullResync, Continue}

-- a place in a stream: one space between the id and the offset
abbrev pub place_text : List ℕ → ℕ → List ℕ
place_text id offset = digits_of id ++ space ∷ decimal offset

-- the text of this place, its id one, and its offset within the limit
abbrev pub IsPlaceText : List ℕ → List ℕ → ℕ → Type 0
IsPlaceText text id offset = (IsId id × (offset ≤ offset_limit)) × (text ≡ place_text id offset)

-- one space between the words, and nothing behind the last
abbrev pub reply_text : PsyncReply → List ℕ
reply_text (FullResync id offset) = codes "FULLRESYNC " ++ place_text id offset
reply_text (Continue id) = codes "CONTINUE " ++ digits_of id

-- its id is one, and its offset within the limit
abbrev pub IsReply : PsyncReply → Type 0
IsReply (FullResync id offset) = IsId id × (offset ≤ offset_limit)
IsReply (Continue id) = IsId id

-- the text of this answer
abbrev pub IsReplyText : List ℕ → PsyncReply → Type 0
IsReplyText text reply = IsReply reply × (text ≡ reply_text reply)

-- what was found has this text, and where nothing was found no answer has it
abbrev pub ReadsReply : List ℕ → Option PsyncReply → Type 0
ReadsReply text found = MatchOption found ((reply : PsyncReply) → IsReplyText text reply → ⊥) (IsReplyText text)
