-- What a master says before the stream, as it is written: the lines that answer PSYNC, and the line in front of a snapshot.
use Rattle.std.specs.Prelude.{ℕ, List, ◌∷◌, ◌++◌}
use Rattle.std.specs.Fmt.{decimal}
use Rattle.mr_resp.specs.Spelling.{line_end}
use Rattle.mr_peer_lines.specs.Bytes.{plus, dollar}
use Rattle.mr_peer_lines.specs.Lines.{IsPeerLine, status}
use Rattle.mr_peer_lines.specs.Replies.{reply_text, IsReplyText}
use Rattle.mr_peer_lines.specs.declared.psync.PsyncReply.{PsyncReply}

-- the line of an answer to PSYNC
unfoldable pub reply_line : PsyncReply → List ℕ
reply_line reply = (plus ∷ reply_text reply) ++ line_end

-- the line of a length
unfoldable pub length_line : ℕ → List ℕ
length_line n = (dollar ∷ decimal n) ++ line_end

-- The line says this answer, by the grammar of lines and by that of answers.
pub record SaysReply (line : List ℕ) (reply : PsyncReply) : Type 0 where
  pub text : List ℕ
  pub whole : IsPeerLine line (status text)
  pub reads : IsReplyText text reply
