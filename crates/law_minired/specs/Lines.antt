-- What a master's line says to the replica that reads it.
use Rattle.std.specs.Prelude.{ℕ, List}
use Rattle.mr_peer_lines.specs.Lines.{status, refusal, size, IsPeerLine}
use Rattle.mr_peer_lines.specs.Lines as peers
use Rattle.mr_peer_lines.specs.Replies.{IsReplyText}
use Rattle.mr_peer_lines.specs.declared.psync.PsyncReply.{PsyncReply}
use Rattle.mr_peer_lines.specs.declared.psync.PsyncReply.TheVariants as reply
use Rattle.law_protocol.specs.Language.{Line}
use Rattle.law_protocol.specs.Language.Line.{FullResync, Continue, Plain, Refusal}

-- A `+` line answers PSYNC, or any line before it; each other line is no answer.
abbrev pub Means : peers.Line → Line (List ℕ) → Type 0
Means (status text) (FullResync id offset) = IsReplyText text (reply.FullResync id offset)
Means (status text) (Continue id) = IsReplyText text (reply.Continue id)
Means (status text) Plain = (r : PsyncReply) → IsReplyText text r → ⊥
Means (status text) Refusal = ⊥
Means (refusal text) (FullResync id offset) = ⊥
Means (refusal text) (Continue id) = ⊥
Means (refusal text) Plain = ⊥
Means (refusal text) Refusal = Unit {0}
Means (size n) (FullResync id offset) = ⊥
Means (size n) (Continue id) = ⊥
Means (size n) Plain = ⊥
Means (size n) Refusal = Unit {0}

-- one line that says this
pub record Says (text : List ℕ) (line : Line (List ℕ)) : Type 0 where
  pub said : peers.Line
  pub whole : IsPeerLine text said
  pub means : Means said line
