-- The lines that are waited for before the stream.
use Rattle.std.specs.Prelude.{◌≡◌, ℕ, ◌<◌, ◌≤◌, ◌⊎◌, List, ◌++◌, length, take, Option, Some, None, Result, Ok, Err}
use Rattle.mr_inline.specs.Language.{Continues, IsDoomed}
use Rattle.mr_peer_lines.specs.Lines.{Line, status, refusal, size, IsLineText, IsPeerLine, SaysNothing}
use Rattle.mr_peer_lines.specs.Replies.{IsReplyText}
use Rattle.mr_peer_lines.specs.declared.psync.PsyncReply.{PsyncReply}
use Rattle.mr_follower.specs.declared.heard.FollowFault.{FollowFault}
use Rattle.mr_follower.specs.declared.heard.FollowFault.TheVariants.{BadLine, Refused, Undecodable, Memory, Spent, Torn}
use Rattle.mr_follower.specs.declared.status.Status.{Status}
use Rattle.mr_follower.specs.declared.status.Answered.{Answered}
use Rattle.mr_follower.specs.declared.status.Announced.{Announced}

-- The bytes begin with a line that says this, and the rest is left.
pub record Begins (u : List ℕ) (line : Line) (rest : List ℕ) : Type 0 where
  pub text : List ℕ
  pub is : u ≡ text ++ rest
  pub says : IsPeerLine text line

-- the first bytes are a line that says this
abbrev pub IsFront : List ℕ → ℕ → Line → Type 0
IsFront u used line = (used ≤ length u) × IsPeerLine (take used u) line

-- what begins the bytes is no line
abbrev pub IsNoLine : List ℕ → Type 0
IsNoLine u = IsDoomed IsLineText u ⊎ SaysNothing u

-- a line that says this
abbrev pub HasSize : List ℕ → Type 0
HasSize u = (used : ℕ) × ((n : ℕ) × IsFront u used (size n))

abbrev pub HasStatus : List ℕ → Type 0
HasStatus u = (used : ℕ) × ((text : List ℕ) × IsFront u used (status text))

abbrev pub HasRefusal : List ℕ → Type 0
HasRefusal u = (used : ℕ) × ((text : List ℕ) × IsFront u used (refusal text))

-- a `+` line
abbrev pub HearsStatus : List ℕ → Result (Option Status) FollowFault → Type 0
HearsStatus u (Ok None) = Continues IsLineText u
HearsStatus u (Ok (Some s)) = IsFront u s.used (status s.text.now)
HearsStatus u (Err BadLine) = IsNoLine u ⊎ HasSize u
HearsStatus u (Err Refused) = HasRefusal u
HearsStatus u (Err Undecodable) = ⊥
HearsStatus u (Err Memory) = ⊥
HearsStatus u (Err Spent) = ⊥
HearsStatus u (Err Torn) = ⊥

-- a `+` line that is no answer to PSYNC
pub record HasOther (u : List ℕ) : Type 0 where
  pub used : ℕ
  pub text : List ℕ
  pub front : IsFront u used (status text)
  pub other : (reply : PsyncReply) → IsReplyText text reply → ⊥

-- a `+` line that answers PSYNC
pub record HasAnswer (u : List ℕ) (used : ℕ) (reply : PsyncReply) : Type 0 where
  pub text : List ℕ
  pub front : IsFront u used (status text)
  pub reads : IsReplyText text reply

-- the answer to PSYNC
abbrev pub HearsAnswer : List ℕ → Result (Option Answered) FollowFault → Type 0
HearsAnswer u (Ok None) = Continues IsLineText u
HearsAnswer u (Ok (Some a)) = HasAnswer u a.used a.reply
HearsAnswer u (Err BadLine) = (IsNoLine u ⊎ HasSize u) ⊎ HasOther u
HearsAnswer u (Err Refused) = HasRefusal u
HearsAnswer u (Err Undecodable) = ⊥
HearsAnswer u (Err Memory) = ⊥
HearsAnswer u (Err Spent) = ⊥
HearsAnswer u (Err Torn) = ⊥

-- a `$` line
abbrev pub HearsLength : List ℕ → Result (Option Announced) FollowFault → Type 0
HearsLength u (Ok None) = Continues IsLineText u
HearsLength u (Ok (Some a)) = IsFront u a.used (size a.length)
HearsLength u (Err BadLine) = IsNoLine u ⊎ HasStatus u
HearsLength u (Err Refused) = HasRefusal u
HearsLength u (Err Undecodable) = ⊥
HearsLength u (Err Memory) = ⊥
HearsLength u (Err Spent) = ⊥
HearsLength u (Err Torn) = ⊥

-- a length stands at the front, and so many bytes don't follow yet
pub record IsShortOf (u : List ℕ) : Type 0 where
  pub length_of : ℕ
  pub rest : List ℕ
  pub begins : Begins u (size length_of) rest
  pub missing : length rest < length_of
