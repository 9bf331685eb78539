-- The continue rule: when a replica may go on from where it stands.
use Rattle.std.specs.Prelude.{◌≡◌, ℕ, ◌+◌, ◌≤◌, ℤ, pos, List, Option, Some, None, ◌⊎◌}
use Rattle.mr_repl.specs.ReplId.{digits_of}
use Rattle.mr_repl.specs.declared.standing.Standing.{Standing}
use Rattle.mr_repl.specs.declared.decision.PsyncAnswer.{PsyncAnswer}
use Rattle.mr_repl.specs.declared.decision.PsyncAnswer.TheVariants.{Full, Continue}

-- the text is that of the id before, and the offset is at most that of the change
abbrev pub IsBefore : Option (List ℕ × ℕ) → List ℕ → ℕ → Type 0
IsBefore None text from = ⊥
IsBefore (Some second) text from = (text ≡ digits_of second.0) × (from ≤ second.1)

-- the text is that of the node's id, or of the id before it where the offset isn't past the change
abbrev pub IsKnown : Standing → List ℕ → ℕ → Type 0
IsKnown s text from = (text ≡ digits_of s.id) ⊎ IsBefore s.second text from

-- A replica under the id of this text, which wants the stream from this offset on, may go on: the id is known, and the
-- backlog holds what is wanted.
pub record MayContinue (s : Standing) (text : List ℕ) (from : ℕ) : Type 0 where
  pub known : IsKnown s text from
  pub from_first : s.first ≤ from
  pub to_next : from ≤ s.offset + 1

-- the stream from the offset wanted where the replica may go on, and else a snapshot
abbrev pub IsAnswer : PsyncAnswer → Standing → List ℕ → ℤ → Type 0
IsAnswer Full s text wanted = (from : ℕ) → wanted ≡ pos from → MayContinue s text from → ⊥
IsAnswer (Continue from) s text wanted = (wanted ≡ pos from) × MayContinue s text from
