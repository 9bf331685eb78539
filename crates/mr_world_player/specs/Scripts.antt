-- A whole script: what its lines come to, one after another.
use Rattle.std.specs.Prelude.{◌≡◌, ◌≢◌, ℕ, List, [], ◌∷◌, ◌++◌, All, Option, Result, Ok, Err}
use Rattle.std.specs.Io.KnownBytes.{Appends, Consumes, IsAtEnd, Keeps}
use Rattle.mr_inline.specs.Bytes.{line_feed}
use Rattle.mr_file.specs.Outputs.{IsBegun}
use Rattle.mr_pipe.specs.declared.fault.PipeFault.{PipeFault}
use Rattle.mr_pipe.specs.declared.fault.PipeFault.TheVariants as fault
use Rattle.law_refinement.specs.State.{WorldState}
use Rattle.law_refinement.specs.Worlds.{no_world}
use Rattle.mr_world_player.specs.Playing.{Answers}

-- A line that was played: its bytes before the line feed, the World behind it, and its answer.
pub record Moment : Type 0 where
  pub front : List ℕ
  pub world : WorldState
  pub told : List ℕ

-- there is no line feed among the bytes
abbrev pub IsPart : List ℕ → Type 0
IsPart bytes = All (λ b. b ≢ line_feed) bytes

abbrev pub line_of : Moment → List ℕ
line_of m = m.front ++ line_feed ∷ []

abbrev pub lines_of : List Moment → List ℕ
lines_of [] = []
lines_of (m ∷ ms) = line_of m ++ lines_of ms

-- Lines are played one after another: v and told are the World behind the last, and all their answers.
abbrev pub ArePlayed : ℕ → WorldState → List Moment → WorldState → List ℕ → Type 0
ArePlayed backlog w [] v told = (v ≡ w) × (told ≡ [])
ArePlayed backlog w (m ∷ ms) v told = IsPart m.front × Answers backlog w (line_of m) m.world m.told
    × ((behind : List ℕ) × ArePlayed backlog m.world ms v behind × (told ≡ m.told ++ behind))

-- Of these bytes the whole lines were played, their answers stand in the output, and the rest is no line yet.
pub record Goes (backlog : ℕ) (w : WorldState) (read : List ℕ) (old : Option (List ℕ)) (v : WorldState) (rest : List ℕ) (new : Option (List ℕ)) : Type 0 where
  pub moments : List Moment
  pub told : List ℕ
  pub played : ArePlayed backlog w moments v told
  pub are : read ≡ lines_of moments ++ rest
  pub part : IsPart rest
  pub written : Appends old new told

-- Of an answer a beginning was written; or all were written, and the flush failed.
pub data IsCutOff (backlog : ℕ) (v : WorldState) (rest left : List ℕ) (at new : Option (List ℕ)) : Type 0 where
  in_answer : (u : WorldState) (told behind : List ℕ) → left ≡ line_feed ∷ behind → Answers backlog v (rest ++ line_feed ∷ []) u told → IsBegun at new told
      → IsCutOff backlog v rest left at new
  in_flush : Keeps at new → IsCutOff backlog v rest left at new

-- what a fault leaves of the line in which it came
abbrev pub IsLeft : PipeFault → ℕ → WorldState → List ℕ → List ℕ → Option (List ℕ) → Option (List ℕ) → Type 0
IsLeft fault.Read backlog v rest left at new = new ≡ at
IsLeft fault.Write backlog v rest left at new = IsCutOff backlog v rest left at new
IsLeft fault.File backlog v rest left at new = ⊥
IsLeft fault.Stopped backlog v rest left at new = ⊥
IsLeft fault.Memory backlog v rest left at new = new ≡ at

-- The bytes were played as far as the front, and then a fault came.
pub record Breaks (backlog : ℕ) (w : WorldState) (read : List ℕ) (old : Option (List ℕ)) (why : PipeFault) (new : Option (List ℕ)) : Type 0 where
  pub front : List ℕ
  pub left : List ℕ
  pub are : read ≡ front ++ left
  pub world : WorldState
  pub rest : List ℕ
  pub at : Option (List ℕ)
  pub goes : Goes backlog w front old world rest at
  pub leaves : IsLeft why backlog world rest left at new

-- A script was played to the end of the input. What stands behind its last line feed is no line.
pub record Whole (backlog : ℕ) (before after old new : Option (List ℕ)) : Type 0 where
  pub read : List ℕ
  pub consumed : Consumes before after read
  pub at_end : IsAtEnd after
  pub world : WorldState
  pub rest : List ℕ
  pub goes : Goes backlog no_world read old world rest new

-- .. or to a fault.
pub record Broken (backlog : ℕ) (before after old : Option (List ℕ)) (why : PipeFault) (new : Option (List ℕ)) : Type 0 where
  pub read : List ℕ
  pub consumed : Consumes before after read
  pub breaks : Breaks backlog no_world read old why new

abbrev pub IsScript : ℕ → Option (List ℕ) → Option (List ℕ) → Option (List ℕ) → Option (List ℕ) → Result (Unit {0}) PipeFault → Type 0
IsScript backlog before after old new (Ok _) = Whole backlog before after old new
IsScript backlog before after old new (Err why) = Broken backlog before after old why new
