-- What stands on a stage while a script is read.
use Rattle.std.specs.Prelude.{◌≡◌, ℕ, List, [], Option, Bool, true, false, Result, Ok, Err}
use Rattle.std.specs.Io.KnownBytes.{Appends, Consumes, IsAtEnd}
use Rattle.mr_file.specs.Outputs.{IsBegun}
use Rattle.mr_pipe.specs.declared.fault.PipeFault.{PipeFault}
use Rattle.mr_pipe.specs.declared.fault.PipeFault.TheVariants as fault
use Rattle.law_refinement.specs.State.{WorldState}
use Rattle.mr_world_player.specs.Playing.{Answers}
use Rattle.mr_world_player.specs.Scripts.{Breaks, Goes}
use Rattle.mr_world_player.specs.declared.stage.Stage.{Stage}

-- This World, whose nodes start with this backlog, and these bytes of a line.
pub record IsOnStage (size : ℕ) (w : WorldState) (text : List ℕ) (s : Stage) : Type 0 where
  pub backlog : s.backlog ≡ size
  pub world : s.world ≡ w
  pub line : s.line.items ≡ text

-- the line was played and answered, and the next begins
pub record AnswersAll (backlog : ℕ) (w : WorldState) (text : List ℕ) (old : Option (List ℕ)) (s : Stage) (new : Option (List ℕ)) : Type 0 where
  pub world : WorldState
  pub told : List ℕ
  pub answers : Answers backlog w text world told
  pub stands : IsOnStage backlog world [] s
  pub written : Appends old new told

-- .. and a beginning of its answer was written
pub record AnswersInPart (backlog : ℕ) (w : WorldState) (text : List ℕ) (old new : Option (List ℕ)) : Type 0 where
  pub world : WorldState
  pub told : List ℕ
  pub answers : Answers backlog w text world told
  pub written : IsBegun old new told

abbrev pub AnswersNext : ℕ → WorldState → List ℕ → Option (List ℕ) → Stage → Option (List ℕ) → Result (Unit {0}) PipeFault → Type 0
AnswersNext backlog w text old s new (Ok _) = AnswersAll backlog w text old s new
AnswersNext backlog w text old s new (Err fault.Read) = ⊥
AnswersNext backlog w text old s new (Err fault.Write) = AnswersInPart backlog w text old new
AnswersNext backlog w text old s new (Err fault.File) = ⊥
AnswersNext backlog w text old s new (Err fault.Stopped) = ⊥
AnswersNext backlog w text old s new (Err fault.Memory) = new ≡ old

-- All these bytes were played, and the stage is as they leave it.
pub record Going (backlog : ℕ) (w : WorldState) (read : List ℕ) (old : Option (List ℕ)) (s : Stage) (new : Option (List ℕ)) : Type 0 where
  pub world : WorldState
  pub rest : List ℕ
  pub stands : IsOnStage backlog world rest s
  pub goes : Goes backlog w read old world rest new

abbrev pub GoesOn : ℕ → WorldState → List ℕ → Option (List ℕ) → Stage → Option (List ℕ) → Result (Unit {0}) PipeFault → Type 0
GoesOn backlog w read old s new (Ok _) = Going backlog w read old s new
GoesOn backlog w read old s new (Err why) = Breaks backlog w read old why new

-- Bytes were read and played.
pub record Reads (backlog : ℕ) (w : WorldState) (before after old : Option (List ℕ)) (s : Stage) (new : Option (List ℕ)) : Type 0 where
  pub read : List ℕ
  pub consumed : Consumes before after read
  pub going : Going backlog w read old s new

-- .. to the end
pub record ReadsAll (backlog : ℕ) (w : WorldState) (before after old : Option (List ℕ)) (s : Stage) (new : Option (List ℕ)) : Type 0 where
  pub all : Reads backlog w before after old s new
  pub at_end : IsAtEnd after

-- .. until a fault came
pub record ReadsPart (backlog : ℕ) (w : WorldState) (before after old : Option (List ℕ)) (why : PipeFault) (new : Option (List ℕ)) : Type 0 where
  pub read : List ℕ
  pub consumed : Consumes before after read
  pub breaks : Breaks backlog w read old why new

-- what a read comes to; whether the input goes on
abbrev pub IsRound : ℕ → WorldState → Option (List ℕ) → Option (List ℕ) → Option (List ℕ) → Stage → Option (List ℕ) → Result Bool PipeFault → Type 0
IsRound backlog w before after old s new (Ok true) = Reads backlog w before after old s new
IsRound backlog w before after old s new (Ok false) = ReadsAll backlog w before after old s new
IsRound backlog w before after old s new (Err why) = ReadsPart backlog w before after old why new
