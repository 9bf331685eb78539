-- What a line of a script comes to, in every outcome.
use Rattle.std.specs.Prelude.{◌≡◌, ◌⊎◌, ℕ, List, [], ◌++◌, slice_get}
use Rattle.mr_world_script.specs.Answers.{answer_line}
use Rattle.mr_world_script.specs.Lines.{LineSays}
use Rattle.mr_world_script.specs.Said.{Said, nothing, shows, gets}
use Rattle.mr_world_script.specs.declared.answer.ScriptAnswer.{ScriptAnswer}
use Rattle.mr_world_script.specs.declared.answer.ScriptAnswer.TheVariants.{Bad}
use Rattle.law_refinement.specs.State.{WorldState}
use Rattle.mr_world.specs.declared.event.Event.{Event}
use Rattle.mr_world_player.specs.Asking.{IsEvent}
use Rattle.mr_world_player.specs.Telling.{Happens, got_at, shown_at}

-- What is said is played: the World behind it, and the answer.
pub data Plays (backlog : ℕ) (w : WorldState) (said : Said) (v : WorldState) (answer : ScriptAnswer) : Type 0 where
  happens : (e : Event) → IsEvent backlog w said e → Happens w e v answer → Plays backlog w said v answer
  shown : (n : ℕ) → said ≡ shows n → v ≡ w → answer ≡ shown_at n (slice_get w.slots n) → Plays backlog w said v answer
  got : (l : ℕ) → said ≡ gets l → v ≡ w → got_at (slice_get w.links l) answer → Plays backlog w said v answer

-- A line of a script is played: the World behind it, and what is written in answer.
pub data Answers (backlog : ℕ) (w : WorldState) (text : List ℕ) (v : WorldState) (told : List ℕ) : Type 0 where
  blank : LineSays text nothing → v ≡ w → told ≡ [] → Answers backlog w text v told
  bad : ((said : Said) → LineSays text said → ⊥) → v ≡ w → told ≡ answer_line Bad → Answers backlog w text v told
  plays : (said : Said) → LineSays text said → (answer : ScriptAnswer) → Plays backlog w said v answer → told ≡ answer_line answer → Answers backlog w text v told

-- .. behind what was written before
pub record Adds (backlog : ℕ) (w : WorldState) (text : List ℕ) (v : WorldState) (old new : List ℕ) : Type 0 where
  pub told : List ℕ
  pub answers : Answers backlog w text v told
  pub is : new ≡ old ++ told

-- Memory was lacking: nothing is written, and the World is as before the line, or as behind it.
pub record Lacks (backlog : ℕ) (w : WorldState) (text : List ℕ) (v : WorldState) (old new : List ℕ) : Type 0 where
  pub kept : new ≡ old
  pub world : (v ≡ w) ⊎ ((told : List ℕ) × Answers backlog w text v told)
