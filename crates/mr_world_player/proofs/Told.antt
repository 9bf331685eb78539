-- A line that was played, and its answer.
use Rattle.std.proofs.Common.{◌≡◌, ℕ, List, ◌++◌, Result, Ok, Err, refl, inr}
use Rattle.std.specs.Prelude.{OnOk, OnErr}
use Rattle.mr_world_script.specs.Answers.{answer_line}
use Rattle.mr_world_script.specs.Lines.{LineSays}
use Rattle.mr_world_script.specs.Said.{Said}
use Rattle.mr_world_script.specs.declared.answer.ScriptAnswer.{ScriptAnswer}
use Rattle.law_refinement.specs.State.{WorldState}
use Rattle.mr_world_player.specs.Playing.{Adds, Answers, Lacks, Plays}

module _ (size : ℕ) (w : WorldState) (text : List ℕ) (v : WorldState) (old new : List ℕ) (said : Said) (answer : ScriptAnswer) (says : LineSays text said) (plays : Plays size w said v answer) where
  answers : Answers size w text v (answer_line answer)
  answers = Answers.plays said says answer plays refl

  pub told_ok : {E : Type 0} (r : Result (Unit {0}) E) → OnOk r (new ≡ old ++ answer_line answer) → OnOk r (Adds size w text v old new)
  told_ok (Ok u) e = record { told = answer_line answer; answers = answers; is = e }
  told_ok (Err f) e = tt

  pub told_err : {E : Type 0} (r : Result (Unit {0}) E) → OnErr r (new ≡ old) → OnErr r (Lacks size w text v old new)
  told_err (Ok u) e = tt
  told_err (Err f) e = record { kept = e; world = inr (answer_line answer, answers) }
