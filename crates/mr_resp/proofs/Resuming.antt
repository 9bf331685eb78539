-- What is known of the front of an input lasts.
use Rattle.std.proofs.Common.{◌≡◌, ℕ, ◌≤◌, List, ◌++◌, length, arith}
use Rattle.mr_inline.proofs.MeasureSteps.{agrees-append}
use Rattle.mr_inline.specs.Limits.{line_limit}
use Rattle.mr_resp.specs.Resumed.{AgreesArray, Agrees, AgreesCommand, IsFresh, KnowsNothing}
use Rattle.mr_resp.specs.Usual.{commands}
use Rattle.mr_resp.specs.declared.limits.Limits.{Limits}
use Rattle.mr_resp.specs.declared.progress.CommandProgress.{CommandProgress}
use Rattle.mr_resp.specs.declared.progress.Progress.{Progress}
use Rattle.mr_resp.specs.declared.scan.ArrayProgress.{ArrayProgress}
use Rattle.mr_resp.proofs.Requests.{front_grows, front_shrinks}

pub array_more : (limits : Limits) (progress : ArrayProgress) (input more : List ℕ) → AgreesArray limits progress input → AgreesArray limits progress (input ++ more)
array_more limits progress input more a = record { front = λ known. front_grows limits input more progress.count progress.first progress.left progress.at (a.front known) }

-- .. also of a beginning that it doesn't go past
pub array_less : (limits : Limits) (progress : ArrayProgress) (input more : List ℕ) → progress.at ≤ length input → AgreesArray limits progress (input ++ more) → AgreesArray limits progress input
array_less limits progress input more inside a = record { front = λ known. front_shrinks limits input more progress.count progress.first progress.left progress.at inside (a.front known) }

pub fresh_array : (limits : Limits) (progress : ArrayProgress) (input : List ℕ) → progress.at ≡ 0 → AgreesArray limits progress input
fresh_array limits progress input fresh = record { front = λ known. absurd (omega (arith, fresh, known)) }

pub fresh_agrees : (limits : Limits) (progress : Progress) (input : List ℕ) → IsFresh progress → Agrees limits progress input
fresh_agrees limits progress input fresh = record {
  array = fresh_array limits progress.array input fresh.array;
  line = fresh.line line_limit input;
}

pub agrees_more : (limits : Limits) (progress : Progress) (input more : List ℕ) → Agrees limits progress input → Agrees limits progress (input ++ more)
agrees_more limits progress input more a = record {
  array = array_more limits progress.array input more a.array;
  line = agrees-append line_limit input more progress.line a.line;
}

pub fresh_command : (progress : CommandProgress) (input : List ℕ) → KnowsNothing progress → AgreesCommand progress input
fresh_command progress input fresh = fresh_array commands progress.array input fresh

pub command_more : (progress : CommandProgress) (input more : List ℕ) → AgreesCommand progress input → AgreesCommand progress (input ++ more)
command_more progress input more a = array_more commands progress.array input more a
