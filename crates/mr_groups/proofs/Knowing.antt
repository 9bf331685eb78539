-- What is known of the command text that comes next.
use Rattle.std.proofs.Common.{Result, Ok, Err, IfOk}
use Rattle.std.specs.declared.alloc.AllocError.{AllocError}
use Rattle.mr_resp.specs.Resumed.{KnowsNothing}
use Rattle.mr_resp.specs.declared.progress.CommandProgress.{CommandProgress}
use Rattle.mr_groups.specs.Parts.{IsKnownAfter}
use Rattle.mr_groups.specs.declared.part.Part.{Part}
use Rattle.mr_groups.specs.declared.part.Part.TheVariants as part

of_part : (progress : CommandProgress) (p : Part) → KnowsNothing progress → IsKnownAfter progress p
of_part progress (part.Begin used) fresh = fresh
of_part progress (part.End used) fresh = fresh
of_part progress (part.Effect used joins) fresh = fresh
of_part progress part.More fresh = tt
of_part progress part.Bad fresh = fresh

-- that nothing is known says all of any part
pub fresh_part : (progress : CommandProgress) (r : Result Part AllocError) → KnowsNothing progress → IfOk r (λ p. IsKnownAfter progress p)
fresh_part progress (Ok p) fresh = of_part progress p fresh
fresh_part progress (Err e) fresh = tt
