-- What is known of the text that comes next.
use Rattle.std.proofs.Common.{◌≡◌, ◌⊎◌, inl, inr, ℕ, List, [], ◌++◌, length, drop, sym, subst}
use Rattle.mr_resp.specs.Resumed.{AgreesCommand, KnowsNothing, MayAgree}
use Rattle.mr_resp.specs.Scans.{IsMore}
use Rattle.mr_resp.specs.declared.progress.CommandProgress.{CommandProgress}
use Rattle.mr_resp.specs.declared.request.Scan.{Scan}
use Rattle.mr_resp.proofs.Resuming.{fresh_command}
use Rattle.mr_groups.specs.Steps.{IsKnownAfter, IsKnownBehind}
use Rattle.mr_groups.specs.declared.replaying.Step.{Step}
use Rattle.mr_groups.specs.declared.replaying.Step.TheVariants as step
use Rattle.mr_groups.specs.declared.replaying.Halt.TheVariants as halt
use Rattle.mr_groups.proofs.Pieces.{rest_from, rest_is}

-- behind an answer other than that more is wanted nothing is known
pub spent_by : (progress : CommandProgress) (scan found : Scan) → scan ≡ found → (IsMore found → ⊥) → IsMore scan ⊎ KnowsNothing progress → KnowsNothing progress
spent_by progress scan found is never (inl more) = absurd (never (subst IsMore is more))
spent_by progress scan found is never (inr fresh) = fresh

-- .. which says all of any step
pub fresh_after : (progress : CommandProgress) (s : Step) → KnowsNothing progress → IsKnownAfter progress s
fresh_after progress (step.Done used) fresh = fresh
fresh_after progress step.Wait fresh = tt
fresh_after progress step.Stop fresh = fresh
fresh_after progress step.Lack fresh = tt
fresh_after progress step.Spent fresh = fresh

pub fresh_may : (progress : CommandProgress) (bytes : List ℕ) → KnowsNothing progress → MayAgree progress bytes
fresh_may progress bytes fresh = ([], fresh_command progress (bytes ++ []) fresh)

pub may_from : (progress : CommandProgress) (bytes : List ℕ) (used : ℕ) → MayAgree progress (drop used bytes) → MayAgree progress (rest_from used bytes)
may_from progress bytes used h = subst (MayAgree progress) (sym (rest_is used bytes)) h

pub known_from : (progress : CommandProgress) (bytes : List ℕ) (used : ℕ) → ((more : List ℕ) → AgreesCommand progress (rest_from used bytes ++ more)) → (more : List ℕ) → AgreesCommand progress (drop used bytes ++ more)
known_from progress bytes used h more = subst (λ (l : List ℕ). AgreesCommand progress (l ++ more)) (rest_is used bytes) (h more)

-- .. and of what a step left
pub known_as : (progress : CommandProgress) (s t : Step) → s ≡ t → IsKnownAfter progress s → IsKnownAfter progress t
known_as progress s t is h = subst (IsKnownAfter progress) is h
