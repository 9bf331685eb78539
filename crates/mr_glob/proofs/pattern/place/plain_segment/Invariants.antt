use Rattle.std.proofs.Common.{ℕ, ◌<◌}
use Rattle.std.specs.Prelude.{slice_index}
use Rattle.mr_glob.specs.GlobWords.{IsPlain}
use Rattle.mr_glob.proofs.pattern.place.plain_segment.Given as goal

abbrev pub invariant-loop-place : goal.invariant-loop-place
invariant-loop-place l = (k : ℕ) → k < l.place → IsPlain (slice_index l.pattern k)
