use Rattle.std.proofs.Common.{◌≡◌, ◌++◌, List, ℕ, ℤ, map, length}
use Rattle.std.specs.Cow.{cow_slice_items}
use Rattle.std.specs.Option.{option_map}
use Rattle.mr_effect.specs.Reading.{scores_of}
use Rattle.mr_effect.proofs.reading.scores_of.Given as goal

abbrev pub invariant-loop-rest : goal.invariant-loop-rest
invariant-loop-rest l = scores_of (map cow_slice_items l.words) ≡ option_map (λ (qs : List (List ℕ × ℤ)). l.scores ++ qs) (scores_of (map cow_slice_items l.rest))

abbrev pub decreases-loop-rest : goal.decreases-loop-rest
decreases-loop-rest l = length l.rest
