use Rattle.std.proofs.Common.{◌≡◌, ◌++◌, List, ℕ, map, length}
use Rattle.std.specs.Cow.{cow_slice_items}
use Rattle.std.specs.Option.{option_map}
use Rattle.mr_effect.specs.Reading.{pairs_of}
use Rattle.mr_effect.proofs.reading.pairs_of.Given as goal

abbrev pub invariant-loop-rest : goal.invariant-loop-rest
invariant-loop-rest l = pairs_of (map cow_slice_items l.words) ≡ option_map (λ (qs : List (List ℕ × List ℕ)). l.pairs ++ qs) (pairs_of (map cow_slice_items l.rest))

abbrev pub decreases-loop-rest : goal.decreases-loop-rest
decreases-loop-rest l = length l.rest
