-- What a walk over a set's members is still to give.
use Rattle.std.specs.Prelude.{ℕ, ℤ, List, []}
use Rattle.mr_zset.specs.declared.member_scores.Walk.{Walk}
use Rattle.mr_zset.specs.declared.member_scores.Walk.TheVariants.{Nobody, Few, Named}

-- the members with their scores that are still to come
abbrev pub left_of : Walk → List (List ℕ × ℤ)
left_of Nobody = []
left_of (Few ps) = ps
left_of (Named ps) = ps
