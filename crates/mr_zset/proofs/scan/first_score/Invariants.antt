use Rattle.std.proofs.Common.{◌≡◌, map}
use Rattle.std.specs.Map.{lookup}
use Rattle.std.specs.Ordering.{is_eq}
use Rattle.mr_zset.specs.Stored.{stored}
use Rattle.mr_zset.proofs.scan.first_score.Given as goal

-- what is found among those that are left is what is found at all
abbrev pub invariant-loop-entry : goal.invariant-loop-entry
invariant-loop-entry g l = lookup (λ k. is_eq (g.Q.Query.compare l.member k)) (map stored l.entry-iterator) ≡ lookup (λ k. is_eq (g.Q.Query.compare l.member k)) (map stored l.pairs)
