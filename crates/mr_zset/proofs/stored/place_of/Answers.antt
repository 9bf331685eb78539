use Rattle.std.proofs.Common.{◌≡◌, ◌∙◌, map, subst, rules, to_z, of_z, w64}
use Rattle.std.specs.Prelude.{ℤ, IfSome, count_by}
use Rattle.mr_zset.specs.Pairs.{pair_lt, lent_pair}
use Rattle.mr_zset.specs.Stored.{stored}
use Rattle.mr_zset.proofs.StoredLemmas.{counted}
use Rattle.mr_zset.proofs.stored.place_of.Goals as goal

pub returns-in-Some-clause-count : goal.returns-in-Some-clause-count
returns-in-Some-clause-count c =
    let pair = lent_pair c.args.pair in
    let short = c.in-Some.short in
    let same : short ≡ pair.0 = subst (λ o. IfSome o (λ s. s ≡ pair.0)) c.in-Some.is c.of.ensures.same in
    let score : ℤ = to_z w64 (of_z w64 pair.1) in
    let fits : score ≡ pair.1 = search rules in
    counted stored (short, score) c.args.pairs.now c.place.result c.place.ensures.within c.place.ensures.place
    ∙ (λ i. count_by (λ p. pair_lt p (same i, fits i)) (map stored c.args.pairs.now))

pub returns-in-None-clause-count : goal.returns-in-None-clause-count
returns-in-None-clause-count c = counted stored (lent_pair c.args.pair) c.args.pairs.now c.place-in-None.result c.place-in-None.ensures.within c.place-in-None.ensures.place
