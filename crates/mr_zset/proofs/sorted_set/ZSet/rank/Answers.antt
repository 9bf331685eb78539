use Rattle.std.proofs.Common.{◌≡◌, Some, rules, arith}
use Rattle.std.proofs.lemmas.Grind.{common_steps}
use Rattle.mr_zset.specs.Pairs.{rank_of}
use Rattle.mr_zset.proofs.PairLemmas.{place-rank_of, within-rank_of}
use Rattle.mr_zset.proofs.sorted_set.ZSet.rank.Goals as goal

pub returns-clause-place : goal.returns-clause-place
returns-clause-place c =
    let counted : Some c.place.result ≡ rank_of c.args.self.now c.args.member.now = first_of (search rules, grind (arith, common_steps)) in
    place-rank_of c.args.self.now c.args.member.now c.place.result counted

pub returns-clause-within : goal.returns-clause-within
returns-clause-within c =
    let counted : Some c.place.result ≡ rank_of c.args.self.now c.args.member.now = first_of (search rules, grind (arith, common_steps)) in
    within-rank_of c.args.self.now c.args.member.now c.place.result counted
