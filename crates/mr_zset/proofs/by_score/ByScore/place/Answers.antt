use Rattle.std.proofs.Common.{◌≡◌, ◌∙◌, ◌<◌, ◌^◌, sym, subst, map, rules, arith}
use Rattle.std.specs.Prelude.{count_by}
use Rattle.std.proofs.lemmas.Grind.{common_steps}
use Rattle.mr_zset.specs.Pairs.{pair_lt}
use Rattle.mr_zset.specs.Stored.{scores_of, stored}
use Rattle.mr_zset.proofs.StoredChanges.{count_stored, stored_len}
use Rattle.mr_zset.proofs.by_score.ByScore.place.Goals as goal

pub returns-clause-count : goal.returns-clause-count
returns-clause-count c =
    let counted : c.place_of.result ≡ count_by (λ p. pair_lt p (c.args.member.now, c.args.score)) (map stored c.self.inside.pairs) = first_of (search rules, grind (arith, common_steps)) in
    counted ∙ count_stored (scores_of c.self.inside.pairs) c.args.self.now c.self.inside.pairs (λ p. pair_lt p (c.args.member.now, c.args.score)) c.self.invariant c.self.view_is

pub returns-clause-steps : goal.returns-clause-steps
returns-clause-steps c = λ digits few. c.place_of.ensures.steps digits (subst (λ n. n < 2 ^ digits) (sym (stored_len (scores_of c.self.inside.pairs) c.args.self.now c.self.inside.pairs c.self.invariant c.self.view_is)) few)
