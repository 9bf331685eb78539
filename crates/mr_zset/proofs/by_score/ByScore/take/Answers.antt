use Rattle.std.proofs.Common.{◌≡◌, ◌∙◌, Some, ap, map, rules, arith}
use Rattle.std.specs.Prelude.{filter}
use Rattle.std.specs.FinMap.{get, remove}
use Rattle.std.proofs.lemmas.Grind.{common_steps}
use Rattle.mr_zset.specs.Pairs.{is_other}
use Rattle.mr_zset.specs.Stored.{scores_of, stored}
use Rattle.mr_zset.proofs.ScanLemmas.{are_scores, are_stored}
use Rattle.mr_zset.proofs.StoredChanges.{AreStored-removed}
use Rattle.mr_zset.proofs.by_score.ByScore.take.Goals as goal

pub invariant_of-self : goal.invariant_of-self
invariant_of-self c =
    let pairs = c.self.inside.pairs in
    let there : get (scores_of pairs) c.args.member.now ≡ Some c.args.score = ap (λ m. get m c.args.member.now) c.self.view_is ∙ c.requires in
    let out : map stored c.take_out.new.pairs ≡ filter (is_other (c.args.member.now, c.args.score)) (map stored pairs) = first_of (search rules, grind (arith, common_steps)) in
    are_stored _ c.take_out.new.pairs (AreStored-removed (scores_of pairs) pairs c.self.invariant c.args.member.now c.args.score c.take_out.new.pairs there out)

pub returns : goal.returns
returns c =
    let pairs = c.self.inside.pairs in
    let there : get (scores_of pairs) c.args.member.now ≡ Some c.args.score = ap (λ m. get m c.args.member.now) c.self.view_is ∙ c.requires in
    let out : map stored c.take_out.new.pairs ≡ filter (is_other (c.args.member.now, c.args.score)) (map stored pairs) = first_of (search rules, grind (arith, common_steps)) in
    are_scores _ c.take_out.new.pairs (AreStored-removed (scores_of pairs) pairs c.self.invariant c.args.member.now c.args.score c.take_out.new.pairs there out)
    ∙ ap (λ m. remove m c.args.member.now) c.self.view_is
