use Rattle.std.proofs.Common.{◌≡◌, ◌∙◌, None, ap, map, w64}
use Rattle.std.specs.FinMap.{get, insert}
use Rattle.std.specs.BTreeSet.{insert_key}
use Rattle.std.proofs.lemmas.Int.{to_z-of_z}
use Rattle.mr_zset.specs.Pairs.{pair_cmp}
use Rattle.mr_zset.specs.Stored.{scores_of, stored}
use Rattle.mr_zset.proofs.ScanLemmas.{are_scores, are_stored}
use Rattle.mr_zset.proofs.StoredChanges.{AreStored-added}
use Rattle.mr_zset.proofs.by_score.ByScore.add.Goals as goal

pub invariant_of-self-2 : goal.invariant_of-self-2
invariant_of-self-2 c =
    let member = c.args.member.now in
    let copy = c.in_ok-member_copy.member_copy in
    let pairs = c.self.inside.pairs in
    let absent : get (scores_of pairs) member ≡ None = ap (λ m. get m member) c.self.view_is ∙ c.requires.absent in
    let put = c.in_ok-put_in.ensures.ok ∙ ap (λ z. insert_key pair_cmp (map stored pairs) (copy, z)) (to_z-of_z w64 c.args.score c.ranges.score) in
    are_stored _ c.put_in.new.pairs (AreStored-added (scores_of pairs) pairs c.self.invariant member copy c.args.score c.put_in.new.pairs c.in_ok-member_copy.ensures put absent c.requires.score)

pub returns-clause-ok : goal.returns-clause-ok
returns-clause-ok c =
    let member = c.args.member.now in
    let copy = c.in_ok-member_copy.member_copy in
    let pairs = c.self.inside.pairs in
    let absent : get (scores_of pairs) member ≡ None = ap (λ m. get m member) c.self.view_is ∙ c.requires.absent in
    let put = c.in_ok-put_in.ensures.ok ∙ ap (λ z. insert_key pair_cmp (map stored pairs) (copy, z)) (to_z-of_z w64 c.args.score c.ranges.score) in
    are_scores _ c.put_in.new.pairs (AreStored-added (scores_of pairs) pairs c.self.invariant member copy c.args.score c.put_in.new.pairs c.in_ok-member_copy.ensures put absent c.requires.score)
    ∙ ap (λ m. insert m member c.args.score) c.self.view_is
