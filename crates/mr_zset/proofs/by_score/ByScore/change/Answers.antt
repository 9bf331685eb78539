use Rattle.std.proofs.Common.{◌≡◌, ◌∙◌, Some, ap, map, rules, arith, w64}
use Rattle.std.specs.Prelude.{filter}
use Rattle.std.specs.FinMap.{get, insert}
use Rattle.std.specs.BTreeSet.{insert_key}
use Rattle.std.proofs.lemmas.Grind.{common_steps}
use Rattle.std.proofs.lemmas.Int.{to_z-of_z}
use Rattle.mr_zset.specs.Pairs.{is_other, pair_cmp}
use Rattle.mr_zset.specs.Stored.{scores_of, stored}
use Rattle.mr_zset.proofs.ScanLemmas.{are_scores, are_stored}
use Rattle.mr_zset.proofs.StoredChanges.{AreStored-moved, pair_there}
use Rattle.mr_zset.proofs.by_score.ByScore.change.Goals as goal

pub invariant_of-self-2 : goal.invariant_of-self-2
invariant_of-self-2 c =
    let member = c.args.member.now in
    let copy = c.in_ok-member_copy.member_copy in
    let pairs = c.self.inside.pairs in
    let there : get (scores_of pairs) member ≡ Some c.args.before = ap (λ m. get m member) c.self.view_is ∙ c.requires.there in
    let put = c.in_ok-put_in.ensures.ok ∙ ap (λ z. insert_key pair_cmp (map stored pairs) (copy, z)) (to_z-of_z w64 c.args.score c.ranges.score) in
    let out : map stored c.take_out-taken.new.pairs ≡ filter (is_other (member, c.args.before)) (map stored c.put_in.new.pairs) = first_of (search rules, grind (arith, common_steps)) in
    are_stored _ c.take_out-taken.new.pairs (AreStored-moved (scores_of pairs) pairs c.self.invariant member copy c.args.score c.put_in.new.pairs c.in_ok-member_copy.ensures put
    c.args.before c.take_out-taken.new.pairs there c.requires.another c.requires.score out)

pub returns-clause-ok : goal.returns-clause-ok
returns-clause-ok c =
    let member = c.args.member.now in
    let copy = c.in_ok-member_copy.member_copy in
    let pairs = c.self.inside.pairs in
    let there : get (scores_of pairs) member ≡ Some c.args.before = ap (λ m. get m member) c.self.view_is ∙ c.requires.there in
    let put = c.in_ok-put_in.ensures.ok ∙ ap (λ z. insert_key pair_cmp (map stored pairs) (copy, z)) (to_z-of_z w64 c.args.score c.ranges.score) in
    let out : map stored c.take_out-taken.new.pairs ≡ filter (is_other (member, c.args.before)) (map stored c.put_in.new.pairs) = first_of (search rules, grind (arith, common_steps)) in
    are_scores _ c.take_out-taken.new.pairs (AreStored-moved (scores_of pairs) pairs c.self.invariant member copy c.args.score c.put_in.new.pairs c.in_ok-member_copy.ensures put
    c.args.before c.take_out-taken.new.pairs there c.requires.another c.requires.score out)
    ∙ ap (λ m. insert m member c.args.score) c.self.view_is

pub unreachable-requires : goal.unreachable-requires
unreachable-requires c =
    let member = c.args.member.now in
    let copy = c.in_ok-member_copy.member_copy in
    let pairs = c.self.inside.pairs in
    let there : get (scores_of pairs) member ≡ Some c.args.before = ap (λ m. get m member) c.self.view_is ∙ c.requires.there in
    let put = c.in_ok-put_in.ensures.ok ∙ ap (λ z. insert_key pair_cmp (map stored pairs) (copy, z)) (to_z-of_z w64 c.args.score c.ranges.score) in
    let out : map stored c.take_out-taken.new.pairs ≡ filter (is_other (member, c.args.before)) (map stored c.put_in.new.pairs) = first_of (search rules, grind (arith, common_steps)) in
    pair_there (scores_of pairs) pairs c.self.invariant member copy c.args.score c.put_in.new.pairs c.in_ok-member_copy.ensures put
    c.args.before c.take_out-taken.new.pairs there out c.in-None.ensures.answer
