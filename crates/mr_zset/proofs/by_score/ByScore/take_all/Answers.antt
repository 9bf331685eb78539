use Rattle.std.proofs.Common.{map, length, sym, ap, ◌∙◌}
use Rattle.mr_map.specs.Bytes.{lent}
use Rattle.mr_zset.specs.Leaving.{without_scores, without_pairs}
use Rattle.mr_zset.specs.Pairs.{lent_pair}
use Rattle.mr_zset.specs.Stored.{stored}
use Rattle.mr_zset.proofs.LeavingLemmas.{besides_left, besides_stored}
use Rattle.mr_zset.proofs.ScanLemmas.{are_scores, are_stored}
use Rattle.mr_zset.proofs.by_score.ByScore.take_all.Goals as goal

pub take_out_all-requires : goal.take_out_all-requires
take_out_all-requires c =
    let left = c.forget_all-gone.new.pairs in
    besides_left c.forget_all-gone.result.items c.forget_all-gone.new.scores left c.forget_all-gone.ensures.left c.len.result c.len.ensures.len
    ∙ ap (λ gone. length (without_pairs (map lent_pair gone) (map stored left))) (sym c.deref.ensures.value)

pub invariant_of-self : goal.invariant_of-self
invariant_of-self c =
    let left = c.forget_all-gone.new.pairs in
    are_stored _ c.take_out_all.new.pairs (besides_stored c.forget_all-gone.result.items c.forget_all-gone.new.scores left c.forget_all-gone.ensures.left c.take_out_all.new.pairs
    (c.take_out_all.ensures ∙ ap (λ gone. without_pairs (map lent_pair gone) (map stored left)) c.deref.ensures.value))

pub returns-clause-taken : goal.returns-clause-taken
returns-clause-taken c =
    let left = c.forget_all-gone.new.pairs in
    are_scores _ c.take_out_all.new.pairs (besides_stored c.forget_all-gone.result.items c.forget_all-gone.new.scores left c.forget_all-gone.ensures.left c.take_out_all.new.pairs
    (c.take_out_all.ensures ∙ ap (λ gone. without_pairs (map lent_pair gone) (map stored left)) c.deref.ensures.value))
    ∙ c.forget_all-gone.ensures.scores ∙ ap (without_scores (lent c.args.members.now)) c.requires

pub returns-clause-names : goal.returns-clause-names
returns-clause-names c =
    let left = c.forget_all-gone.new.pairs in
    sym (are_scores _ c.take_out_all.new.pairs (besides_stored c.forget_all-gone.result.items c.forget_all-gone.new.scores left c.forget_all-gone.ensures.left c.take_out_all.new.pairs
    (c.take_out_all.ensures ∙ ap (λ gone. without_pairs (map lent_pair gone) (map stored left)) c.deref.ensures.value)))
