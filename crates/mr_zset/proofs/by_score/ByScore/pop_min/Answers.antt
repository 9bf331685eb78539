use Rattle.std.proofs.Common.{◌∙◌, ap}
use Rattle.std.specs.Prelude.{option_map, slice_get}
use Rattle.mr_zset.specs.Pairs.{pairs_of, without}
use Rattle.mr_zset.specs.Stored.{scores_of, stored}
use Rattle.mr_zset.proofs.ScanLemmas.{are_scores, are_stored}
use Rattle.mr_zset.proofs.StoredChanges.{AreStored-first, first_pair}
use Rattle.mr_zset.proofs.by_score.ByScore.pop_min.Goals as goal

pub invariant_of-self : goal.invariant_of-self
invariant_of-self c =
    let pairs = c.self.inside.pairs in
    let left = c.drop_first.new.pairs in
    are_stored _ left (AreStored-first (scores_of pairs) pairs c.self.invariant left (slice_get pairs 0) c.in_ok-popped.popped c.drop_first.ensures (c.in_ok-popped.ensures ∙ ap (option_map stored) c.first.ensures))

pub returns-clause-ok : goal.returns-clause-ok
returns-clause-ok c =
    let pairs = c.self.inside.pairs in
    let left = c.drop_first.new.pairs in
    are_scores _ left (AreStored-first (scores_of pairs) pairs c.self.invariant left (slice_get pairs 0) c.in_ok-popped.popped c.drop_first.ensures (c.in_ok-popped.ensures ∙ ap (option_map stored) c.first.ensures))
    ∙ ap (without c.in_ok-popped.popped) c.self.view_is

pub returns-clause-popped : goal.returns-clause-popped
returns-clause-popped c =
    let pairs = c.self.inside.pairs in
    c.in_ok-popped.ensures ∙ ap (option_map stored) c.first.ensures ∙ first_pair (scores_of pairs) pairs c.self.invariant ∙ ap (λ m. slice_get (pairs_of m) 0) c.self.view_is
