use Rattle.std.proofs.Common.{◌∙◌, ◌-◌, length, ap}
use Rattle.std.specs.Prelude.{option_map, slice_get}
use Rattle.mr_zset.specs.Pairs.{pairs_of, without}
use Rattle.mr_zset.specs.Stored.{scores_of, stored}
use Rattle.mr_zset.proofs.ScanLemmas.{are_scores, are_stored}
use Rattle.mr_zset.proofs.StoredChanges.{AreStored-last, last_pair}
use Rattle.mr_zset.proofs.by_score.ByScore.pop_max.Goals as goal

pub invariant_of-self : goal.invariant_of-self
invariant_of-self c =
    let pairs = c.self.inside.pairs in
    let left = c.drop_last.new.pairs in
    are_stored _ left (AreStored-last (scores_of pairs) pairs c.self.invariant left (slice_get pairs (length pairs - 1)) c.in_ok-popped.popped c.drop_last.ensures (c.in_ok-popped.ensures ∙ ap (option_map stored) c.last.ensures))

pub returns-clause-ok : goal.returns-clause-ok
returns-clause-ok c =
    let pairs = c.self.inside.pairs in
    let left = c.drop_last.new.pairs in
    are_scores _ left (AreStored-last (scores_of pairs) pairs c.self.invariant left (slice_get pairs (length pairs - 1)) c.in_ok-popped.popped c.drop_last.ensures (c.in_ok-popped.ensures ∙ ap (option_map stored) c.last.ensures))
    ∙ ap (without c.in_ok-popped.popped) c.self.view_is

pub returns-clause-popped : goal.returns-clause-popped
returns-clause-popped c =
    let pairs = c.self.inside.pairs in
    c.in_ok-popped.ensures ∙ ap (option_map stored) c.last.ensures
    ∙ last_pair (scores_of pairs) pairs c.drop_last.new.pairs (slice_get pairs (length pairs - 1)) c.self.invariant c.drop_last.ensures
    ∙ ap (λ m. slice_get (pairs_of m) (length (pairs_of m) - 1)) c.self.view_is
