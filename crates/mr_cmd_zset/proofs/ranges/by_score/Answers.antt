use Rattle.std.proofs.Common.{◌≡◌, ◌∙◌, ◌-◌, ◌≤◌, sym, ap, map, length, arith}
use Rattle.std.specs.Prelude.{slice_range}
use Rattle.mr_zset.specs.Pairs.{pairs_of, range_of, lent_pair}
use Rattle.mr_zset.proofs.PairLemmas.{if_ok}
use Rattle.mr_zset.proofs.StoredChanges.{range_len}
use Rattle.mr_cmd_zset.specs.Ranges.{ordered, pairs_reply}
use Rattle.mr_cmd_zset.proofs.RangeLemmas.{part_of_part, scored_part}
use Rattle.mr_cmd_zset.proofs.ranges.by_score.Goals as goal

pub returns : goal.returns
returns c =
    let set = c.args.set.now in
    let found = range_of c.args.range.min c.args.range.max set in
    let first = c.places-first.result.0 in
    let past = c.places-first.result.1 in
    let start = c.places_in-start.result.0 in
    let end = c.places_in-start.result.1 in
    let count : past - first ≡ length found = range_len set found first past c.places-first.ensures.ordered c.places-first.ensures.within c.places-first.ensures.range in
    let up : start ≤ end = omega (arith, c.places_in-start.ensures.as_many) in
    let part = part_of_part (pairs_of set) first past start end up c.places_in-start.ensures.within ∙ ap (λ ps. slice_range ps start end) (sym c.places-first.ensures.range) in
    if_ok c.listed.result (λ r listed.
    listed
    ∙ ap (λ ps. pairs_reply c.args.shape (ordered c.args.range.order ps)) (ap (map lent_pair) c.as_slice.ensures.value ∙ c.in_ok-pairs.ensures ∙ part)
    ∙ ap (pairs_reply c.args.shape) (scored_part c.args.range.limit c.args.range.order found (past - first) start end c.limited_places-start.result.0 c.limited_places-start.result.1 (sym count) c.places_in-start.ensures.same c.limited_places-start.ensures.same)) c.listed.ensures
