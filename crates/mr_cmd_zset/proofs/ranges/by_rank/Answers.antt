use Rattle.std.proofs.Common.{◌≡◌, ◌∙◌, ◌+◌, ◌-◌, ◌≤◌, sym, ap, map, Some, rules, arith}
use Rattle.std.specs.Prelude.{slice_range}
use Rattle.std.specs.FinMap.{len}
use Rattle.mr_bytes.specs.Window.{window_of}
use Rattle.mr_zset.specs.Pairs.{pairs_of, lent_pair}
use Rattle.mr_zset.proofs.PairLemmas.{if_ok, length-pairs_of}
use Rattle.mr_cmd_zset.specs.Ranges.{ordered, pairs_reply}
use Rattle.mr_cmd_zset.proofs.RangeLemmas.{ranked_part}
use Rattle.mr_cmd_zset.proofs.ranges.by_rank.Goals as goal

pub returns : goal.returns
returns c =
    let set = c.args.set.now in
    let start = c.places_in-start.result.0 in
    let end = c.places_in-start.result.1 in
    let up : c.in-Some.first ≤ c.in-Some.last = search rules in
    let past : (end - 1) + 1 ≡ end = omega arith in
    let places : Some (c.in-Some.first, c.in-Some.last) ≡ window_of c.args.range.first c.args.range.last (len set) = search rules in
    if_ok c.listed.result (λ r listed.
    listed
    ∙ ap (λ ps. pairs_reply c.args.shape (ordered c.args.range.order ps)) (ap (map lent_pair) c.as_slice.ensures.value ∙ c.in_ok-pairs.ensures ∙ ap (slice_range (pairs_of set) start) past)
    ∙ ap (pairs_reply c.args.shape) (ranked_part c.args.range.first c.args.range.last c.args.range.order set c.in-Some.first c.in-Some.last start end places (c.places_in-start.ensures.same (pairs_of set) (length-pairs_of set ∙ sym c.len-2.ensures.len)))) c.listed.ensures
