use Rattle.std.proofs.Common.{◌∙◌, ap, sym, map, take, reverse}
use Rattle.mr_zset.specs.Pairs.{pairs_of, lent_pair}
use Rattle.mr_zset_options.specs.declared.choices.Order.{Order}
use Rattle.mr_cmd_zset.specs.Scores.{pairs_in}
use Rattle.mr_cmd_zset.proofs.Firsts.{none_first, first_ones, last_ones, map_reverse, len_pairs, len_pairs_in}
use Rattle.mr_cmd_zset.proofs.removing.first_pairs.Goals as goal

pub returns-then-count-eq0 : goal.returns-then-count-eq0
returns-then-count-eq0 c =
    let s = c.args.set.now in
    ap (map lent_pair) c.new.ensures.items
    ∙ none_first (pairs_in c.args.order s) c.args.count c.min-count.result c.len-len.result (c.len-len.ensures.len ∙ len_pairs_in c.args.order s) c.min-count.ensures c.if-count-eq0.true

pub returns-in_ok-pairs-in-Ascending : goal.returns-in_ok-pairs-in-Ascending
returns-in_ok-pairs-in-Ascending c =
    let s = c.args.set.now in
    c.in_ok-pairs-in-Ascending.ensures
    ∙ first_ones (pairs_of s) c.args.count c.min-count.result c.len-len.result (c.len-len.ensures.len ∙ len_pairs s) c.min-count.ensures c.if-count-eq0.false
    ∙ ap (λ (o : Order). take c.args.count (pairs_in o s)) (sym c.in-Ascending.is)

pub returns-in_ok-pairs-in-Descending : goal.returns-in_ok-pairs-in-Descending
returns-in_ok-pairs-in-Descending c =
    let s = c.args.set.now in
    ap (map lent_pair) c.reverse.ensures.items ∙ map_reverse lent_pair c.in_ok-pairs-in-Descending.pairs.items
    ∙ ap reverse c.in_ok-pairs-in-Descending.ensures
    ∙ last_ones (pairs_of s) c.args.count c.min-count.result c.len-len.result (c.len-len.ensures.len ∙ len_pairs s) c.min-count.ensures c.if-count-eq0.false
    ∙ ap (λ (o : Order). take c.args.count (pairs_in o s)) (sym c.in-Descending.is)
