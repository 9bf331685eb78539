use Rattle.std.proofs.Common.{rules, ap, map, ◌≡◌, ◌-◌, length, arith, ◌∙◌}
use Rattle.mr_zset.specs.Leaving.{HaveRange}
use Rattle.mr_zset.specs.Stored.{stored}
use Rattle.mr_zset.proofs.LeavingLemmas.{range_goes}
use Rattle.mr_zset.proofs.leaving.take_out_all.Goals as goal

pub returns-then-len-past : goal.returns-then-len-past
returns-then-len-past c =
    let range : HaveRange c.args.gone.now c.args.pairs.now c.in-Some.first c.in-Some.past = search rules in
    let count : length c.args.pairs.now - (c.in-Some.past - c.in-Some.first) ≡ c.args.left = omega (arith, c.len.ensures.len, c.if-len-past.true) in
    ap (map stored) c.remove_range.ensures ∙ range_goes c.args.gone.now c.args.pairs.now c.in-Some.first c.in-Some.past c.args.left range c.requires count
