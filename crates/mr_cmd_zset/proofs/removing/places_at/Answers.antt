use Rattle.std.proofs.Common.{ap, sym}
use Rattle.std.specs.FinMap.{len}
use Rattle.mr_bytes.specs.Window.{windowed}
use Rattle.mr_zset.specs.Pairs.{pairs_of}
use Rattle.mr_cmd_zset.proofs.Removals.{found}
use Rattle.mr_cmd_zset.proofs.removing.places_at.Goals as goal

pub returns-in-Some-clause-range : goal.returns-in-Some-clause-range
returns-in-Some-clause-range c =
    let set = c.args.set.now in
    ap (λ w. windowed w (pairs_of set)) (sym (found c.args.first c.args.last c.len.result (len set) _ c.ranges.first c.ranges.last c.len.ensures.len c.in-Some.ensures.places))

pub returns-in-None-clause-range : goal.returns-in-None-clause-range
returns-in-None-clause-range c =
    let set = c.args.set.now in
    ap (λ w. windowed w (pairs_of set)) (sym (found c.args.first c.args.last c.len.result (len set) _ c.ranges.first c.ranges.last c.len.ensures.len c.in-None.ensures.places))
