use Rattle.std.proofs.Common.{rules, w64, FitsSigned}
use Rattle.std.proofs.lemmas.Int.{to_z-of_z}
use Rattle.mr_cmd_zset.proofs.RangeLemmas.{rest_limited, some_limited}
use Rattle.mr_cmd_zset.proofs.ranges.limited_places.Goals as goal

pub returns-then-limit-lt0-2-clause-same : goal.returns-then-limit-lt0-2-clause-same
returns-then-limit-lt0-2-clause-same c pairs long =
    let limit = c.in-Some.limit in
    let offset : FitsSigned w64 limit.offset = search rules in
    let count : FitsSigned w64 limit.count = search rules in
    rest_limited c.args.limit limit _ _ pairs c.args.count c.min-start.result c.in-Some.is (to_z-of_z w64 limit.offset offset) (to_z-of_z w64 limit.count count) long
    c.if-limit-lt0.false c.min-start.ensures c.if-limit-lt0-2.true

pub returns-clause-same : goal.returns-clause-same
returns-clause-same c pairs long =
    let limit = c.in-Some.limit in
    let offset : FitsSigned w64 limit.offset = search rules in
    let count : FitsSigned w64 limit.count = search rules in
    some_limited c.args.limit limit _ _ pairs c.args.count c.min-start.result c.min.result c.in-Some.is (to_z-of_z w64 limit.offset offset) (to_z-of_z w64 limit.count count) long
    c.if-limit-lt0.false c.min-start.ensures c.if-limit-lt0-2.false c.min.ensures
