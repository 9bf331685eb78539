use Rattle.std.proofs.Common.{List, ℤ, ap, ◌∙◌, map, w64}
use Rattle.std.proofs.lemmas.Int.{to_z-of_z}
use Rattle.mr_keyspace.specs.TimedKeys.{count_come, dated}
use Rattle.mr_keyspace.specs.declared.timed_key.TimedKey.{TimedKey}
use Rattle.mr_keyspace.proofs.TimedLists.{counted}
use Rattle.mr_keyspace.proofs.deadlines.Deadlines.count_come.Goals as goal

pub returns-clause-count : goal.returns-clause-count
returns-clause-count c =
    counted _ c.self.inside.in_order c.count_below.result c.count_below.ensures.within c.count_below.ensures.place
    ∙ ap (λ (n : ℤ). count_come n (map dated c.self.inside.in_order)) (to_z-of_z w64 c.args.now c.ranges.now)
    ∙ ap (λ (z : List TimedKey). count_come c.args.now (map dated z)) c.self.view_is
