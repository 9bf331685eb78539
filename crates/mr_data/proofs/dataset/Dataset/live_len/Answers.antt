use Rattle.std.proofs.Common.{◌∙◌, ap, to_z, of_z, w64, ℤ}
use Rattle.std.specs.FinMap.{len}
use Rattle.std.proofs.lemmas.Int.{to_z-of_z}
use Rattle.mr_data.specs.Dataset.{seen}
use Rattle.mr_data.proofs.LiveKeys.{come_within, live_is}
use Rattle.mr_data.proofs.dataset.Dataset.live_len.Goals as goal

pub overflow_sub-result : goal.overflow_sub-result
overflow_sub-result c = come_within _ c.args.self.now c.len.result c.count_come.result c.len.ensures.len c.count_come.ensures.count

pub returns-clause-len : goal.returns-clause-len
returns-clause-len c =
    live_is _ c.args.self.now c.len.result c.count_come.result c.len.ensures.len c.count_come.ensures.count
    ∙ ap (λ (n : ℤ). len (seen n c.args.self.now)) (to_z-of_z w64 c.args.now c.ranges.now)
