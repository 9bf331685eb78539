use Rattle.std.proofs.Common.{subst}
use Rattle.mr_trio_script.specs.Inputs.{EndsAs}
use Rattle.mr_trio_script.proofs.Feeds.{took}
use Rattle.mr_trio_script.proofs.taking.next_line.Goals as goal

pub returns-in-Ok-clause-took : goal.returns-in-Ok-clause-took
returns-in-Ok-clause-took g c =
    let ends = subst (EndsAs c.ended.result) c.deref.ensures.value c.ended.ensures in
    took c.ended.result c.clear.new.self.items _ _ _ c.clear.ensures.items ends c.in-Ok.ensures.stops c.in-Ok.ensures.none_lost c.in-Ok.ensures.bytes c.in-Ok.ensures.rest
