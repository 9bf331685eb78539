use Rattle.std.specs.FinMap.{keys}
use Rattle.mr_value.proofs.SetLemmas.{first_from}
use Rattle.mr_value.proofs.set_value.SetValue.nth.Goals as goal

pub returns : goal.returns
returns c = first_from (keys c.args.self.now) c.args.place _ _ c.next.result c.members_from.ensures c.next.ensures.steps
