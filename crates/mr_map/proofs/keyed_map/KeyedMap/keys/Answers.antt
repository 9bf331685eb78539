use Rattle.std.proofs.Common.{◌∙◌, ap}
use Rattle.std.specs.FinMap.{keys}
use Rattle.mr_map.proofs.Domains.{same_keys}
use Rattle.mr_map.proofs.keyed_map.KeyedMap.keys.Goals as goal

pub returns : goal.returns
returns g c = c.keys.ensures ∙ same_keys c.self.inside.order c.self.inside.tables c.self.invariant ∙ ap keys c.self.view_is
