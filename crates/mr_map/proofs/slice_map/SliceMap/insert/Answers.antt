use Rattle.std.proofs.Common.{sym, ◌∙◌, ap}
use Rattle.std.specs.FinMap.{get, insert}
use Rattle.mr_map.specs.Bytes.{slice_of}
use Rattle.mr_map.proofs.Named.{get-map_of, set_named}
use Rattle.mr_map.proofs.slice_map.SliceMap.insert.Goals as goal

pub returns-clause-before : goal.returns-clause-before
returns-clause-before g c = c.in_ok-insert.ensures.old ∙ sym (get-map_of slice_of c.self.inside.tree.entries c.args.key.now) ∙ ap (λ m. get m c.args.key.now) c.self.view_is

pub returns-clause-ok : goal.returns-clause-ok
returns-clause-ok g c = set_named slice_of c.self.inside.tree c.insert.new.self c.args.key.now c.args.value c.in_ok-insert.ensures.updates ∙ ap (λ m. insert m c.args.key.now c.args.value) c.self.view_is
