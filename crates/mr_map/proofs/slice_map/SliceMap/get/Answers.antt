use Rattle.std.proofs.Common.{sym, ◌∙◌, ap}
use Rattle.std.specs.FinMap.{get}
use Rattle.mr_map.specs.Bytes.{slice_of}
use Rattle.mr_map.proofs.Named.{get-map_of}
use Rattle.mr_map.proofs.slice_map.SliceMap.get.Goals as goal

pub returns : goal.returns
returns g c = c.get.ensures.value ∙ sym (get-map_of slice_of c.self.inside.tree.entries c.args.key.now) ∙ ap (λ m. get m c.args.key.now) c.self.view_is
