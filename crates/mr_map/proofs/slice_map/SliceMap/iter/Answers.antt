use Rattle.std.proofs.Common.{◌∙◌, ap, sym}
use Rattle.std.specs.FinMap.{entries}
use Rattle.mr_map.specs.Bytes.{named_by, slice_of}
use Rattle.mr_map.proofs.Named.{entries-map_of}
use Rattle.mr_map.proofs.slice_map.SliceMap.iter.Goals as goal

pub returns : goal.returns
returns g c = c.«new».ensures ∙ ap (named_by slice_of) c.iter.ensures.rest ∙ sym (entries-map_of slice_of c.self.inside.tree.entries c.iter.ensures.ordered) ∙ ap entries c.self.view_is
