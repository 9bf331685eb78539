use Rattle.std.proofs.Common.{◌∙◌, sym, ap}
use Rattle.std.specs.FinMap as map
use Rattle.mr_links.specs.Rows.{by_ids}
use Rattle.mr_links.proofs.LinkRows.{entries-links_of}
use Rattle.mr_links.proofs.rows.Rows.iter.Goals as goal

pub returns : goal.returns
returns g c = c.«new».ensures ∙ ap by_ids c.iter.ensures.rest ∙ sym (entries-links_of c.self.inside.slab.slots) ∙ ap map.entries c.self.view_is
