use Rattle.std.proofs.Common.{◌∙◌, ap}
use Rattle.std.specs.FinMap as map
use Rattle.mr_links.proofs.LinkRows.{len-links_of}
use Rattle.mr_links.proofs.rows.Rows.len.Goals as goal

pub returns : goal.returns
returns g c = c.len.ensures ∙ len-links_of c.self.inside.slab.slots ∙ ap map.len c.self.view_is
