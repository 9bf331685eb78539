use Rattle.std.proofs.Common.{◌∙◌}
use Rattle.mr_map.specs.Bytes.{bytes_cmp}
use Rattle.mr_map.proofs.Padded.{padded_cmp}
use Rattle.mr_map.proofs.short_key.ShortKeyOrd.cmp.Goals as goal

pub returns : goal.returns
returns c =
    c.order.ensures
    ∙ padded_cmp c.self.inside.bytes c.other.inside.bytes c.self.inside.len c.other.inside.len c.self.invariant c.other.invariant
    ∙ (λ i. bytes_cmp (c.self.view_is i) (c.other.view_is i))
