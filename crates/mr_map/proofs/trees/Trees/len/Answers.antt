use Rattle.std.proofs.Common.{◌+◌, ◌<◌, sym, ◌∙◌, ap, subst}
use Rattle.std.specs.Prelude.{◌^◌}
use Rattle.std.specs.FinMap.{len}
use Rattle.mr_map.specs.Bytes.{bytes_of, map_of}
use Rattle.mr_map.specs.Merged.{map_of_short}
use Rattle.mr_map.proofs.Named.{len-map_of}
use Rattle.mr_map.proofs.Parted.{len_joined}
use Rattle.mr_map.proofs.trees.Trees.len.Goals as goal

pub returns-clause-len : goal.returns-clause-len
returns-clause-len g c =
    let shorts = c.len.ensures.len ∙ len-map_of (λ k. k) c.self.inside.short.entries c.len.ensures.ordered in
    let longs = c.len-2.ensures.len ∙ len-map_of bytes_of c.self.inside.long.entries c.len-2.ensures.ordered in
    (λ i. shorts i + longs i) ∙ len_joined (map_of_short c.self.inside.short.entries) (map_of c.self.inside.long.entries) c.self.invariant ∙ ap len c.self.view_is

pub returns-clause-small : goal.returns-clause-small
returns-clause-small g c = subst (λ n. n < 2 ^ 63) (sym (returns-clause-len g c)) (subst (λ m. len m < 2 ^ 63) c.self.view_is c.self.invariant.few)
