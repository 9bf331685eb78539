use Rattle.std.proofs.Common.{◌+◌, ◌<◌, ◌∙◌, ap, sym, subst}
use Rattle.std.specs.Prelude.{◌^◌}
use Rattle.std.specs.FinMap.{len}
use Rattle.mr_map.specs.Bytes.{map_of}
use Rattle.mr_map.specs.Merged.{map_of_short}
use Rattle.mr_map.proofs.Parted.{len_joined}
use Rattle.mr_map.proofs.Hashed.{longs_counted, shorts_counted}
use Rattle.mr_map.proofs.tables.Tables.len.Goals as goal

pub returns-clause-len : goal.returns-clause-len
returns-clause-len g c =
    let s = c.self.inside.short.entries in
    let l = c.self.inside.long.entries in
    let shorts = c.len.ensures.len ∙ shorts_counted s c.len.ensures.unique in
    let longs = c.len-2.ensures.len ∙ longs_counted l c.len-2.ensures.unique in
    (λ i. shorts i + longs i) ∙ len_joined (map_of_short s) (map_of l) c.self.invariant ∙ ap len c.self.view_is

pub returns-clause-small : goal.returns-clause-small
returns-clause-small g c = subst (λ n. n < 2 ^ 63) (sym (returns-clause-len g c)) (subst (λ m. len m < 2 ^ 63) c.self.view_is c.self.invariant.few)
