use Rattle.std.proofs.Common.{◌∙◌, ap, sym}
use Rattle.std.specs.FinMap.{entries}
use Rattle.mr_map.specs.Bytes.{by_bytes, bytes_of, map_of}
use Rattle.mr_map.specs.Merged.{map_of_short, merged}
use Rattle.mr_map.proofs.Named.{entries-map_of}
use Rattle.mr_map.proofs.Parted.{as_they_are, entries_joined}
use Rattle.mr_map.proofs.trees.Trees.iter.Goals as goal

pub returns : goal.returns
returns g c =
    let s = c.self.inside.short.entries in
    let l = c.self.inside.long.entries in
    let shorts = c.iter.ensures.rest ∙ sym (entries-map_of (λ k. k) s c.iter.ensures.ordered ∙ as_they_are s) in
    let longs = ap by_bytes c.iter-2.ensures.rest ∙ sym (entries-map_of bytes_of l c.iter-2.ensures.ordered) in
    c.«new».ensures ∙ (λ i. merged (shorts i) (longs i)) ∙ sym (entries_joined (map_of_short s) (map_of l) c.self.invariant) ∙ ap entries c.self.view_is
