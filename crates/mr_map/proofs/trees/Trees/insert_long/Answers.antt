use Rattle.std.proofs.Common.{◌≡◌, ◌+◌, ◌<◌, sym, ◌∙◌, ap, arith}
use Rattle.std.specs.Prelude.{◌^◌}
use Rattle.std.specs.FinMap.{get, insert, len}
use Rattle.mr_map.proofs.Parted.{room_for}
use Rattle.mr_map.proofs.Halves.{long_found, long_set, parted_long_set, seen}
use Rattle.mr_map.proofs.trees.Trees.insert_long.Goals as goal

pub invariant_of-self-2 : goal.invariant_of-self-2
invariant_of-self-2 g c =
    let s = c.self.inside.short in
    let l = c.self.inside.long in
    let k = c.args.key.items in
    let counted : len (seen s l) ≡ c.len.result = ap len c.self.view_is ∙ sym c.len.ensures.len in
    let room : len (seen s l) + 1 < 2 ^ 63 = omega (arith, counted, c.if-len-ge-MOST.false) in
    parted_long_set s l c.self.invariant k c.requires c.insert.new.self c.args.value c.in_ok-insert.ensures.updates (room_for (seen s l) k c.args.value room)

pub returns-clause-before : goal.returns-clause-before
returns-clause-before g c =
    let k = c.args.key.items in
    c.in_ok-insert.ensures.old ∙ long_found c.self.inside.short c.self.inside.long c.self.invariant k c.requires ∙ ap (λ m. get m k) c.self.view_is

pub returns-clause-ok : goal.returns-clause-ok
returns-clause-ok g c =
    let k = c.args.key.items in
    long_set c.self.inside.short c.self.inside.long c.self.invariant k c.requires c.insert.new.self c.args.value c.in_ok-insert.ensures.updates ∙ ap (λ m. insert m k c.args.value) c.self.view_is
