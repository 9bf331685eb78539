use Rattle.std.proofs.Common.{◌<◌, ◌+◌, sym, ◌∙◌, ap, subst}
use Rattle.std.specs.Prelude.{◌^◌}
use Rattle.std.specs.FinMap.{get, insert, len}
use Rattle.mr_map.proofs.Parted.{room_for}
use Rattle.mr_map.proofs.Hashed.{long_found, long_set, on_err, parted_long_set, seen}
use Rattle.mr_map.proofs.tables.Tables.insert_long.Goals as goal

pub invariant_of-self-2 : goal.invariant_of-self-2
invariant_of-self-2 g c =
    let s = c.self.inside.short in
    let l = c.self.inside.long in
    let k = c.args.key.items in
    parted_long_set s l c.self.invariant k c.requires.long c.insert.new.self c.args.value c.in_ok-insert.ensures.updates
    (room_for (seen s l) k c.args.value (subst (λ m. len m + 1 < 2 ^ 63) (sym c.self.view_is) c.requires.few))

pub returns-clause-before : goal.returns-clause-before
returns-clause-before g c =
    let k = c.args.key.items in
    c.in_ok-insert.ensures.old ∙ long_found c.self.inside.short c.self.inside.long c.self.invariant k c.requires.long ∙ ap (λ m. get m k) c.self.view_is

pub returns-clause-ok : goal.returns-clause-ok
returns-clause-ok g c =
    let k = c.args.key.items in
    long_set c.self.inside.short c.self.inside.long c.self.invariant k c.requires.long c.insert.new.self c.args.value c.in_ok-insert.ensures.updates ∙ ap (λ m. insert m k c.args.value) c.self.view_is

pub returns-in_err-insert-clause-absent : goal.returns-in_err-insert-clause-absent
returns-in_err-insert-clause-absent g c =
    let k = c.args.key.items in
    on_err c.from_residual.result (ap (λ m. get m k) (sym c.self.view_is) ∙ sym (long_found c.self.inside.short c.self.inside.long c.self.invariant k c.requires.long) ∙ c.in_err-insert.ensures.absent)
