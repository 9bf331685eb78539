use Rattle.std.proofs.Common.{◌+ℤ◌, pos, ap, ◌∙◌, w64}
use Rattle.std.specs.Int.{int_min, int_max}
use Rattle.std.proofs.lemmas.Int.{to_z-of_z}
use Rattle.mr_bytes.specs.Window.{place_of}
use Rattle.mr_bytes.proofs.Windows.{some_window, no_window}
use Rattle.mr_bytes.proofs.indexes.window.Goals as goal

pub returns-then-first-end-clause-places : goal.returns-then-first-end-clause-places
returns-then-first-end-clause-places c =
    some_window c.args.a c.args.b c.args.len c.first_place-first.result c.end_place-end.result
    (c.first_place-first.ensures ∙ ap (λ z. int_max (pos 0) (place_of z c.args.len)) (to_z-of_z w64 c.args.a c.ranges.a))
    (c.end_place-end.ensures ∙ ap (λ z. int_max (pos 0) (int_min (place_of z c.args.len +ℤ pos 1) (pos c.args.len))) (to_z-of_z w64 c.args.b c.ranges.b))
    c.if-first-end.true

pub returns-else-first-end-clause-places : goal.returns-else-first-end-clause-places
returns-else-first-end-clause-places c =
    no_window c.args.a c.args.b c.args.len c.first_place-first.result c.end_place-end.result
    (c.first_place-first.ensures ∙ ap (λ z. int_max (pos 0) (place_of z c.args.len)) (to_z-of_z w64 c.args.a c.ranges.a))
    (c.end_place-end.ensures ∙ ap (λ z. int_max (pos 0) (int_min (place_of z c.args.len +ℤ pos 1) (pos c.args.len))) (to_z-of_z w64 c.args.b c.ranges.b))
    c.if-first-end.false
