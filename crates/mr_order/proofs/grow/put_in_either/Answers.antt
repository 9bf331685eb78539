use Rattle.std.proofs.Common.{◌++◌, sym, ap, ◌∙◌, arith}
use Rattle.std.proofs.lemmas.List.Edits.{insert-append_right}
use Rattle.mr_order.proofs.Flat.{on_ok_map}
use Rattle.mr_order.proofs.grow.put_in_either.Goals as goal

pub returns-else-place-len-clause-ok : goal.returns-else-place-len-clause-ok
returns-else-place-len-clause-ok g c =
    let f = g.P.Part.items in
    let head = f c.args.head.now in
    on_ok_map c.insert-else-place-len.result
    (λ put. ap (λ l. head ++ l) put ∙ sym (insert-append_right head (f c.args.tail.now) c.len-len.result c.args.place c.args.item (sym c.len-len.ensures.len) (omega arith)))
    c.insert-else-place-len.ensures.ok
