use Rattle.std.proofs.Common.{ap, ◌∙◌}
use Rattle.std.specs.List.{flat_map}
use Rattle.mr_order.proofs.Changing.{if_ok_map, put_in}
use Rattle.mr_order.proofs.Flat.{flat_same, on_err_map}
use Rattle.mr_order.proofs.Locating.{in_named}
use Rattle.mr_order.proofs.Narrow.{divided_in}
use Rattle.mr_order.proofs.descent.put_in_part.Goals as goal

pub put-requires-clause-divided : goal.put-requires-clause-divided
put-requires-clause-divided g c =
    let f = g.P.Part.items in
    let xs = c.args.parts.now.items in
    let d = c.index_mut.result.now in
    divided_in (g.P.Item.Ord.cmp c.args.item) (flat_map f xs) (f d) _ (in_named f xs c.args.part d c.requires.part c.index_mut.ensures.value) c.requires.divided

pub returns-clause-ok : goal.returns-clause-ok
returns-clause-ok g c =
    if_ok_map c.put.result
    (λ t p. put_in (g.P.Item.Ord.cmp c.args.item) g.P.Part.items c.args.parts.now.items c.args.part c.index_mut.result.now c.put.new.self c.requires.part c.index_mut.ensures.value c.requires.between c.args.item c.args.replaces t p)
    c.put.ensures.ok

pub returns-clause-err : goal.returns-clause-err
returns-clause-err g c =
    let f = g.P.Part.items in
    on_err_map c.put.result (λ e. flat_same f c.args.parts.now.items c.args.part c.put.new.self c.index_mut.result.now c.requires.part (e ∙ ap f c.index_mut.ensures.value)) c.put.ensures.err
