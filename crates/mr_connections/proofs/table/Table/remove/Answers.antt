use Rattle.std.proofs.Common.{◌∙◌, ap, arith}
use Rattle.std.specs.FinMap as map
use Rattle.mr_links.proofs.LinkRows.{remove-absent}
use Rattle.mr_connections.proofs.Places.{copied_none, copied_some, has_place, table_of-emptied, under}
use Rattle.mr_connections.proofs.table.Table.remove.Goals as goal

pub returns-then-is_none : goal.returns-then-is_none
returns-then-is_none g c = remove-absent c.args.self.now c.args.id (copied_none c.get.result _ c.get.ensures c.if-is_none.ensures)

pub index_mut-requires : goal.index_mut-requires
index_mut-requires g c =
    let places = c.self.inside.places.items in
    let found = under places c.args.self.now c.args.id c.self.view_is (copied_some c.get.result _ c.get.ensures c.if-is_none.ensures) in
    let within = has_place places c.args.id.index found.0 found.1.0 in omega (arith, c.self.inside.places.ok)

pub returns : goal.returns
returns g c =
    let places = c.self.inside.places.items in let id = c.args.id in
    let found = under places c.args.self.now id c.self.view_is (copied_some c.get.result _ c.get.ensures c.if-is_none.ensures) in
    table_of-emptied places id found.0 found.1.0 found.1.1
    ∙ ap (λ t. map.remove t id) c.self.view_is
