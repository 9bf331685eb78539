use Rattle.std.proofs.Common.{◌∙◌, None, get_or, sym, ap}
use Rattle.std.specs.FinMap as map
use Rattle.mr_connections.proofs.Places.{copied_none, get-table_of, held_none, on_err, same_table, table_of-set}
use Rattle.mr_connections.proofs.table.Table.put.Goals as goal

pub returns-in_err-fill_to-clause-err : goal.returns-in_err-fill_to-clause-err
returns-in_err-fill_to-clause-err g c = on_err c.from_residual.result (same_table c.self.inside.places.items c.fill_to.new.places.items c.fill_to.ensures.same ∙ c.self.view_is)

pub returns-clause-free : goal.returns-clause-free
returns-clause-free g c =
    let places = c.self.inside.places.items in let id = c.args.id in
    let free = ap (λ s. get_or s id.index None) (sym c.deref.ensures.value) ∙ copied_none c.entry_at.result _ c.entry_at.ensures (sym c.if-is_some.ensures) in
    ap (λ t. map.get t id) (sym c.self.view_is) ∙ get-table_of places id ∙ held_none _ id.generation free

pub returns-clause-ok : goal.returns-clause-ok
returns-clause-ok g c =
    let places = c.self.inside.places.items in let more = c.fill_to.new.places.items in let id = c.args.id in
    let free = ap (λ s. get_or s id.index None) (sym c.deref.ensures.value) ∙ copied_none c.entry_at.result _ c.entry_at.ensures (sym c.if-is_some.ensures) in
    table_of-set more id c.args.value c.in_ok-fill_to.ensures.room (c.fill_to.ensures.same id.index ∙ free)
    ∙ ap (λ t. map.insert t id c.args.value) (same_table places more c.fill_to.ensures.same ∙ c.self.view_is)
