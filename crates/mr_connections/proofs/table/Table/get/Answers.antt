use Rattle.std.proofs.Common.{◌∙◌, None, get_or, sym, ap}
use Rattle.std.specs.FinMap as map
use Rattle.mr_connections.proofs.Places.{get-table_of, held_found, held_other, held_none}
use Rattle.mr_connections.proofs.table.Table.get.Goals as goal

pub returns-then-entry-id : goal.returns-then-entry-id
returns-then-entry-id g c =
    let places_are = ap (λ s. get_or s c.args.id.index None) (sym c.deref.ensures.value) in
    sym (ap (λ t. map.get t c.args.id) (sym c.self.view_is) ∙ get-table_of c.self.inside.places.items c.args.id
    ∙ held_found _ c.in-Some.entry.now c.args.id.generation (places_are ∙ sym c.in-Some.ensures) c.if-entry-id.true)

pub returns-else-entry-id : goal.returns-else-entry-id
returns-else-entry-id g c =
    let places_are = ap (λ s. get_or s c.args.id.index None) (sym c.deref.ensures.value) in
    sym (ap (λ t. map.get t c.args.id) (sym c.self.view_is) ∙ get-table_of c.self.inside.places.items c.args.id
    ∙ held_other _ c.in-Some.entry.now c.args.id.generation (places_are ∙ sym c.in-Some.ensures) c.if-entry-id.false)

pub returns-in-None : goal.returns-in-None
returns-in-None g c =
    let places_are = ap (λ s. get_or s c.args.id.index None) (sym c.deref.ensures.value) in
    sym (ap (λ t. map.get t c.args.id) (sym c.self.view_is) ∙ get-table_of c.self.inside.places.items c.args.id
    ∙ held_none _ c.args.id.generation (places_are ∙ sym c.in-None.ensures))
