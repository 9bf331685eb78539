use Rattle.std.proofs.Common.{◌∙◌, sym, ap}
use Rattle.std.specs.FinMap as map
use Rattle.mr_links.proofs.LinkRows.{get-links_of, matching_found, matching_other, matching_none}
use Rattle.mr_links.proofs.rows.Rows.get.Goals as goal

pub returns-then-row-id : goal.returns-then-row-id
returns-then-row-id g c =
    sym (ap (λ l. map.get l c.args.id) (sym c.self.view_is) ∙ get-links_of c.self.inside.slab.slots c.args.id
    ∙ matching_found _ c.in-Some.row.now c.args.id.generation (sym c.in-Some.ensures) c.if-row-id.true)

pub returns-else-row-id : goal.returns-else-row-id
returns-else-row-id g c =
    sym (ap (λ l. map.get l c.args.id) (sym c.self.view_is) ∙ get-links_of c.self.inside.slab.slots c.args.id
    ∙ matching_other _ c.in-Some.row.now c.args.id.generation (sym c.in-Some.ensures) c.if-row-id.false)

pub returns-in-None : goal.returns-in-None
returns-in-None g c =
    sym (ap (λ l. map.get l c.args.id) (sym c.self.view_is) ∙ get-links_of c.self.inside.slab.slots c.args.id
    ∙ matching_none _ c.args.id.generation (sym c.in-None.ensures))
