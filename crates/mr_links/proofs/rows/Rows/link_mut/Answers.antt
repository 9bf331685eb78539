use Rattle.std.proofs.Common.{◌≡◌, ◌∙◌, sym, ap, refl, None, Some, is_some, get_or}
use Rattle.std.specs.Option.{unwrap_or}
use Rattle.std.specs.FinMap as map
use Rattle.mr_links.proofs.LinkRows.{get-links_of, links_of-written, matching_found, matching_some}
use Rattle.mr_links.proofs.rows.Rows.link_mut.Goals as goal

pub index_mut-requires : goal.index_mut-requires
index_mut-requires g c =
    let looked = ap (λ l. map.get l c.args.id) (sym c.self.view_is) ∙ get-links_of c.self.inside.slab.slots c.args.id in
    let here = matching_some (get_or c.self.inside.slab.slots c.args.id.index None) c.args.id.generation (sym (ap is_some looked) ∙ c.requires) in
    ap is_some here.1.0

pub returns : goal.returns
returns g c =
    let slots = c.self.inside.slab.slots in let row = c.index_mut.result.now in let was = c.index_mut.ensures.value in
    let looked = ap (λ l. map.get l c.args.id) (sym c.self.view_is) ∙ get-links_of slots c.args.id in
    let here = matching_some (get_or slots c.args.id.index None) c.args.id.generation (sym (ap is_some looked) ∙ c.requires) in
    let generation : row.generation ≡ c.args.id.generation = ap (λ o. (unwrap_or o row).generation) (sym was ∙ here.1.0) ∙ here.1.1 in (
      (refl, λ w. links_of-written slots c.args.id row w was generation ∙ ap (λ m. map.insert m c.args.id w) c.self.view_is),
      record { writes_back = tt; value = looked ∙ matching_found _ row c.args.id.generation was generation ∙ ap Some (sym c.link_mut.ensures.value) },
    )
