use Rattle.std.proofs.Common.{◌≡◌, ◌∙◌, None, Some, is_some, get_or, sym, ap, refl, arith}
use Rattle.std.specs.Option.{unwrap_or}
use Rattle.std.specs.FinMap as map
use Rattle.mr_connections.proofs.Places.{get-table_of, has_place, held_found, lent_is, table_of-written, under}
use Rattle.mr_connections.proofs.table.Table.value_mut.Goals as goal

pub index_mut-requires : goal.index_mut-requires
index_mut-requires g c =
    let places = c.self.inside.places.items in let found = under places c.args.self.now c.args.id c.self.view_is c.requires in
    let within = has_place places c.args.id.index found.0 found.1.0 in omega (arith, c.self.inside.places.ok)

pub entry_mut-requires : goal.entry_mut-requires
entry_mut-requires g c =
    let places = c.self.inside.places.items in let found = under places c.args.self.now c.args.id c.self.view_is c.requires in
    ap is_some (lent_is places c.args.id.index found.0 c.index_mut.result.now c.index_mut.ensures.value found.1.0)

pub returns : goal.returns
returns g c =
    let places = c.self.inside.places.items in let id = c.args.id in let entry = c.entry_mut.result.now in
    let found = under places c.args.self.now id c.self.view_is c.requires in
    let was : get_or places id.index None ≡ Some entry =
    found.1.0 ∙ sym (lent_is places id.index found.0 c.index_mut.result.now c.index_mut.ensures.value found.1.0) ∙ c.entry_mut.ensures.value in
    let generation : entry.generation ≡ id.generation = ap (λ o. (unwrap_or o entry).generation) (sym was ∙ found.1.0) ∙ found.1.1 in (
      (refl, λ w. table_of-written places id entry w was generation ∙ ap (λ t. map.insert t id w) c.self.view_is),
      record {
        writes_back = tt;
        value = ap (λ t. map.get t id) (sym c.self.view_is) ∙ get-table_of places id ∙ held_found _ entry id.generation was generation ∙ ap Some (sym c.value_mut.ensures.value);
      },
    )
