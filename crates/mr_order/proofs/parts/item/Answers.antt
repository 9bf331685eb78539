use Rattle.mr_order.proofs.Flat.{flat_item}
use Rattle.mr_order.proofs.parts.item.Goals as goal

pub returns : goal.returns
returns g c =
    let e = c.index-parts-part.result in
    flat_item g.P.Part.items c.args.parts.now c.find-part.result.0 c.find-part.result.1 c.args.at e c.item.result.now
    c.find-part.ensures.part c.find-part.ensures.place (c.find-part.ensures.within e) c.index-parts-part.is c.item.ensures
