use Rattle.std.proofs.Common.{◌∙◌, sym, ap}
use Rattle.std.specs.FinMap as map
use Rattle.mr_links.specs.LinkId.{link_id}
use Rattle.mr_links.specs.Rows.{links_of}
use Rattle.mr_links.proofs.LinkRows.{get-links_of, links_of-put, matching_none}
use Rattle.mr_links.proofs.rows.Rows.insert.Goals as goal

pub returns-clause-absent : goal.returns-clause-absent
returns-clause-absent g c =
    let id = link_id c.insert_reserved-index.result c.args.generation in
    ap (λ l. map.get l id) (sym c.self.view_is) ∙ ap (λ s. map.get (links_of s.slots) id) (sym c.reserve.ensures.rest_kept)
    ∙ get-links_of c.reserve.new.self.slots id ∙ matching_none _ c.args.generation c.insert_reserved-index.ensures.was_vacant

pub returns-clause-inserted : goal.returns-clause-inserted
returns-clause-inserted g c =
    let middle = c.reserve.new.self in let done = c.insert_reserved-index.new.self in let index = c.insert_reserved-index.result in let e = c.insert_reserved-index.ensures in
    links_of-put middle.slots done.slots index c.args.generation c.args.link e.updates.changed (λ gen _. matching_none _ gen e.was_vacant) (λ k ne. e.updates.others k ne)
    ∙ ap (λ s. map.insert (links_of s.slots) (link_id index c.args.generation) c.args.link) c.reserve.ensures.rest_kept
    ∙ ap (λ l. map.insert l (link_id index c.args.generation) c.args.link) c.self.view_is
