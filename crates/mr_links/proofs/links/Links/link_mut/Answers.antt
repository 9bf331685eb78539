use Rattle.std.proofs.Common.{◌∙◌, ap, refl, is_some, arith}
use Rattle.std.specs.FinMap as map
use Rattle.mr_links.proofs.Generations.{numbered_insert, link_under}
use Rattle.mr_links.proofs.links.Links.link_mut.Goals as goal

pub invariant_of-self-lent : goal.invariant_of-self-lent
invariant_of-self-lent g c w =
    let rows = c.self.inside.rows in let opened = c.self.inside.opened in let are = c.self.invariant in
    let there = link_under (map.get rows c.args.id) (ap (λ l. is_some (map.get l.open_links c.args.id)) c.self.view_is ∙ c.requires) in
    numbered_insert opened opened rows (map.insert rows c.args.id w) c.args.id w refl are (omega arith) (are.below c.args.id there.0 there.1)
    (λ q link found same. are.apart q c.args.id link there.0 found there.1 same)
