use Rattle.std.proofs.Common.{◌≡◌, ◌∙◌, ◌+◌, sym, ap, arith}
use Rattle.mr_links.proofs.Generations.{numbered_take_back, put_back, taken_out}
use Rattle.mr_links.proofs.links.Links.take_back.Goals as goal

pub invariant_of-self : goal.invariant_of-self
invariant_of-self g c =
    let i = c.self.inside in
    let last : i.opened ≡ c.args.id.generation + 1 = ap (λ l. l.opened) c.self.view_is ∙ c.requires.last in
    numbered_take_back i.opened _ i.rows c.remove.new.self c.args.id c.in-Some.link c.in-Some.ensures.removed c.self.invariant (sym c.in-Some.ensures.value) last (omega (arith, last))

pub returns-clause-fresh : goal.returns-clause-fresh
returns-clause-fresh g c = taken_out c.self.inside.rows c.remove.new.self c.args.id c.in-Some.ensures.removed

pub returns-clause-inserted : goal.returns-clause-inserted
returns-clause-inserted g c =
    ap (λ l. l.open_links) (sym c.self.view_is)
    ∙ put_back c.self.inside.rows c.remove.new.self c.args.id c.in-Some.link c.in-Some.ensures.removed (sym c.in-Some.ensures.value)
