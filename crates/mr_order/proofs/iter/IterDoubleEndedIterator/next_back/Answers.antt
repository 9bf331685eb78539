use Rattle.std.proofs.Common.{◌-◌, ◌≤◌, length, sym, subst, ◌∙◌, arith}
use Rattle.mr_order.specs.Runs.{IsIn}
use Rattle.mr_order.proofs.Coming.{last_of}
use Rattle.mr_order.proofs.iter.IterDoubleEndedIterator.next_back.Goals as goal

pub returns-clause-steps : goal.returns-clause-steps
returns-clause-steps g c =
    let i = c.self.inside in
    let is = c.in_ok-last.ensures.cases.0 in
    let fits = subst (λ l. length l ≤ i.to) is c.behind-run.ensures.fits in
    let run = subst (λ l. IsIn i.places.now l (i.to - length l)) is c.behind-run.ensures.run in
    sym c.self.view_is ∙ last_of i.places.now i.to c.in_ok-last.last.now c.in_ok-last.rest.now fits run i.from (omega (arith, c.self.invariant.ordered, c.if-self.false)) c.self.invariant.within
