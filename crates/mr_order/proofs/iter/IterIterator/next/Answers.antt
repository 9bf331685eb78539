use Rattle.std.proofs.Common.{sym, subst, ◌∙◌, arith}
use Rattle.mr_order.specs.Runs.{IsIn}
use Rattle.mr_order.proofs.Coming.{first_of, rest_of}
use Rattle.mr_order.proofs.iter.IterIterator.next.Goals as goal

pub returns-clause-steps : goal.returns-clause-steps
returns-clause-steps g c =
    let i = c.self.inside in
    let run = subst (λ l. IsIn i.places.now l i.from) c.in_ok-first.ensures.cases.0 c.ahead-run.ensures.run in
    sym c.self.view_is ∙ first_of i.places.now i.from i.to c.in_ok-first.first.now c.in_ok-first.rest.now (omega (arith, c.self.invariant.ordered, c.if-self.false)) c.self.invariant.within run

pub invariant_of-self : goal.invariant_of-self
invariant_of-self g c =
    let i = c.self.inside in
    let was = c.self.invariant in
    let run = subst (λ l. IsIn i.places.now l i.from) c.in_ok-first.ensures.cases.0 c.ahead-run.ensures.run in
    record {
      ordered = omega (arith, was.ordered, c.if-self.false);
      within = was.within;
      front = rest_of i.places.now i.from c.in_ok-first.first.now c.in_ok-first.rest.now run;
      fits = was.fits;
      back = was.back;
    }
