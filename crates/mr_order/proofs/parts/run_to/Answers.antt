use Rattle.std.proofs.Common.{ℕ, ◌+◌, ◌-◌, length, subst, arith}
use Rattle.mr_order.specs.Runs.{IsIn}
use Rattle.mr_order.proofs.Narrow.{in_flat, in_in}
use Rattle.mr_order.proofs.parts.run_to.Goals as goal

pub returns-clause-run : goal.returns-clause-run
returns-clause-run g c =
    let f = g.P.Part.items in
    let e = c.index-parts-part.result in
    let run = c.run_to.result.now in
    let from : ℕ = c.find-part.result.1 + 1 - length run in
    in_in _ _ run _ from _ (omega (arith, c.find-part.ensures.place, c.run_to.ensures.fits, c.requires.some)) (in_flat f c.args.parts.now c.find-part.result.0 e c.find-part.ensures.part)
    (subst (λ p. IsIn (f p) run from) c.index-parts-part.is c.run_to.ensures.run)
