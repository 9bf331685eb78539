use Rattle.std.proofs.Common.{subst}
use Rattle.mr_order.specs.Runs.{IsIn}
use Rattle.mr_order.proofs.Narrow.{in_flat, in_in}
use Rattle.mr_order.proofs.parts.run_from.Goals as goal

pub returns-clause-run : goal.returns-clause-run
returns-clause-run g c =
    let f = g.P.Part.items in
    let e = c.index-parts-part.result in
    let run = c.run_from.result.now in
    in_in _ _ run _ c.find-part.result.1 c.args.at c.find-part.ensures.place (in_flat f c.args.parts.now c.find-part.result.0 e c.find-part.ensures.part)
    (subst (λ p. IsIn (f p) run c.find-part.result.1) c.index-parts-part.is c.run_from.ensures.run)
