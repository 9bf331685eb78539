use Rattle.std.proofs.Common.{rules, ◌≢◌, sym, ◌∙◌, ap, arith}
use Rattle.std.specs.Prelude.{slice_set}
use Rattle.std.proofs.lemmas.List.Edits.{map_over_more}
use Rattle.mr_world_parts.specs.Undoing.{unfed_by}
use Rattle.mr_world_parts.proofs.carry.unfeed_front.Goals as goal

pub loop-k-preserved : goal.loop-k-preserved
loop-k-preserved c =
    let some : c.loop-k.left ≢ 0 = search rules in
    let i = c.loop-k.invariant.1 in (
      ap (λ z. slice_set c.loop-k.links c.loop-k.k-index z) (c.unfeed_if.ensures ∙ ap (λ z. unfed_by c.args.n c.args.outs.now z) (sym c.k-item.is))
          ∙ map_over_more (unfed_by c.args.n c.args.outs.now) c.args.links.now c.loop-k.links c.loop-k.k-index c.k-item.result c.loop-k-test.true c.loop-k.invariant.0 c.k-item.is,
      omega (arith, some, i),
    )
