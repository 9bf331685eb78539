use Rattle.std.proofs.Common.{rules, get_or, ◌≡◌, ◌+◌, sym, ◌∙◌, ap}
use Rattle.std.specs.Prelude.{slice_set}
use Rattle.std.proofs.lemmas.List.Edits.{map_over_more}
use Rattle.mr_world_parts.specs.Undoing.{fed_by}
use Rattle.mr_world_parts.proofs.carry.feed_front.Goals as goal

pub loop-k-preserved : goal.loop-k-preserved
loop-k-preserved c =
    let done : c.feed_if.new.self ≡ fed_by c.args.n c.args.outs.now (get_or c.loop-k.links c.loop-k.k-index c.k-item.result) = search rules in (
      ap (λ z. slice_set c.loop-k.links c.loop-k.k-index z) (done ∙ ap (λ z. fed_by c.args.n c.args.outs.now z) (sym c.k-item.is))
          ∙ map_over_more (fed_by c.args.n c.args.outs.now) c.args.links.now c.loop-k.links c.loop-k.k-index c.k-item.result c.loop-k-test.true c.loop-k.invariant.0 c.k-item.is,
      ap (λ z. z + 1) c.loop-k.invariant.1,
    )
