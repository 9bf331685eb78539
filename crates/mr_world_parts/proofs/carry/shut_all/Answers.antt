use Rattle.std.proofs.Common.{sym, ◌∙◌, ap}
use Rattle.std.specs.Prelude.{slice_set}
use Rattle.std.proofs.lemmas.List.Edits.{map_over_more}
use Rattle.mr_world_parts.specs.Undoing.{shut_by}
use Rattle.mr_world_parts.proofs.carry.shut_all.Goals as goal

pub loop-k-preserved : goal.loop-k-preserved
loop-k-preserved c =
    ap (λ z. slice_set c.loop-k.links c.loop-k.k-index z) (c.shut_if.ensures ∙ ap (λ z. shut_by c.args.n c.args.outs.now z) (sym c.k-item.is))
    ∙ map_over_more (shut_by c.args.n c.args.outs.now) c.args.links.now c.loop-k.links c.loop-k.k-index c.k-item.result c.loop-k-test.true c.loop-k.invariant c.k-item.is
