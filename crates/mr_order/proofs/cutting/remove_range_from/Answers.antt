use Rattle.mr_order.proofs.Ranges.{cut_more}
use Rattle.mr_order.proofs.cutting.remove_range_from.Goals as goal

pub loop-end-preserved : goal.loop-end-preserved
loop-end-preserved g c =
    cut_more g.P.Part.items g.P.Part.is_kept c.args.parts.now.items c.loop-end.parts.items c.args.from c.args.to c.loop-end.end c.requires.within c.loop-end.invariant
    c.remove_some-end.new.parts.items c.remove_some-end.result c.remove_some-end.ensures.sound c.remove_some-end.ensures.removed c.remove_some-end.ensures.within c.remove_some-end.ensures.parts
