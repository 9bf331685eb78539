use Rattle.std.proofs.Common.{arith, ◌∙◌}
use Rattle.mr_glob.specs.Glob.{class_signs, signs}
use Rattle.mr_glob.proofs.MaskLemmas.{ranges_more}
use Rattle.mr_glob.proofs.pattern.class.ranges_mask.Goals as goal

pub members-preserved : goal.members-preserved
members-preserved c =
    let at = c.members.invariant in
    let next = c.in-Range.ensures in
    record {
      marks = ranges_more (class_signs (signs c.args.class.now)) c.members.left.now c.in-Range.rest.now c.args.bytes _ c.members.mask c.between-mask.result
          at.marks next.ranges_are c.between-mask.ensures;
      behind = at.behind ∙ next.behind;
      no_longer = omega (arith, at.no_longer, next.shorter);
    }
