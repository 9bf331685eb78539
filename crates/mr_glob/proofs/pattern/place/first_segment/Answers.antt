use Rattle.std.proofs.Common.{arith, sym, ◌∙◌}
use Rattle.mr_glob.proofs.PlaceLemmas.{counted_more}
use Rattle.mr_glob.proofs.pattern.place.first_segment.Goals as goal

pub loop-sign-preserved : goal.loop-sign-preserved
loop-sign-preserved c =
    let at = c.loop-sign in
    let next = c.in-Some in
    let past = c.past_part-left in
    counted_more c.args.pattern.now at.left.now next.behind.now past.result.now next.sign at.len at.invariant
    (record {
      signs_are = next.ensures.signs_are;
      no_star = sym c.is_bare.ensures ∙ c.if-is_bare.false;
      parts_are = past.ensures.past;
      shorter = omega (arith, next.ensures.shorter, past.ensures.no_longer);
    })
