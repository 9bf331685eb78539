use Rattle.std.proofs.Common.{arith, sym, ◌∙◌}
use Rattle.mr_glob.proofs.MaskLemmas.{all_set}
use Rattle.mr_glob.proofs.PlaceLemmas.{marked_more}
use Rattle.mr_glob.proofs.pattern.place.candidates.Goals as goal

pub loop-places-init : goal.loop-places-init
loop-places-init c k small here h = (all_set k small, h)

pub loop-places-preserved : goal.loop-places-preserved
loop-places-preserved c =
    let at = c.loop-places in
    let next = c.in-Some in
    let first = c.in-Some-split_first in
    let takers = c.takers-takers in
    marked_more c.args.pattern.now c.args.text.now at.left.now at.later.now first.bytes.now next.behind.now takers.result.1.now c.front.result next.sign
    first.field-0-0.now at.places takers.result.0 at.invariant
    (record {
      signs_are = next.ensures.signs_are;
      no_star = sym c.is_bare.ensures ∙ c.if-is_bare.false;
      parts_are = takers.ensures.past;
      shorter = omega (arith, next.ensures.shorter, takers.ensures.no_longer);
    })
    first.ensures.cases.0 c.front.ensures takers.ensures.marks
