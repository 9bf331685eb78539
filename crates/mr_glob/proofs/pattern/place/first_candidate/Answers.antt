use Rattle.std.proofs.Common.{arith}
use Rattle.mr_glob.proofs.PlaceLemmas.{nowhere, skips, none_before, none_more, none_set}
use Rattle.mr_glob.proofs.pattern.place.first_candidate.Goals as goal

pub returns-then-place-text : goal.returns-then-place-text
returns-then-place-text c =
    let text = c.args.text.now in
    let low = c.lowest-place in
    skips c.args.pattern.now text _ (omega arith)
    (none_more c.args.pattern.now text c.loop-from.from c.candidates-places.result low.result c.loop-from.invariant c.candidates-places.ensures (omega arith) low.ensures.below)

pub returns-else-place-text : goal.returns-else-place-text
returns-else-place-text c =
    let text = c.args.text.now in
    let low = c.lowest-place in
    let none = none_more c.args.pattern.now text c.loop-from.from c.candidates-places.result low.result c.loop-from.invariant c.candidates-places.ensures (omega arith) low.ensures.below in
    nowhere c.args.pattern.now text (none_before c.args.pattern.now text _ _ (omega arith) none)

pub returns-then-text-from-lt-WINDOW : goal.returns-then-text-from-lt-WINDOW
returns-then-text-from-lt-WINDOW c =
    let text = c.args.text.now in
    let places = c.candidates-places in
    let none = none_more c.args.pattern.now text c.loop-from.from places.result 64 c.loop-from.invariant places.ensures (omega arith) (λ k less. none_set places.result (omega arith) k) in
    nowhere c.args.pattern.now text (none_before c.args.pattern.now text _ _ (omega arith) none)

pub loop-from-preserved : goal.loop-from-preserved
loop-from-preserved c =
    let places = c.candidates-places in
    none_more c.args.pattern.now c.args.text.now c.loop-from.from places.result 64 c.loop-from.invariant places.ensures (omega arith) (λ k less. none_set places.result (omega arith) k)

pub returns : goal.returns
returns c = nowhere c.args.pattern.now c.args.text.now (none_before c.args.pattern.now c.args.text.now _ _ (omega arith) c.loop-from.invariant)
