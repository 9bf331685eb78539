use Rattle.std.proofs.Common.{arith}
use Rattle.mr_glob.proofs.PlaceLemmas.{too_short, at_end, plain_place}
use Rattle.mr_glob.proofs.pattern.place.searched_place.Goals as goal

pub returns-then-segment-text : goal.returns-then-segment-text
returns-then-segment-text c = too_short c.args.pattern.now c.args.text.now _ c.first_segment-segment.ensures (omega arith)

pub returns-then-segment : goal.returns-then-segment
returns-then-segment c = at_end c.args.pattern.now c.args.text.now _ c.first_segment-segment.ensures c.if-segment.true (omega arith)

pub returns-in-Some : goal.returns-in-Some
returns-in-Some c = plain_place c.args.pattern.now c.in-Some.bytes.now c.args.text.now c.find.result c.in-Some.ensures c.find.ensures
