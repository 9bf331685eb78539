use Rattle.std.proofs.Common.{◌∙◌, sym}
use Rattle.mr_world_script.proofs.Ids.{all_digits, found_id, one_digit}
use Rattle.mr_world_script.proofs.numbers.read_id.Goals as goal

pub returns-then-word-eq1 : goal.returns-then-word-eq1
returns-then-word-eq1 c = let h = c.read.ensures in let d = one_digit c.args.word.now c.if-word-eq1.true in
    found_id c.args.word.now c.as_slice.result.now c.read.result (d ∙ sym c.as_slice.ensures) h.some h.id h.none

pub returns : goal.returns
returns c = let h = c.read-2.ensures in
    found_id c.args.word.now c.args.word.now c.read-2.result (all_digits c.args.word.now c.if-word-eq1.false) h.some h.id h.none
