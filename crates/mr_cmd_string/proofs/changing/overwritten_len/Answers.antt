use Rattle.std.proofs.Common.{◌<◌, ◌+◌, length, arith}
use Rattle.mr_cmd_string.proofs.WritingOver.{ends_behind, ends_inside}
use Rattle.mr_cmd_string.proofs.changing.overwritten_len.Goals as goal

pub returns-then-end-text : goal.returns-then-end-text
returns-then-end-text c =
    let below : c.args.offset + length c.args.part.now < length c.args.text.now = c.if-end-text.true in
    ends_inside c.args.text.now c.args.part.now c.args.offset (omega (arith, below))

pub returns-else-end-text : goal.returns-else-end-text
returns-else-end-text c = ends_behind c.args.text.now c.args.part.now c.args.offset c.if-end-text.false
