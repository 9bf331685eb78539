use Rattle.std.proofs.Common.{◌∙◌}
use Rattle.std.proofs.lemmas.Bool.{lt-leb}
use Rattle.mr_cmd_string.proofs.WritingOver.{part_there, part_behind}
use Rattle.mr_cmd_string.proofs.changing.holds_part.Goals as goal

pub returns-then-end-text : goal.returns-then-end-text
returns-then-end-text c = c.same.ensures ∙ part_there c.args.text.now c.args.part.now c.args.offset c.if-end-text.true

pub returns-else-end-text : goal.returns-else-end-text
returns-else-end-text c = lt-leb _ _ c.if-end-text.false ∙ part_behind c.args.text.now c.args.part.now c.args.offset c.if-end-text.false
