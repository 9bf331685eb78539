use Rattle.std.proofs.Common.{rules, ◌∙◌, ap, sym}
use Rattle.std.specs.Prelude.{slice_get}
use Rattle.std.specs.FinMap.{keys}
use Rattle.mr_cmd_set.specs.Members.{drawn}
use Rattle.mr_cmd_set.proofs.Sets.{len_keys, no_keys}
use Rattle.mr_cmd_set.proofs.Draws.{drawn_nothing, one_some, one_none}
use Rattle.mr_cmd_set.proofs.drawing.draw_one.Goals as goal

pub returns-then-is_empty-clause-none : goal.returns-then-is_empty-clause-none
returns-then-is_empty-clause-none c = ap (drawn c.args.word 1) (no_keys _ (sym c.is_empty.ensures ∙ c.if-is_empty.true)) ∙ drawn_nothing c.args.word 1

pub returns-clause-some : goal.returns-clause-some
returns-clause-some c = one_some c.args.word (keys c.args.set.now) c.len.result (c.len.ensures.len ∙ len_keys _) c.nth.result (c.nth.ensures ∙ ap (slice_get (keys c.args.set.now)) c.place.ensures)

pub returns-clause-none : goal.returns-clause-none
returns-clause-none c = one_none c.args.word (keys c.args.set.now) c.len.result (c.len.ensures.len ∙ len_keys _) c.nth.result (search rules) (c.nth.ensures ∙ ap (slice_get (keys c.args.set.now)) c.place.ensures)
