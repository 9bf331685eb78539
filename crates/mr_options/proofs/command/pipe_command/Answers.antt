use Rattle.std.specs.Prelude.{◌^◌, ◌-◌, codes}
use Rattle.mr_options.specs.Lines.{number_rule, text_rule}
use Rattle.mr_options.proofs.Commands.{grown, with_last}
use Rattle.mr_options.proofs.command.pipe_command.Goals as goal

pub returns-clause-shape : goal.returns-clause-shape
returns-clause-shape c =
    let named = grown (text_rule (codes "id")) c.new.ensures.app c.in_ok-named.ensures.shape in
    let timed = grown (number_rule (codes "now") 0 (2 ^ 61)) named c.in_ok-timed.ensures.shape in
    let drawn = grown (number_rule (codes "word") 0 (2 ^ 64 - 1)) timed c.in_ok-drawn.ensures.shape in
    with_last c.with_text-2.result (text_rule (codes "aof")) drawn c.with_text-2.ensures.shape

pub returns-clause-local : goal.returns-clause-local
returns-clause-local c = c.with_text-2.ensures.local
