use Rattle.std.specs.Prelude.{◌^◌, ◌-◌, codes}
use Rattle.mr_options.specs.Lines.{needed, number_rule, text_rule}
use Rattle.mr_options.proofs.Commands.{grown, with_last}
use Rattle.mr_options.proofs.command.node_command.Goals as goal

pub returns-clause-shape : goal.returns-clause-shape
returns-clause-shape c =
    let met = grown (needed (number_rule (codes "port") 1 65535)) c.new.ensures.app c.in_ok-met.ensures.shape in
    let kept = grown (text_rule (codes "aof")) met c.in_ok-kept.ensures.shape in
    let synced = grown (text_rule (codes "sync")) kept c.in_ok-synced.ensures.shape in
    let ended = grown (number_rule (codes "turns") 0 (2 ^ 64 - 1)) synced c.in_ok-ended.ensures.shape in
    with_last c.with_number-2.result (number_rule (codes "backlog") 1 (2 ^ 30)) ended c.with_number-2.ensures.shape

pub returns-clause-local : goal.returns-clause-local
returns-clause-local c = c.with_number-2.ensures.local
