use Rattle.std.specs.Prelude.{codes}
use Rattle.mr_options.specs.Lines.{number_rule, text_rule}
use Rattle.mr_options.proofs.Commands.{grown, with_last}
use Rattle.mr_options.proofs.command.serve_command.Goals as goal

pub returns-clause-shape : goal.returns-clause-shape
returns-clause-shape c =
    let led = grown (text_rule (codes "replicaof")) c.in_ok-node_command.ensures.shape c.in_ok-led.ensures.shape in
    let bound = grown (text_rule (codes "bind")) led c.in_ok-bound.ensures.shape in
    let heard = grown (number_rule (codes "repl-timeout") 11 86400) bound c.in_ok-heard.ensures.shape in
    let asked = grown (number_rule (codes "timeout") 0 2147483647) heard c.in_ok-asked.ensures.shape in
    let probed = grown (number_rule (codes "tcp-keepalive") 0 32767) asked c.in_ok-probed.ensures.shape in
    with_last c.with_number-4.result (number_rule (codes "maxclients") 1 1000000) probed c.with_number-4.ensures.shape

pub returns-clause-local : goal.returns-clause-local
returns-clause-local c = c.with_number-4.ensures.local
