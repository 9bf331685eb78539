use Rattle.std.proofs.Common.{refl, subst}
use Rattle.mr_resp.specs.Command.{ReadsCommand}
use Rattle.mr_resp.specs.Usual.{commands}
use Rattle.mr_resp.specs.declared.request.Scan.{Scan}
use Rattle.mr_groups.proofs.Commands.{waits}
use Rattle.mr_groups.proofs.KnownTexts.{fresh_after, spent_by}
use Rattle.mr_groups.proofs.replaying.try_first.Goals as goal

pub returns-in-Ok-More-clause-tried : goal.returns-in-Ok-More-clause-tried
returns-in-Ok-More-clause-tried c =
    (refl, waits c.args.bytes.now c.args.dataset.now (subst (λ (s : Scan). ReadsCommand commands c.args.bytes.now s) c.in-Ok-More.field-0-is c.in-Ok-More.ensures.found))

pub returns-in-Ok-Whole-clause-after : goal.returns-in-Ok-Whole-clause-after
returns-in-Ok-Whole-clause-after c =
    let progress = c.next_command_from.new.progress in
    fresh_after progress c.try_command.result (spent_by progress c.in-Ok-Whole.field-0 _ c.in-Ok-Whole.field-0-is (λ never. never) c.in-Ok-Whole.ensures.spent)

pub returns-in-Ok-Bad-clause-after : goal.returns-in-Ok-Bad-clause-after
returns-in-Ok-Bad-clause-after c =
    let progress = c.next_command_from.new.progress in
    spent_by progress c.in-Ok-Bad.field-0 _ c.in-Ok-Bad.field-0-is (λ never. never) c.in-Ok-Bad.ensures.spent
