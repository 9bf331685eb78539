use Rattle.std.proofs.Common.{refl}
use Rattle.mr_trio.specs.Asking.{kept}
use Rattle.mr_trio.proofs.desk.Desk.renewed.Goals as goal

pub returns-then-not-has_ended-clause-from : goal.returns-then-not-has_ended-clause-from
returns-then-not-has_ended-clause-from c = kept c.args.client refl c.in-Ok.ensures.moves
