use Rattle.std.proofs.Common.{arith}
use Rattle.std.proofs.lemmas.List.{length-map}
use Rattle.mr_map.specs.Bytes.{lent}
use Rattle.mr_data.proofs.Leaving.{goes_together}
use Rattle.mr_data.proofs.dataset.Dataset.named_together.Goals as goal

pub returns-clause-same : goal.returns-clause-same
returns-clause-same c =
    goes_together c.in_ok-key.key.now c.args.effects.now (lent c.in_ok-members.members.items) c.args.self.now c.in_ok-set.set.now (omega (arith, c.in-len2-up.len_at_least)) c.in_ok-set.ensures.set c.in_ok-members.ensures
    (omega (arith, c.if-len.false, c.len.ensures.len, c.len-2.ensures, c.in_ok-members.members.ok, length-map c.in_ok-members.members.items (λ m. m.now)))
