use Rattle.std.proofs.Common.{◌≡◌, Bool, true, false, sym}
use Rattle.mr_loop.proofs.host.Host.is_burdened.Goals as goal

true_false : (b : Bool) → b ≡ true → b ≡ false → ⊥
true_false b p q = cc

pub returns-then-is_too_much-clause-burdened : goal.returns-then-is_too_much-clause-burdened
returns-then-is_too_much-clause-burdened g c = λ is_true. record {
  client = c.is_client.ensures.0 is_true;
  connection = c.in-Some.connection.now;
  is = sym c.in-Some.ensures;
  too_much = c.is_too_much.ensures.0 c.if-is_too_much.true;
}

pub returns-then-is_too_much-clause-light : goal.returns-then-is_too_much-clause-light
returns-then-is_too_much-clause-light g c = λ is_false. record { few = λ client other there. absurd (true_false c.is_client.result (c.is_client.ensures.1 client) is_false) }
