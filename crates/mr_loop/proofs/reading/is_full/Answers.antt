use Rattle.std.proofs.Common.{◌≡◌, Bool, true, false}
use Rattle.mr_loop.proofs.reading.is_full.Goals as goal

true_false : (b : Bool) → b ≡ true → b ≡ false → ⊥
true_false b p q = cc

pub returns-then-is_full : goal.returns-then-is_full
returns-then-is_full c = λ is_false client. absurd (true_false c.is_client.result (c.is_client.ensures.1 client) is_false)
